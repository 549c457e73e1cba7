-- An edit of a tree with its kept layouts.
use Rattle.std.proofs.Common.{◌≡◌, ◌∙◌, sym, ap, subst, ◌+◌, List, [], ◌∷◌}
use Rattle.std.specs.List.{AllByRecursion}
use Rattle.font_metrics.specs.Metrics.{MetricsValue}
use Rattle.math_tree.specs.Trees.{IsWhole, TreeValue}
use Rattle.math_tree.specs.declared.node.Node.{Node}
use Rattle.tree_edits.specs.Applying.{TakenValue, Undoes}
use Rattle.tree_edits.specs.Edits.{edited}
use Rattle.tree_edits.specs.declared.edit.Edit.{Edit}
use Rattle.kept_results.specs.Backed.{IsBacked}
use Rattle.kept_results.specs.Passes.{Pair}
use Rattle.kept_results.specs.declared.memo.Memo.{Memo}
use Rattle.kept_results.proofs.Whole.{kept_law}
use Rattle.kept_edits.specs.ByIds.{IsEditAt, IsVisited}
use Rattle.kept_edits.specs.Changed.{undone_memo}
use Rattle.kept_edits.specs.Laws.{IsReadyFor}
use Rattle.splices.specs.declared.splice.Splice.{Splice}
use Rattle.kept_edits.specs.Passed.{TakesMissing}
use Rattle.kept_edits.proofs.ToldById.{IsNeededThere, all_named, as_many, missing_need, none_twice, visited}
use Rattle.memo_tree.specs.Counted.{EntriesStay, MissingIsCounted, StepsLaw, VisitsLaw}
use Rattle.kept_edits.specs.Followed.{IsBefore, IsFollowed}
use Rattle.memo_tree.specs.Marked.{EachStays, MarksPath, NewIsBlank}
use Rattle.memo_tree.specs.Reversing.{Reverses}
use Rattle.memo_tree.specs.States.{IsChanged}
use Rattle.memo_tree.specs.Trees.{IsLaidOut, MemoTreeValue, context_of}
use Rattle.kept_edits.specs.Ways.{IsWay}
use Rattle.kept_edits.specs.declared.way.Way.{Way}
use Rattle.memo_tree.proofs.Marks.{blank_put, path_marked, stays_elsewhere, stays_on}
use Rattle.kept_edits.proofs.Undone.{backed_then, own_then, ready_then, stays_then, tidy_then}

module _ (old : MemoTreeValue) (edit : Edit) (way : Way) (tree : TreeValue) (root : Node) (laid : IsLaidOut old) (is : IsWay old.tree edit way) (made : tree ≡ edited old.tree edit)
    (read : root ≡ tree.root) where
  -- the memo before the edit, beside the edited tree
  abbrev pub before : IsBefore root old.memo way
  before = record {
    metrics = old.metrics;
    old = old.tree.root;
    change = is.change;
    fits = is.is.fits;
    gives = read ∙ ap (λ (t : TreeValue). t.root) made ∙ is.is.gives;
    site_is = is.site_is;
    ready = laid.sealed.ready;
    unmarked = laid.sealed.unmarked;
  }

  module _ (now : Memo) (back : Splice Memo) (h : IsFollowed root old.memo way before now back) where
    pub changed_now : IsChanged record { tree = tree; metrics = old.metrics; memo = now; store = old.store }
    changed_now = record {
      ready = subst (λ (n : Node). IsReadyFor old.metrics n now) read (ready_then root old.memo now way before h.spliced);
      has_runs = record {
        backed = subst (λ (n : Node). IsBacked old.metrics old.store.runs n now) read (backed_then root old.memo now way before h.spliced old.store.runs laid.has_runs.backed);
        own = own_then root old.memo now way before h.spliced laid.has_runs.own;
      };
      idle = laid.idle;
      tidy = tidy_then root old.memo now way before h.spliced;
    }

    pub reverses : (taken : TakenValue) → Undoes taken tree old.tree
        → Reverses record { taken = taken; path = way.path; back = back } record { tree = tree; metrics = old.metrics; memo = now; store = old.store } old
    reverses taken undoes = record {
      can = record { tree = undoes.can; memo = h.fits };
      gives = ap (λ (t : TreeValue). record { tree = t; metrics = old.metrics; memo = undone_memo back way.path now; store = old.store }) undoes.gives
          ∙ ap (λ (z : Memo). record { tree = old.tree; metrics = old.metrics; memo = z; store = old.store }) h.gives;
    }

    is_edit_at : IsWhole old.tree → IsWhole tree → IsEditAt old.tree edit is.change way.path
    is_edit_at whole after = record { whole = whole; whole_after = subst IsWhole made after; to_end = is.leads; is = is.is; free = is.free }

    -- what was needed and is of elements that the edit leaves alone is kept
    pub counted : IsWhole old.tree → IsWhole tree → MissingIsCounted old edit record { tree = tree; metrics = old.metrics; memo = now; store = old.store }
    counted whole after = record {
      path = way.path;
      change = is.change;
      is = is_edit_at whole after;
      counted = λ pair missing from came need.
          let one = kept_law old.metrics old.tree.root old.memo (context_of old.metrics old.tree) laid.sealed.ready.agrees laid.sealed.kept record { path = from; context = pair.context } need in
          missing record { entry = one.entry; held = stays_then root old.memo now way before h.spliced from pair.path one.entry came one.held; in_context = one.in_context };
    }

    pub stays : IsWhole old.tree → IsWhole tree → EntriesStay old edit record { tree = tree; metrics = old.metrics; memo = now; store = old.store }
    stays whole after = record {
      path = way.path;
      change = is.change;
      is = is_edit_at whole after;
      stays = stays_then root old.memo now way before h.spliced;
    }

    -- ---- each memo

    pub new_blank : IsWhole old.tree → IsWhole tree → NewIsBlank old edit record { tree = tree; metrics = old.metrics; memo = now; store = old.store }
    new_blank whole after = record {
      path = way.path;
      change = is.change;
      is = is_edit_at whole after;
      is_blank = blank_put is.change way.path root old.memo now h.spliced;
    }

    pub marks_path : MarksPath old edit record { tree = tree; metrics = old.metrics; memo = now; store = old.store }
    marks_path = record {
      path = way.path;
      to_end = is.leads;
      marked = path_marked is.change way.path root old.memo now h.spliced old.metrics laid.sealed.unmarked;
    }

    pub each_stays : IsWhole old.tree → IsWhole tree → EachStays old edit record { tree = tree; metrics = old.metrics; memo = now; store = old.store }
    each_stays whole after = record {
      path = way.path;
      change = is.change;
      is = is_edit_at whole after;
      on_path = stays_on is.change way.path root old.memo now h.spliced;
      elsewhere = stays_elsewhere is.change way.path root old.memo now h.spliced;
    }

-- ---- the steps of a pass after it

pub steps_law : StepsLaw
steps_law old new edit from to h tree metrics takes =
    missing_need old.metrics old.tree edit h.change h.path new.memo from to h.is h.counted
    (subst (λ (t : TreeValue). TakesMissing old.metrics t.root (context_of old.metrics t) new.memo from to) tree
    (subst (λ (m : MetricsValue). TakesMissing m new.tree.root (context_of m new.tree) new.memo from to) metrics takes))

-- ---- the steps that lay a tree out

all_visited : (m : MetricsValue) (tree : TreeValue) (pairs : List Pair) (needs : AllByRecursion (IsNeededThere m tree) pairs)
    → AllByRecursion (IsVisited m tree) (all_named m tree pairs needs)
all_visited m tree [] needs = tt
all_visited m tree (pair ∷ pairs) needs = (visited m tree pair needs.0, all_visited m tree pairs needs.1)

pub visits_law : VisitsLaw
visits_law m tree from to whole counts = record {
  pairs = all_named m tree counts.pairs counts.needed;
  steps = counts.steps ∙ ap (λ n. from + n) (sym (as_many m tree counts.pairs counts.needed));
  visited = all_visited m tree counts.pairs counts.needed;
  apart = none_twice m tree whole counts.pairs counts.needed counts.apart;
}
