-- A later next id makes no difference to the layouts that an edit needs which gives no ids.
use Rattle.std.proofs.Common.{◌≡◌, ◌⊎◌, inl, inr, sym, subst, ℕ, ◌≤◌, ◌^◌, List, [], ◌∷◌}
use Rattle.std.specs.List.{AllByRecursion}
use Rattle.font_metrics.specs.Metrics.{MetricsValue}
use Rattle.math_tree.specs.Trees.{TreeValue}
use Rattle.tree_edits.proofs.Later.{later_law}
use Rattle.tree_edits.specs.Edits.{edited}
use Rattle.tree_edits.specs.Inverses.{IsBack, with_next}
use Rattle.tree_edits.specs.declared.edit.Edit.{Edit}
use Rattle.memo_tree.specs.Kept.{HasId, IdPair, IsEditPath, IsNeeded, IsOnPath, IsVisited, TakesNeeded}
use Rattle.edit_ring.specs.Grounds.{StepsByElements}

visited_later : (m : MetricsValue) (tree : TreeValue) (next : ℕ) (pair : IdPair)
    → IsVisited m tree pair → IsVisited m (with_next next tree) pair
visited_later m tree next pair v = record {
  visit = v.visit;
  made = v.made;
  id_is = v.id_is;
  context_is = v.context_is;
}

visited_before : (m : MetricsValue) (tree : TreeValue) (next : ℕ) (pair : IdPair)
    → IsVisited m (with_next next tree) pair → IsVisited m tree pair
visited_before m tree next pair v = record {
  visit = v.visit;
  made = v.made;
  id_is = v.id_is;
  context_is = v.context_is;
}

on_path_later : (tree : TreeValue) (edit : Edit) (next id : ℕ) → IsOnPath tree edit id
    → IsOnPath (with_next next tree) edit id
on_path_later tree edit next id on =
    let end : IsEditPath (with_next next tree) edit on.path = record {
      element = on.to_end.element;
      at = on.to_end.at;
      ends = on.to_end.ends;
    } in
    record {
      path = on.path;
      to_end = end;
      front = on.front;
      rest = on.rest;
      parts = on.parts;
      element = on.element;
      at = on.at;
      has = on.has;
    }

why_later : (m : MetricsValue) (tree : TreeValue) (edit : Edit) (next : ℕ) (pair : IdPair)
    → IsOnPath tree edit pair.id ⊎ ((HasId tree pair.id → ⊥) ⊎ (IsVisited m tree pair → ⊥))
    → IsOnPath (with_next next tree) edit pair.id
    ⊎ ((HasId (with_next next tree) pair.id → ⊥) ⊎ (IsVisited m (with_next next tree) pair → ⊥))
why_later m tree edit next pair (inl on) = inl (on_path_later tree edit next pair.id on)
why_later m tree edit next pair (inr (inl absent)) = inr (inl absent)
why_later m tree edit next pair (inr (inr unvisited)) = inr
    (inr (λ v. unvisited (visited_before m tree next pair v)))

module _ (m : MetricsValue) (tree : TreeValue) (edit : Edit) (next : ℕ)
    (same : edited (with_next next tree) edit ≡ with_next next (edited tree edit)) where
  needed_later : (pairs : List IdPair) → AllByRecursion (IsNeeded m tree edit) pairs
      → AllByRecursion (IsNeeded m (with_next next tree) edit) pairs
  needed_later [] h = tt
  needed_later (pair ∷ pairs) h = (
    record {
      visited = subst (λ (t : TreeValue). IsVisited m t pair) (sym same)
          (visited_later m (edited tree edit) next pair h.0.visited);
      why = why_later m tree edit next pair h.0.why;
    },
    needed_later pairs h.1,
  )

pub steps_by_elements : StepsByElements TakesNeeded
steps_by_elements m tree edit next from to back le fits takes = record {
  pairs = takes.pairs;
  steps = takes.steps;
  needed = needed_later m tree edit next (later_law tree edit next back le fits).1 takes.pairs
      takes.needed;
  apart = takes.apart;
}
