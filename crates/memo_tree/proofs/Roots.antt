-- The context of a tree's root, and what is kept of its layout.
use Rattle.std.proofs.Common.{◌≡◌, ◌∙◌, refl, sym, ap, subst, ℕ, Bool, true, ◌≤◌, [], Option, Some, None, is_some}
use Rattle.std.proofs.lemmas.Bool.{false≢true}
use Rattle.std.specs.Option.{IsSome}
use Rattle.font_metrics.specs.Metrics.{MetricsValue}
use Rattle.math_tree.specs.Trees.{IsWhole, TreeValue}
use Rattle.math_tree.specs.declared.node.Node.{Node}
use Rattle.math_tree.specs.declared.node.Node.TheViews.{out-Node}
use Rattle.op_dictionary.specs.declared.operator.Form.TheVariants.{Infix}
use Rattle.style_scope.specs.Sizes.{IsStyle}
use Rattle.style_scope.specs.Styles.{root_style_of}
use Rattle.style_scope.specs.declared.style.Style.{Style}
use Rattle.layout_model.specs.Layout.{in_range, is_tree_in_range, root_context}
use Rattle.layout_model.specs.declared.context.Context.{Context}
use Rattle.layout_model.specs.declared.context.Stretch.TheVariants.{None as Unstretched}
use Rattle.outcome_cells.specs.Store.{Runs, StoreValue}
use Rattle.kept_results.specs.Backed.{HaveOwnRuns, IsBacked, OnlyGrows}
use Rattle.kept_results.specs.Contexts.{Suits}
use Rattle.kept_results.specs.Ends.{kept_count, sealed, settled, stripped}
use Rattle.kept_results.specs.Kept.{Agrees, HoldsOne, IsKept}
use Rattle.kept_results.specs.Passes.{Needs, Passes}
use Rattle.kept_results.specs.Tidy.{IsTidy}
use Rattle.kept_results.specs.declared.memo.Memo.{Memo}
use Rattle.kept_results.specs.declared.memo.Memo.TheViews.{out-Memo}
use Rattle.kept_results.proofs.Sealing.{seal_backed_law, seal_law, seal_own_runs_law}
use Rattle.kept_laid.proofs.Few.{limit_law}
use Rattle.kept_edits.specs.Need.{IsSealedFor}
use Rattle.kept_edits.specs.Passed.{TakesMissing}
use Rattle.kept_sweep.specs.Runs.{HaveOneRunEach}
use Rattle.kept_sweep.specs.Swept.{KeepsNeeded}
use Rattle.memo_tree.specs.States.{IsChanged, IsPassed, IsStopped, at_checkpoint, without_pass}
use Rattle.memo_tree.specs.Trees.{HasRuns, IsLaidOut, IsSwept, MemoTreeValue, context_of}

abbrev pub of_style : Style → Context
of_style style = record { style = style; form = Infix; stretch = Unstretched }

pub context_is : (m : MetricsValue) (tree : TreeValue) (root : Node) (style : Style) → root ≡ tree.root → style ≡ root_style_of m (out-Node root).head
    → of_style style ≡ context_of m tree
unfolding root_context
context_is m tree root style r s = ap of_style s ∙ ap (λ (n : Node). of_style (root_style_of m (out-Node n).head)) r

pub suits_root : (m : MetricsValue) (node : Node) (style : Style) → IsStyle style → Suits m node (of_style style)
suits_root m node style h = record { style = h; stretch = tt; carried = tt }

pub sealed_of : (m : MetricsValue) (node : Node) (context : Context) (memo : Memo) → KeepsNeeded m node context memo → IsSealedFor m node context memo
sealed_of m node context memo h = record {
  ready = record { agrees = h.agrees; plain = h.plain };
  unmarked = h.unmarked;
  kept = h.all record { path = []; context = context } record { element = node; made = (refl, refl) };
}

pub kept_of : (memo : Memo) (context : Context) → HoldsOne [] memo context → IsKept (out-Memo memo) context
kept_of memo context h = record { entry = h.entry; has = h.held; in_context = h.in_context }

pub laid_out : (m : MetricsValue) (tree : TreeValue) (root : Node) (context : Context) (memo : Memo) (store : StoreValue) → root ≡ tree.root → context ≡ context_of m tree
    → IsSealedFor m root context memo → IsBacked m store.runs root memo → HaveOwnRuns memo → store.checkpoint ≡ None → is_tree_in_range m tree ≡ true
    → IsLaidOut record { tree = tree; metrics = m; memo = memo; store = store }
laid_out m tree root context memo store r s h backed own idle fit = record {
  sealed = subst (λ (c : Context). IsSealedFor m tree.root c memo) s (subst (λ (n : Node). IsSealedFor m n context memo) r h);
  has_runs = record { backed = subst (λ (n : Node). IsBacked m store.runs n memo) r backed; own = own };
  idle = idle;
  fit = fit;
}

pub ranged : (m : MetricsValue) (tree : TreeValue) (root : Node) (context : Context) → root ≡ tree.root → context ≡ context_of m tree
    → in_range m root context ≡ is_tree_in_range m tree
ranged m tree root context r s = ap (λ (n : Node). in_range m n context) r ∙ ap (in_range m tree.root) s

-- a tree has few elements, and so few layouts are needed
pub few_kept : (m : MetricsValue) (tree : TreeValue) (root : Node) (context : Context) (memo : Memo) → root ≡ tree.root → Suits m tree.root context → IsWhole tree
    → KeepsNeeded m root context memo → kept_count memo ≤ 131_072
few_kept m tree root context memo r suits whole h =
    let all = subst (λ (n : Node). KeepsNeeded m n context memo) r h in
    limit_law m tree.root context memo suits.carried all.agrees all.no_other whole.few

pub few_swept : (laid : MemoTreeValue) → IsWhole laid.tree → IsSwept laid → kept_count laid.memo ≤ 131_072
unfolding root_context
few_swept laid whole h =
    let all = h.needed in
    limit_law laid.metrics laid.tree.root (context_of laid.metrics laid.tree) laid.memo tt all.agrees all.no_other whole.few

-- ---- passes

-- what holds of a root that was read, and of the context that was made for it
pub of_tree : (m : MetricsValue) (tree : TreeValue) (root : Node) (context : Context) (P : Node → Context → Type 0) → root ≡ tree.root → context ≡ context_of m tree
    → P root context → P tree.root (context_of m tree)
of_tree m tree root context P r s h = subst (P tree.root) s (subst (λ (n : Node). P n context) r h)

pub swept_of : (m : MetricsValue) (tree : TreeValue) (root : Node) (context : Context) (memo : Memo) (store : StoreValue) → root ≡ tree.root → context ≡ context_of m tree
    → KeepsNeeded m root context memo → HaveOneRunEach store.runs memo → IsSwept record { tree = tree; metrics = m; memo = memo; store = store }
swept_of m tree root context memo store r s h one = record { needed = of_tree m tree root context (λ n k. KeepsNeeded m n k memo) r s h; runs = one }

pub takes_missing : (m : MetricsValue) (node : Node) (context : Context) (before after : Memo) (from to : ℕ) (done : Bool)
    → Passes m node (Needs m node context) before after from to done → TakesMissing m node context before from to
takes_missing m node context before after from to done h = record { pairs = h.pairs; steps = h.steps; needed = h.needed_all; missing = h.missing; apart = h.apart }

pub stopped_of : (before laid : MemoTreeValue) → IsChanged before → Agrees laid.metrics laid.tree.root laid.memo → HasRuns laid → IsTidy laid.memo → IsSome laid.store.checkpoint
    → without_pass laid ≡ before → IsStopped laid
stopped_of before laid changed agrees has_runs tidy in_pass same = record {
  agrees = agrees;
  has_runs = has_runs;
  tidy = tidy;
  in_pass = in_pass;
  begun = subst IsChanged (sym same) changed;
}

pub passed_of : (laid : MemoTreeValue) → IsStopped laid → IsKept (out-Memo laid.memo) (context_of laid.metrics laid.tree) → IsPassed laid
passed_of laid stopped kept = record {
  stopped = stopped;
  kept = record { entry = kept.entry; held = kept.has; in_context = kept.in_context };
}

-- ---- stores in a pass

abbrev pub begun_at : Runs → StoreValue
begun_at runs = record { runs = runs; checkpoint = Some runs }

abbrev pub ended_at : Runs → StoreValue
ended_at runs = record { runs = runs; checkpoint = None }

idle_is : (store : StoreValue) → store.checkpoint ≡ None → ended_at store.runs ≡ store
idle_is store idle = ap (λ (o : Option Runs). let s : StoreValue = record { runs = store.runs; checkpoint = o } in s) (sym idle)

-- the runs at the checkpoint are those of before the pass
pub back_in_store : (old begun after : StoreValue) → old.checkpoint ≡ None → begun ≡ begun_at old.runs → OnlyGrows begun after → at_checkpoint after ≡ old
back_in_store old begun after idle began grows =
    ap (λ (o : Option Runs). at_checkpoint record { runs = after.runs; checkpoint = o }) (grows.checkpoint ∙ ap (λ (s : StoreValue). s.checkpoint) began) ∙ idle_is old idle

pub still_in_pass : (old begun after : StoreValue) → begun ≡ begun_at old.runs → OnlyGrows begun after → IsSome after.checkpoint
still_in_pass old begun after began grows =
    ap is_some (grows.checkpoint ∙ ap (λ (s : StoreValue). s.checkpoint) began)

by_checkpoint : (checkpoint : Option Runs) (after : StoreValue) → is_some checkpoint ≡ true → ((before : Runs) → checkpoint ≡ Some before → after ≡ ended_at before)
    → (runs : Runs) → after ≡ at_checkpoint record { runs = runs; checkpoint = checkpoint }
by_checkpoint None after some back runs = absurd (false≢true some)
by_checkpoint (Some before) after some back runs = back before refl

pub rolled_back : (old after : StoreValue) → IsSome old.checkpoint → ((before : Runs) → old.checkpoint ≡ Some before → after ≡ ended_at before) → after ≡ at_checkpoint old
rolled_back old after some back = by_checkpoint old.checkpoint after some back old.runs

-- ---- ends of passes

-- one that was taken back is as it was found
pub taken_back : (laid : MemoTreeValue) (memo : Memo) (store : StoreValue) → memo ≡ stripped laid.memo → store ≡ at_checkpoint laid.store
    → (let v : MemoTreeValue = record { tree = laid.tree; metrics = laid.metrics; memo = memo; store = store } in v) ≡ without_pass laid
taken_back laid memo store is back =
    ap (λ (z : Memo). let v : MemoTreeValue = record { tree = laid.tree; metrics = laid.metrics; memo = z; store = store } in v) is
    ∙ ap (λ (s : StoreValue). let v : MemoTreeValue = record { tree = laid.tree; metrics = laid.metrics; memo = stripped laid.memo; store = s } in v) back

-- a pass that was done is sealed
pub sealed_pass : (laid : MemoTreeValue) (memo : Memo) (store : StoreValue) → IsPassed laid → memo ≡ sealed laid.memo → store ≡ ended_at laid.store.runs
    → IsLaidOut record { tree = laid.tree; metrics = laid.metrics; memo = memo; store = store }
sealed_pass laid memo store h is ended =
    let m = laid.metrics in
    let root = laid.tree.root in
    let s = seal_law m root laid.memo h.stopped.agrees in
    let own = (h.stopped.agrees.at [] root laid.memo (refl, refl)).sound h.kept.entry h.kept.held in
    record {
      sealed = subst (IsSealedFor m root (context_of m laid.tree)) (sym is) record {
        ready = record { agrees = s.agrees; plain = s.plain };
        unmarked = s.unmarked;
        kept = record { entry = settled h.kept.entry; held = s.stays [] h.kept.entry h.kept.held; in_context = h.kept.in_context };
      };
      has_runs = record {
        backed = subst (λ (z : StoreValue). IsBacked m z.runs root memo) (sym ended)
            (subst (IsBacked m laid.store.runs root) (sym is) (seal_backed_law m laid.store.runs root laid.memo h.stopped.has_runs.backed));
        own = subst HaveOwnRuns (sym is) (seal_own_runs_law laid.memo h.stopped.has_runs.own);
      };
      idle = ap (λ (z : StoreValue). z.checkpoint) ended;
      fit = subst (λ (c : Context). in_range m root c ≡ true) h.kept.in_context own.fits;
    }
