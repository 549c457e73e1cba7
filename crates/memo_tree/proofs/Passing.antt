-- A pass over a tree with its kept layouts.
use Rattle.std.proofs.Common.{◌≡◌, ◌∙◌, sym, ap, subst, ℕ, ◌+◌, arith, Bool, true, is_some, length}
use Rattle.std.specs.Option.{IsSome}
use Rattle.math_tree.specs.declared.node.Node.{Node}
use Rattle.layout_model.specs.declared.context.Context.{Context}
use Rattle.outcome_cells.specs.Store.{StoreValue}
use Rattle.kept_results.specs.Backed.{Grows, IsBacked}
use Rattle.kept_results.specs.Ends.{kept_count}
use Rattle.kept_results.specs.Grown.{GrownByPairs}
use Rattle.kept_results.specs.Kept.{Agrees, IsKept}
use Rattle.kept_results.specs.Passes.{Needs, Passes}
use Rattle.kept_results.specs.Tidy.{IsTidy}
use Rattle.kept_results.specs.declared.memo.Memo.{Memo}
use Rattle.kept_results.specs.declared.memo.Memo.TheViews.{out-Memo}
use Rattle.kept_results.proofs.Grown.{grown_cells_law}
use Rattle.kept_edits.specs.Passed.{TakesMissing}
use Rattle.memo_tree.specs.States.{IsChanged, IsPassed, IsStopped, at_checkpoint, without_pass}
use Rattle.memo_tree.specs.Trees.{HasRuns, MemoTreeValue, context_of}
use Rattle.memo_tree.proofs.Roots.{back_in_store, begun_at, of_tree, passed_of, still_in_pass, stopped_of, takes_missing}

-- ---- what it needs

module _ (old : MemoTreeValue) (root : Node) (begun : StoreValue) (changed : IsChanged old) (read : root ≡ old.tree.root) (began : begun ≡ begun_at old.store.runs) where
  pub begun_for : IsSome begun.checkpoint
  begun_for = ap (λ (s : StoreValue). is_some s.checkpoint) began

  pub agrees_for : Agrees old.metrics root old.memo
  agrees_for = subst (λ (n : Node). Agrees old.metrics n old.memo) (sym read) changed.ready.agrees

  pub backed_for : IsBacked old.metrics begun.runs root old.memo
  backed_for =
      subst (λ (s : StoreValue). IsBacked old.metrics s.runs root old.memo) (sym began)
      (subst (λ (n : Node). IsBacked old.metrics old.store.runs n old.memo) (sym read) changed.has_runs.backed)

-- ---- what it does

module _ (old : MemoTreeValue) (root : Node) (context : Context) (begun after : StoreValue) (memo : Memo) (from to : ℕ) (done : Bool) (changed : IsChanged old)
    (read : root ≡ old.tree.root) (made : context ≡ context_of old.metrics old.tree) (began : begun ≡ begun_at old.store.runs)
    (passes : Passes old.metrics root (Needs old.metrics root context) old.memo memo from to done) (grows : Grows old.metrics root old.memo memo begun after from to done) where
  abbrev pub laid_now : MemoTreeValue
  laid_now = record { tree = old.tree; metrics = old.metrics; memo = memo; store = after }

  -- without what it made all is as before
  pub before_now : without_pass laid_now ≡ old
  before_now =
      ap (λ (z : Memo). let v : MemoTreeValue = record { tree = old.tree; metrics = old.metrics; memo = z; store = at_checkpoint after } in v) (passes.same ∙ changed.ready.plain)
      ∙ ap (λ (s : StoreValue). let v : MemoTreeValue = record { tree = old.tree; metrics = old.metrics; memo = old.memo; store = s } in v)
      (back_in_store old.store begun after changed.idle began grows.only)

  runs_now : HasRuns laid_now
  runs_now = record { backed = subst (λ (n : Node). IsBacked old.metrics after.runs n memo) read grows.backed; own = grows.own changed.has_runs.own }

  pub stopped_now : IsTidy memo → IsStopped laid_now
  stopped_now tidy =
      stopped_of old laid_now changed (subst (λ (n : Node). Agrees old.metrics n memo) read passes.agrees) runs_now tidy
      (still_in_pass old.store begun after began grows.only) before_now

  pub passed_now : IsKept (out-Memo memo) context → IsTidy memo → IsPassed laid_now
  passed_now kept tidy = passed_of laid_now (stopped_now tidy) (subst (IsKept (out-Memo memo)) made kept)

  pub steps_now : TakesMissing old.metrics old.tree.root (context_of old.metrics old.tree) old.memo from to
  steps_now =
      of_tree old.metrics old.tree root context (λ (n : Node) (k : Context). TakesMissing old.metrics n k old.memo from to) read made
      (takes_missing old.metrics root context old.memo memo from to done passes)

  -- as many entries and runs came as steps were made
  pub all_now : done ≡ true → to + kept_count old.memo ≡ from + kept_count memo
  all_now is = omega (arith, passes.steps, passes.grown is)

  pub came_now : done ≡ true → length after.runs + from ≡ length old.store.runs + to
  came_now is = grows.counted is ∙ ap (λ (s : StoreValue). length s.runs + to) began

  -- and the cells of layouts that the one of the tree needs
  pub cells_now : done ≡ true → GrownByPairs old.metrics old.tree.root (Needs old.metrics old.tree.root (context_of old.metrics old.tree)) old.store.runs after.runs
  cells_now is =
      of_tree old.metrics old.tree root context (λ (n : Node) (k : Context). GrownByPairs old.metrics n (Needs old.metrics n k) old.store.runs after.runs) read made
      (subst (λ (s : StoreValue). GrownByPairs old.metrics root (Needs old.metrics root context) s.runs after.runs) began
      (grown_cells_law old.metrics root context old.memo memo begun after from to changed.has_runs.own
      (subst (Passes old.metrics root (Needs old.metrics root context) old.memo memo from to) is passes)
      (subst (Grows old.metrics root old.memo memo begun after from to) is grows)))
