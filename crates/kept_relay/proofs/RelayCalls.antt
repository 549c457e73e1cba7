-- What the calls of a pass over an element share: the parts of a pass that is for its layout, and
-- what holds by what a call has given.
use Rattle.std.proofs.Common.{◌≡◌, refl, subst, ℕ, ◌+◌, Bool, true, false, [], Option, Some, None, IfNone, IfSome, Result, Ok, Err, IfOk, IsErr, OnOk, OnErr}
use Rattle.font_metrics.specs.Metrics.{MetricsValue}
use Rattle.math_tree.specs.declared.node.Node.{Node}
use Rattle.layout_model.specs.declared.context.Context.{Context}
use Rattle.layout_model.specs.declared.outcome.Answer.{Answer}
use Rattle.outcome_cells.specs.Store.{StoreValue}
use Rattle.kept_results.specs.Backed.{Grows, IsBacked}
use Rattle.kept_results.specs.Kept.{Agrees, IsMissing, IsSound, is_marked}
use Rattle.kept_results.specs.Passes.{Needs, Passes}
use Rattle.kept_results.specs.declared.memo.Entry.{Entry}
use Rattle.kept_results.specs.declared.memo.Memo.{Memo}
use Rattle.kept_results.specs.declared.memo.Memo.TheViews.{out-Memo, roll-Memo}
use Rattle.kept_results.specs.declared.memo.Origin.TheVariants.{Made}
use Rattle.kept_results.proofs.Agreement.{added}
use Rattle.kept_results.proofs.Backed.{grows_none}
use Rattle.kept_results.proofs.Passing.{pair_at, passes_added, passes_none, passes_step}

-- ---- the layout of an element

pub own_need : (m : MetricsValue) (node : Node) (context : Context) → Needs m node context (pair_at [] context)
own_need m node context = record { element = node; made = (refl, refl) }

module _ {m : MetricsValue} {node : Node} {context : Context} {memo : Memo} (agrees : Agrees m node memo) where
  pub nothing_done : {from : ℕ} {done : Bool} → Passes m node (Needs m node context) memo memo from from done
  nothing_done {from} {done} = passes_none m node (Needs m node context) memo from done agrees

  module _ {from to : ℕ} (missing : IsMissing (is_marked (out-Memo memo)) context (out-Memo memo).entries) (step : to ≡ from + 1) where
    -- its own step, whose outcome isn't kept
    pub own_step : Passes m node (Needs m node context) memo memo from to false
    own_step = passes_step m node (Needs m node context) memo context from to agrees missing (own_need m node context) step

    -- its own step, whose outcome is a new entry
    pub own_entry : (entry : Entry) → IsSound m node (out-Memo memo).below entry → entry.context ≡ context → entry.origin ≡ Made
        → Passes m node (Needs m node context) memo (roll-Memo (added memo entry)) from to true
    own_entry entry sound here made =
        passes_added m node (Needs m node context) memo entry context from to agrees sound missing here made (own_need m node context) step

pub unchanged_store : {m : MetricsValue} {node : Node} {memo : Memo} {store : StoreValue} {from : ℕ} {done : Bool} → IsBacked m store.runs node memo
    → Grows m node memo memo store store from from done
unchanged_store {m} {node} {memo} {store} {from} {done} backed = grows_none m node memo store from done backed

-- ---- what a call has given

pub none_of : (found : Option Answer) (P : Type 0) → found ≡ None → IfNone found P → P
none_of found P e h = subst (λ (o : Option Answer). IfNone o P) e h

pub some_of : (found : Option Answer) (answer : Answer) (P : Answer → Type 0) → found ≡ Some answer → IfSome found P → P answer
some_of found answer P e h = subst (λ (o : Option Answer). IfSome o P) e h

pub on_both : {A : Type 0} {E : Type 0} (r : Result A E) {X Y P : Type 0} → OnOk r X → OnOk r Y → (X → Y → P) → OnOk r P
on_both (Ok a) x y f = f x y
on_both (Err e) x y f = tt

pub on_each : {A : Type 0} {E : Type 0} (r : Result A E) {X Y Z P : Type 0} → OnOk r X → OnOk r Y → OnErr r Z → (X → Y → P) → (Z → P) → P
on_each (Ok a) x y z f k = f x y
on_each (Err e) x y z f k = k z

pub not_ok : {A : Type 0} {E : Type 0} (r : Result A E) (P : A → Type 0) → IsErr r → IfOk r P
not_ok (Ok a) P h = cc
not_ok (Err e) P h = tt

pub ok_is_not_err : {A E P : Type 0} (a : A) (e : E) → Ok a ≡ Err e → P
ok_is_not_err a e same = cc

pub err_both : {A : Type 0} {E : Type 0} (r : Result A E) (X Y : Type 0) → OnErr r X → OnErr r Y → OnErr r (X × Y)
err_both (Ok a) X Y x y = tt
err_both (Err e) X Y x y = (x, y)

pub on_err : {A : Type 0} {E : Type 0} (r : Result A E) {X : Type 0} → X → OnErr r X
on_err (Ok a) x = tt
on_err (Err e) x = x
