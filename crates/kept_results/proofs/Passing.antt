-- How passes follow one another.
use Rattle.std.proofs.Common.{◌≡◌, ◌∙◌, refl, sym, ap, subst, ℕ, ◌+◌, arith, Bool, true, false, List, [], ◌∷◌, ◌++◌, length-append, map, Some, slice_get}
use Rattle.std.proofs.lemmas.List.{length-map}
use Rattle.std.specs.List.{AllByRecursion}
use Rattle.font_metrics.specs.Metrics.{MetricsValue}
use Rattle.math_tree.specs.declared.node.Node.{Node}
use Rattle.math_tree.specs.declared.node.Node.TheViews.{out-Node}
use Rattle.layout_model.specs.declared.context.Context.{Context}
use Rattle.kept_results.specs.Kept.{Agrees, Holds, HoldsIn, IsMissing, IsSound, is_fresh, is_live, is_fresh_from, is_marked}
use Rattle.kept_results.specs.Ends.{undone}
use Rattle.kept_results.specs.Looking.{with_entry}
use Rattle.kept_results.specs.Passes.{HasNoRepeat, IsPairKept, IsPairMissing, Pair, Passes}
use Rattle.kept_results.specs.declared.memo.Entry.{Entry}
use Rattle.kept_results.specs.declared.memo.Memo.{Memo}
use Rattle.kept_results.specs.declared.memo.Memo.TheOpen.{Memo-F}
use Rattle.kept_results.specs.declared.memo.Origin.TheVariants.{Made}
use Rattle.kept_results.specs.declared.memo.Memo.TheViews.{out-Memo, out-roll-Memo, roll-Memo}
use Rattle.kept_results.proofs.Agreement.{added, agrees_added, agrees_put, agrees_renewed, has_added, has_put, holds_one, keeps_added, keeps_both, keeps_put, keeps_renewed, keeps_same, missing_kept, renewed}
use Rattle.kept_results.proofs.Counts.{count_added, count_put, count_renewed, stripped_added, stripped_put, stripped_renewed}
use Rattle.kept_results.proofs.Lists.{all_both, all_mapped, all_then, one_place, set_here}

-- ---- pairs

abbrev pub pair_at : List ℕ → Context → Pair
pair_at path context = record { path = path; context = context }

-- the same pair, as it is seen from the parent of the child at a place
abbrev pub under : ℕ → Pair → Pair
under place pair = record { path = place ∷ pair.path; context = pair.context }

rest_of : List ℕ → List ℕ
rest_of [] = []
rest_of (place ∷ path) = path

under_once : (place : ℕ) (p q : Pair) → under place p ≡ under place q → p ≡ q
unfolding rest_of
under_once place p q e = λ i. record { path = rest_of (e i).path; context = (e i).context }

no_repeat_under : (place : ℕ) (pairs : List Pair) → HasNoRepeat pairs → HasNoRepeat (map (under place) pairs)
no_repeat_under place [] h = tt
no_repeat_under place (p ∷ pairs) h = (
  all_mapped (λ q. p ≡ q → ⊥) (λ q. under place p ≡ q → ⊥) (under place) (λ q other e. other (under_once place p q e)) pairs h.0,
  no_repeat_under place pairs h.1,
)

-- pairs that are kept, and then pairs that are missing
no_repeat_both : (memo : Memo) (ps qs : List Pair) → HasNoRepeat ps → HasNoRepeat qs → AllByRecursion (IsPairKept memo) ps → AllByRecursion (IsPairMissing memo) qs → HasNoRepeat (ps ++ qs)
no_repeat_both memo [] qs h k held missing = k
no_repeat_both memo (p ∷ ps) qs h k held missing = (
  all_both (λ q. p ≡ q → ⊥) ps qs h.0 (all_then (IsPairMissing memo) (λ q. p ≡ q → ⊥) (λ q none e. none (subst (IsPairKept memo) e held.0)) qs missing),
  no_repeat_both memo ps qs h.1 k held.1 missing,
)

-- ---- passes

pub fresh_live : (marked : Bool) (entry : Entry) → is_fresh entry ≡ true → is_live marked entry ≡ true
fresh_live true entry h = h
fresh_live false entry h = refl

module _ (m : MetricsValue) where
  pub passes_none : (node : Node) (needed : Pair → Type 0) (memo : Memo) (from : ℕ) (done : Bool) → Agrees m node memo → Passes m node needed memo memo from from done
  passes_none node needed memo from done h = record {
    agrees = h;
    same = refl;
    keeps = keeps_same memo;
    pairs = [];
    steps = omega arith;
    needed_all = tt;
    missing = tt;
    apart = tt;
    kept = λ _. tt;
    grown = λ _. omega arith;
  }

  pub passes_both : {node : Node} {needed : Pair → Type 0} {a b d : Memo} {from mid to : ℕ} {done : Bool} → Passes m node needed a b from mid true
      → Passes m node needed b d mid to done → Passes m node needed a d from to done
  passes_both {node} {needed} {a} {b} {d} {from} {mid} {to} {done} h k = record {
    agrees = k.agrees;
    same = k.same ∙ h.same;
    keeps = keeps_both h.keeps k.keeps;
    pairs = h.pairs ++ k.pairs;
    steps = let l = length-append h.pairs k.pairs in let f = h.steps in let g = k.steps in omega arith;
    needed_all = all_both needed h.pairs k.pairs h.needed_all k.needed_all;
    missing = all_both (IsPairMissing a) h.pairs k.pairs h.missing
        (all_then (IsPairMissing b) (IsPairMissing a) (λ p none one. none (holds_one h.keeps p.path p.context one)) k.pairs k.missing);
    apart = no_repeat_both b h.pairs k.pairs h.apart k.apart (h.kept refl) k.missing;
    kept = λ e. all_both (IsPairKept d) h.pairs k.pairs
        (all_then (IsPairKept b) (IsPairKept d) (λ p one. holds_one k.keeps p.path p.context one) h.pairs (h.kept refl)) (k.kept e);
    grown = λ e. let l = length-append h.pairs k.pairs in let f = h.grown refl in let g = k.grown e in omega arith;
  }

  pub passes_partly : {node : Node} {needed : Pair → Type 0} {a b : Memo} {from to : ℕ} → Passes m node needed a b from to true → Passes m node needed a b from to false
  passes_partly h = record {
    agrees = h.agrees;
    same = h.same;
    keeps = h.keeps;
    pairs = h.pairs;
    steps = h.steps;
    needed_all = h.needed_all;
    missing = h.missing;
    apart = h.apart;
    kept = λ _. h.kept refl;
    grown = λ _. h.grown refl;
  }

  -- the same pass, where more is needed
  pub passes_wider : {node : Node} {needed : Pair → Type 0} {a b : Memo} {from to : ℕ} {done : Bool} (wider : Pair → Type 0) → ((p : Pair) → needed p → wider p)
      → Passes m node needed a b from to done → Passes m node wider a b from to done
  passes_wider {node} {needed} wider f h = record {
    agrees = h.agrees;
    same = h.same;
    keeps = h.keeps;
    pairs = h.pairs;
    steps = h.steps;
    needed_all = all_then needed wider f h.pairs h.needed_all;
    missing = h.missing;
    apart = h.apart;
    kept = h.kept;
    grown = h.grown;
  }

  -- a pass over one child
  pub passes_under : {child : Node} {needed : Pair → Type 0} {old new : Memo} {from to : ℕ} {done : Bool} (node : Node) (memo : Memo) (place : ℕ) (wider : Pair → Type 0)
      → Agrees m node memo → slice_get (out-Node node).children place ≡ Some child → slice_get (out-Memo memo).below place ≡ Some old
      → ((p : Pair) → needed p → wider (under place p)) → Passes m child needed old new from to done
      → Passes m node wider memo (roll-Memo (renewed memo place new)) from to done
  passes_under {child} {needed} {old} {new} node memo place wider h at_node at f k =
      let now : Memo = roll-Memo (renewed memo place new) in
      record {
        agrees = agrees_renewed m node memo place child old new h at_node at k.agrees k.keeps;
        same = stripped_renewed memo place old new at k.same;
        keeps = keeps_renewed memo place old new at k.keeps;
        pairs = map (under place) k.pairs;
        steps = let l = length-map k.pairs (under place) in let g = k.steps in omega arith;
        needed_all = all_mapped needed wider (under place) f k.pairs k.needed_all;
        missing = all_mapped (IsPairMissing old) (IsPairMissing memo) (under place)
            (λ p none one. none record {
              entry = one.entry;
              held = subst (λ (z : Memo). Holds p.path z one.entry) (one_place (out-Memo memo).below place place one.held.0 old refl one.held.1 at) one.held.2;
              in_context = one.in_context;
            }) k.pairs k.missing;
        apart = no_repeat_under place k.pairs k.apart;
        kept = λ e. all_mapped (IsPairKept new) (IsPairKept now) (under place)
            (λ p one. record {
              entry = one.entry;
              held = subst (λ (l : Memo-F Memo). HoldsIn (place ∷ p.path) l one.entry) (sym (out-roll-Memo (renewed memo place new)))
                  (new, set_here (out-Memo memo).below place new old at, one.held);
              in_context = one.in_context;
            }) k.pairs (k.kept e);
        grown = λ e. let l = length-map k.pairs (under place) in let g = k.grown e in let s = count_renewed memo place old new at in omega arith;
      }

  missing_here : (memo : Memo) (context : Context) → IsMissing (is_marked (out-Memo memo)) context (out-Memo memo).entries → IsPairMissing memo (pair_at [] context)
  missing_here memo context h one =
      missing_kept (is_marked (out-Memo memo)) context (out-Memo memo).entries one.held.place one.entry h one.held.at one.held.live one.in_context

  -- one step, whose outcome is kept
  pub passes_added : (node : Node) (needed : Pair → Type 0) (memo : Memo) (more : Entry) (context : Context) (from to : ℕ) → Agrees m node memo
      → IsSound m node (out-Memo memo).below more → IsMissing (is_marked (out-Memo memo)) context (out-Memo memo).entries → more.context ≡ context → more.origin ≡ Made
      → needed (pair_at [] context) → to ≡ from + 1 → Passes m node needed memo (roll-Memo (added memo more)) from to true
  passes_added node needed memo more context from to h sound missing is made need step =
      let fresh : is_fresh more ≡ true = ap is_fresh_from made in
      let live = fresh_live (is_marked (out-Memo memo)) more fresh in
      record {
        agrees = agrees_added m node memo more h sound (subst (λ (x : Context). IsMissing (is_marked (out-Memo memo)) x (out-Memo memo).entries) (sym is) missing) fresh;
        same = stripped_added memo more made;
        keeps = keeps_added memo more;
        pairs = pair_at [] context ∷ [];
        steps = step;
        needed_all = (need, tt);
        missing = (missing_here memo context missing, tt);
        apart = (tt, tt);
        kept = λ _. (record { entry = more; held = has_added memo more live; in_context = is }, tt);
        grown = λ _. count_added memo more live;
      }

  -- one step, whose outcome is kept in place of an older one
  pub passes_put : (node : Node) (needed : Pair → Type 0) (memo : Memo) (place : ℕ) (old new : Entry) (context : Context) (from to : ℕ) → Agrees m node memo
      → slice_get (out-Memo memo).entries place ≡ Some old → is_live (is_marked (out-Memo memo)) old ≡ false → undone new ≡ undone old
      → IsSound m node (out-Memo memo).below new → IsMissing (is_marked (out-Memo memo)) context (out-Memo memo).entries → new.context ≡ context → is_fresh new ≡ true
      → needed (pair_at [] context) → to ≡ from + 1 → Passes m node needed memo (roll-Memo (with_entry memo place new)) from to true
  passes_put node needed memo place old new context from to h at older same sound missing is fresh need step =
      let live = fresh_live (is_marked (out-Memo memo)) new fresh in
      record {
        agrees = agrees_put m node memo place new h sound (subst (λ (x : Context). IsMissing (is_marked (out-Memo memo)) x (out-Memo memo).entries) (sym is) missing) fresh;
        same = stripped_put memo place old new at same;
        keeps = keeps_put memo place old new at older;
        pairs = pair_at [] context ∷ [];
        steps = step;
        needed_all = (need, tt);
        missing = (missing_here memo context missing, tt);
        apart = (tt, tt);
        kept = λ _. (record { entry = new; held = has_put memo place old new at older live; in_context = is }, tt);
        grown = λ _. count_put memo place old new at older live;
      }

  -- one step, whose outcome isn't kept
  pub passes_step : (node : Node) (needed : Pair → Type 0) (memo : Memo) (context : Context) (from to : ℕ) → Agrees m node memo
      → IsMissing (is_marked (out-Memo memo)) context (out-Memo memo).entries → needed (pair_at [] context) → to ≡ from + 1 → Passes m node needed memo memo from to false
  passes_step node needed memo context from to h missing need step = record {
    agrees = h;
    same = refl;
    keeps = keeps_same memo;
    pairs = pair_at [] context ∷ [];
    steps = step;
    needed_all = (need, tt);
    missing = (missing_here memo context missing, tt);
    apart = (tt, tt);
    kept = λ (e : false ≡ true). cc;
    grown = λ (e : false ≡ true). cc;
  }
