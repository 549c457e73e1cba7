-- What a refused pass over an element leaves, once its trace beside the entered child is undone.
use Rattle.std.proofs.Common.{◌≡◌, ◌∙◌, ◌⊎◌, inl, inr, refl, sym, ap, subst, ℕ, zero, suc, arith, Bool, true, false, true≢false, cond, not, ◌&&◌, List, [], ◌∷◌, length, set, Option, None, Some, slice_get, is_some, Result, Ok, Err, IfOk, OnErr}
use Rattle.std.proofs.lemmas.Option.{none-some, same_Some, slice_get-map, slice_get_within}
use Rattle.std.specs.Option.{option_and_then, option_map}
use Rattle.std.specs.Result.{is_err}
use Rattle.font_metrics.specs.Metrics.{MetricsValue}
use Rattle.math_tree.specs.declared.node.Node.{Node}
use Rattle.math_tree.specs.declared.node.Node.TheViews.{out-Node}
use Rattle.outcome_cells.specs.Store.{StoreValue}
use Rattle.kept_results.specs.Backed.{Grows, IsBacked}
use Rattle.kept_results.specs.Ends.{IsUndoneBut, stripped}
use Rattle.kept_results.specs.Kept.{Agrees, Holds, Keeps, alike_but, is_marked}
use Rattle.kept_results.specs.Passes.{Pair, Passes}
use Rattle.kept_results.specs.Tidy.{AreTidy, IsTidy, StaysCalm, has_none_fresh, has_none_new, is_calm, only_entered, only_touched}
use Rattle.kept_results.specs.declared.memo.Entry.{Entry}
use Rattle.kept_results.specs.declared.memo.Former.{Former}
use Rattle.kept_results.specs.declared.memo.Memo.{Memo}
use Rattle.kept_results.specs.declared.memo.Memo.TheOpen.{Memo-F}
use Rattle.kept_results.specs.declared.memo.Memo.TheViews.{out-Memo, out-roll-Memo, roll-Memo, roll-out-Memo}
use Rattle.kept_results.proofs.Agreement.{agrees_child, agrees_renewed, keeps_renewed, keeps_same, renewed}
use Rattle.kept_results.proofs.Backed.{backed_child, backed_more, backed_renewed, held_renewed}
use Rattle.kept_results.proofs.Counts.{stripped_out, stripped_renewed}
use Rattle.kept_results.proofs.Lists.{one_place, same_places, set_elsewhere, set_here, set_other}
use Rattle.kept_results.proofs.Shown.{there_is}
use Rattle.kept_results.proofs.Tidying.{calm_stripped, only_parts, others_stripped, stripped_layers, tidy_below, tidy_made, tidy_set}

-- ---- an element of which one child may be touched

alike_marked : (former : Option Former) (child : ℕ) → option_and_then (λ (f : Former). f.alike_but) former ≡ Some child → is_some former ≡ true
alike_marked None child h = absurd (none-some child h)
alike_marked (Some former) child h = refl

-- where the child on the way to the edit is renewed, an element stays tidy
pub tidy_child : (memo : Memo) (child : ℕ) (new : Memo) → alike_but (out-Memo memo) ≡ Some child → IsTidy memo → IsTidy new → IsTidy (roll-Memo (renewed memo child new))
tidy_child memo child new alike tidy new_tidy =
    let layer : Memo-F Memo = out-Memo memo in
    let mark : is_marked layer ≡ true = alike_marked layer.former child alike in
    tidy_made (renewed memo child new) record {
      all = λ calm. absurd (true≢false (sym calm ∙ ap (λ (b : Bool). not b && has_none_fresh layer.entries) mark));
      others = λ only touched place below at other.
          elim (set_other layer.below child place new below at) [
            | inl p ↦ absurd (other (p.0 ∙ same_Some child only (sym alike ∙ (only_parts layer only touched).0)))
            | inr q ↦ (tidy.at [] memo refl).others only touched place below q.1 other
          ];
    } (tidy_set layer.below child new (tidy_below memo tidy) new_tidy)

-- ---- where the end of a pass goes

entered_cases : (layer : Memo-F Memo) (child : ℕ) → only_entered layer ≡ Some child → (is_calm layer ≡ true) ⊎ (only_touched layer ≡ Some child)
entered_cases layer child h = by (is_calm layer) refl h
  where
    by : (b : Bool) → is_calm layer ≡ b → cond b (Some (length layer.below)) (only_touched layer) ≡ Some child → (is_calm layer ≡ true) ⊎ (only_touched layer ≡ Some child)
    by true e h = inl e
    by false e h = inr h

entered_there : (layer : Memo-F Memo) (child : ℕ) → only_entered layer ≡ Some child → (below : Memo) → slice_get layer.below child ≡ Some below → only_touched layer ≡ Some child
entered_there layer child h below at = by (is_calm layer) h
  where
    by : (b : Bool) → cond b (Some (length layer.below)) (only_touched layer) ≡ Some child → only_touched layer ≡ Some child
    by true h =
        let within = slice_get_within layer.below child below at in
        absurd (omega (arith, within, same_Some (length layer.below) child h))
    by false h = h

none_entered : (layer : Memo-F Memo) → only_entered layer ≡ None → StaysCalm layer
none_entered layer h = by (is_calm layer) refl h
  where
    by : (b : Bool) → is_calm layer ≡ b → cond b (Some (length layer.below)) (only_touched layer) ≡ None → StaysCalm layer
    by true e h = absurd (none-some (length layer.below) (sym h))
    by false e h = record {
      all = λ calm. absurd (true≢false (sym calm ∙ e));
      others = λ child only. absurd (none-some child (sym h ∙ only));
    }

tidy_unentered : (memo : Memo) → only_entered (out-Memo memo) ≡ None → AreTidy (out-Memo memo).below → IsTidy memo
tidy_unentered memo none below = subst IsTidy (roll-out-Memo memo) (tidy_made (out-Memo memo) (none_entered (out-Memo memo) none) below)

-- ---- what a refused pass left

same_or_not : (a b : ℕ) → (a ≡ b) ⊎ (a ≡ b → ⊥)
same_or_not zero zero = inl refl
same_or_not zero (suc b) = inr (λ e. omega (arith, e))
same_or_not (suc a) zero = inr (λ e. omega (arith, e))
same_or_not (suc a) (suc b) = elim (same_or_not a b) [ inl e ↦ inl (ap suc e) | inr other ↦ inr (λ e. other (omega (arith, e))) ]

module _ (old mid : Memo) (same : stripped mid ≡ stripped old) (own : (out-Memo mid).entries ≡ (out-Memo old).entries) where
  layers_same : stripped_layers mid ≡ stripped_layers old
  layers_same = sym (out-roll-Memo (stripped_layers mid)) ∙ ap out-Memo (sym (stripped_out mid) ∙ same ∙ stripped_out old) ∙ out-roll-Memo (stripped_layers old)

  former_same : (out-Memo mid).former ≡ (out-Memo old).former
  former_same = ap (λ (l : Memo-F Memo). l.former) layers_same

  facts_same : (out-Memo mid).facts ≡ (out-Memo old).facts
  facts_same = ap (λ (l : Memo-F Memo). l.facts) layers_same

  calm_same : is_calm (out-Memo mid) ≡ is_calm (out-Memo old)
  calm_same = λ i. not (is_some (former_same i)) && has_none_fresh (own i)

  touched_same : only_touched (out-Memo mid) ≡ only_touched (out-Memo old)
  touched_same = λ i. option_and_then (λ (child : ℕ). cond (has_none_new (own i)) (Some child) None) (option_and_then (λ (former : Former). former.alike_but) (former_same i))

  place_same : (place : ℕ) → option_map stripped (slice_get (out-Memo mid).below place) ≡ option_map stripped (slice_get (out-Memo old).below place)
  place_same place =
      sym (slice_get-map stripped (out-Memo mid).below place) ∙ ap (λ (l : Memo-F Memo). slice_get l.below place) layers_same
      ∙ slice_get-map stripped (out-Memo old).below place

  module _ {new : Memo} {child : ℕ} (entered : only_entered (out-Memo mid) ≡ Some child) (tidy : IsTidy old) (undone : IsUndoneBut child mid new) where
    -- beside that child the pass had left what there was
    was_stripped : (place : ℕ) (below : Memo) → slice_get (out-Memo old).below place ≡ Some below → (place ≡ child → ⊥) → stripped below ≡ below
    was_stripped place below at other =
        elim (entered_cases (out-Memo mid) child entered) [
          | inl calm ↦ calm_stripped below (tidy_below old tidy place below at) ((tidy.at [] old refl).all (sym calm_same ∙ calm) place below at)
          | inr only ↦ others_stripped old child tidy (sym touched_same ∙ only) place below at other
        ]

    place_back : (place : ℕ) → (place ≡ child → ⊥) → slice_get (out-Memo new).below place ≡ slice_get (out-Memo old).below place
    place_back place other = undone.others place other ∙ place_same place ∙ by (slice_get (out-Memo old).below place) refl
      where
        by : (found : Option Memo) → slice_get (out-Memo old).below place ≡ found → option_map stripped found ≡ found
        by None e = refl
        by (Some below) e = ap Some (was_stripped place below e other)

    with_below : {below : List Memo} → (out-Memo new).below ≡ below
        → new ≡ roll-Memo record { former = (out-Memo old).former; facts = (out-Memo old).facts; entries = (out-Memo old).entries; below = below }
    with_below {below} e =
        sym (roll-out-Memo new)
        ∙ (λ i. roll-Memo record {
          former = (undone.former ∙ former_same) i;
          facts = (undone.facts ∙ facts_same) i;
          entries = (undone.entries ∙ own) i;
          below = e i;
        })

    -- all is as it was, or all but the child that is entered
    record IsRenewed : Type 0 where
      was : Memo
      now : Memo
      was_at : slice_get (out-Memo old).below child ≡ Some was
      now_at : slice_get (out-Memo mid).below child ≡ Some now
      is : new ≡ roll-Memo (renewed old child now)

    left : (new ≡ old) ⊎ IsRenewed
    left = by (slice_get (out-Memo mid).below child) (slice_get (out-Memo old).below child) refl refl
      where
        by : (now was : Option Memo) → slice_get (out-Memo mid).below child ≡ now → slice_get (out-Memo old).below child ≡ was → (new ≡ old) ⊎ IsRenewed
        by None None e f = inl (with_below (same_places (out-Memo new).below (out-Memo old).below (λ place.
            elim (same_or_not place child) [
              | inl is ↦ subst (λ (n : ℕ). slice_get (out-Memo new).below n ≡ slice_get (out-Memo old).below n) (sym is) (undone.spared ∙ e ∙ sym f)
              | inr other ↦ place_back place other
            ])) ∙ roll-out-Memo old)
        by None (Some was) e f = absurd (none-some (stripped was) (ap (option_map stripped) (sym e) ∙ place_same child ∙ ap (option_map stripped) f))
        by (Some now) None e f = absurd (none-some (stripped now) (ap (option_map stripped) (sym f) ∙ sym (place_same child) ∙ ap (option_map stripped) e))
        by (Some now) (Some was) e f = inr record {
          was = was;
          now = now;
          was_at = f;
          now_at = e;
          is = with_below (same_places (out-Memo new).below (set (out-Memo old).below child now) (λ place.
              elim (same_or_not place child) [
                | inl is ↦ subst (λ (n : ℕ). slice_get (out-Memo new).below n ≡ slice_get (set (out-Memo old).below child now) n) (sym is)
                    (undone.spared ∙ e ∙ sym (set_here (out-Memo old).below child now was f))
                | inr other ↦ place_back place other ∙ sym (set_elsewhere (out-Memo old).below child place now other)
              ]));
        }

    tidy_refused : AreTidy (out-Memo mid).below → IsTidy new
    tidy_refused below =
        elim left [
          | inl is ↦ subst IsTidy (sym is) tidy
          | inr r ↦
              let only = entered_there (out-Memo mid) child entered r.now r.now_at in
              let alike = (only_parts (out-Memo old) child (sym touched_same ∙ only)).0 in
              subst IsTidy (sym r.is) (tidy_child old child r.now alike tidy (below child r.now r.now_at))
        ]

    module _ (m : MetricsValue) {node : Node} {needed : Pair → Type 0} {from to : ℕ} (pass : Passes m node needed old mid from to false) (agrees : Agrees m node old) where
      -- the element of the child that is entered
      kid : (r : IsRenewed) → (child_node : Node) × (slice_get (out-Node node).children child ≡ Some child_node)
      kid r =
          let many = (agrees.at [] node old (refl, refl)).as_many in
          let within = slice_get_within (out-Memo old).below child r.was r.was_at in
          there_is (out-Node node).children child (omega (arith, many, within))

      keeps_kid : (r : IsRenewed) → Keeps r.was r.now
      keeps_kid r = record {
        at = λ path entry held.
            let there = pass.keeps.at (child ∷ path) entry (r.was, r.was_at, held) in
            subst (λ (z : Memo). Holds path z entry) (one_place (out-Memo mid).below child child there.0 r.now refl there.1 r.now_at) there.2;
      }

      same_kid : (r : IsRenewed) → stripped r.now ≡ stripped r.was
      same_kid r = same_Some (stripped r.now) (stripped r.was) (ap (option_map stripped) (sym r.now_at) ∙ place_same child ∙ ap (option_map stripped) r.was_at)

      -- what is kept then was kept when the pass was refused
      held_before : (path : List ℕ) (entry : Entry) → Holds path new entry → Holds path mid entry
      held_before path entry held =
          elim left [
            | inl is ↦ pass.keeps.at path entry (subst (λ (z : Memo). Holds path z entry) is held)
            | inr r ↦ elim (held_renewed m node old child r.was r.now r.was_at path entry (subst (λ (z : Memo). Holds path z entry) r.is held)) [
              | inl p ↦ pass.keeps.at path entry p
              | inr q ↦ subst (λ (z : List ℕ). Holds z mid entry) (sym q.1) (r.now, r.now_at, q.2)
            ]
          ]

      keeps_still : Keeps old new
      keeps_still =
          elim left [
            | inl is ↦ subst (Keeps old) (sym is) (keeps_same old)
            | inr r ↦ subst (Keeps old) (sym r.is) (keeps_renewed old child r.was r.now r.was_at (keeps_kid r))
          ]

      agrees_still : Agrees m node new
      agrees_still =
          elim left [
            | inl is ↦ subst (Agrees m node) (sym is) agrees
            | inr r ↦ subst (Agrees m node) (sym r.is)
                (agrees_renewed m node old child (kid r).0 r.was r.now agrees (kid r).1 r.was_at (agrees_child m node mid child (kid r).0 r.now pass.agrees (kid r).1 r.now_at) (keeps_kid r))
          ]

      same_still : stripped new ≡ stripped old
      same_still =
          elim left [
            | inl is ↦ ap stripped is
            | inr r ↦ ap stripped r.is ∙ stripped_renewed old child r.was r.now r.was_at (same_kid r)
          ]

      passes_refused : Passes m node needed old new from to false
      passes_refused = record {
        agrees = agrees_still;
        same = same_still;
        keeps = keeps_still;
        pairs = pass.pairs;
        steps = pass.steps;
        needed_all = pass.needed_all;
        missing = pass.missing;
        apart = pass.apart;
        kept = λ (e : false ≡ true). cc;
        grown = λ (e : false ≡ true). cc;
      }

      grows_refused : {held holds : StoreValue} → IsBacked m held.runs node old → Grows m node old mid held holds from to false → Grows m node old new held holds from to false
      grows_refused {held} {holds} backed grows = record {
        backed =
            elim left [
              | inl is ↦ subst (IsBacked m holds.runs node) (sym is) (backed_more m held.runs holds.runs node old grows.only.others backed)
              | inr r ↦ subst (IsBacked m holds.runs node) (sym r.is)
                  (backed_renewed m held.runs holds.runs node old child (kid r).0 r.was r.now backed (kid r).1 r.was_at grows.only.others
                  (backed_child m holds.runs node mid child (kid r).0 r.now grows.backed (kid r).1 r.now_at))
            ];
        only = grows.only;
        came = λ path entry held. grows.came path entry (held_before path entry held);
        own = λ own. record { at = λ path other a b x y same. (grows.own own).at path other a b (held_before path a x) (held_before other b y) same };
        counted = λ (e : false ≡ true). cc;
      }

-- ---- what is left then

-- it is a pass that is refused, as well, and the element is tidy
pub record IsRefused (m : MetricsValue) (node : Node) (needed : Pair → Type 0) (old mid new : Memo) (from to : ℕ) : Type 0 where
  pub passes : Passes m node needed old new from to false
  pub tidy : IsTidy new
  pub grows : (held holds : StoreValue) → IsBacked m held.runs node old → Grows m node old mid held holds from to false → Grows m node old new held holds from to false

pub refused : {m : MetricsValue} {node : Node} {needed : Pair → Type 0} {old mid new : Memo} {from to : ℕ} → Agrees m node old → IsTidy old → Passes m node needed old mid from to false
    → (out-Memo mid).entries ≡ (out-Memo old).entries → AreTidy (out-Memo mid).below → ((child : ℕ) → only_entered (out-Memo mid) ≡ Some child → IsUndoneBut child mid new)
    → (only_entered (out-Memo mid) ≡ None → new ≡ mid) → IsRefused m node needed old mid new from to
refused {m} {node} {needed} {old} {mid} {new} {from} {to} agrees tidy pass own below undone unchanged = by (only_entered (out-Memo mid)) refl
  where
    by : (entered : Option ℕ) → only_entered (out-Memo mid) ≡ entered → IsRefused m node needed old mid new from to
    by None e =
        let is = unchanged e in
        record {
          passes = subst (λ (z : Memo). Passes m node needed old z from to false) (sym is) pass;
          tidy = subst IsTidy (sym is) (tidy_unentered mid e below);
          grows = λ held holds backed grows. subst (λ (z : Memo). Grows m node old z held holds from to false) (sym is) grows;
        }
    by (Some child) e =
        let u = undone child e in
        record {
          passes = passes_refused old mid pass.same own e tidy u m pass agrees;
          tidy = tidy_refused old mid pass.same own e tidy u below;
          grows = λ held holds backed grows. grows_refused old mid pass.same own e tidy u m pass agrees backed grows;
        }

pub of_err : {A E : Type 0} (r : Result A E) {X : Type 0} → true ≡ is_err r → OnErr r X → X
of_err (Ok a) e x = absurd (true≢false e)
of_err (Err e) is x = x

pub no_ok : {A E : Type 0} (r : Result A E) (P : A → Type 0) → true ≡ is_err r → IfOk r P
no_ok (Ok a) P e = absurd (true≢false e)
no_ok (Err e) P is = tt
