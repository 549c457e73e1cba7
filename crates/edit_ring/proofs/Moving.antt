-- What a call of a ring is, by what the one call of its ground did.
use Rattle.std.proofs.Common.{◌≡◌, ◌∙◌, sym, ap, refl, subst, inl, inr, ℕ, suc, ◌+◌, ◌≤◌, List, [], ◌∷◌, length, take, drop, slice_get, true, Some, None, Ok, Err, arith}
use Rattle.std.proofs.lemmas.Bool.{true≢false}
use Rattle.std.proofs.lemmas.List.{take_all, length-take}
use Rattle.std.proofs.lemmas.Option.{none-some, same_Some}
use Rattle.tree_edits.specs.Applying.{IsProperEdit}
use Rattle.tree_edits.specs.Edits.{edited, refusal_of}
use Rattle.tree_edits.specs.Inverses.{inverse}
use Rattle.math_tree.specs.Trees.{TreeValue, IsWhole}
use Rattle.tree_edits.specs.declared.edit.Edit.{Edit}
use Rattle.math_tree.specs.declared.node.Node.{Node}
use Rattle.edit_ring.proofs.Trails.{leads_back, next_stays, take_leads, trail_take}
use Rattle.edit_ring.specs.Grounds.{Changes, GroundTold, IsCause, StepBound, with_tree}
use Rattle.edit_ring.specs.Rings.{IsRing, IsTrail, Moved, Moves, RingEdits, RingState, TakesMove, trail}
use Rattle.edit_ring.specs.declared.ground.GroundRefusal.{GroundRefusal}
use Rattle.edit_ring.specs.declared.ground.GroundRefusal.TheVariants.{Edit as Refused, Range, Memory}
use Rattle.edit_ring.specs.declared.ring.RingRefusal.TheVariants.{Nothing}

-- ---- the first of a list

pub first_is : (es : List Edit) (e : Edit) → slice_get es 0 ≡ Some e → es ≡ e ∷ drop 1 es
first_is [] e at = absurd (none-some e at)
first_is (x ∷ es) e at = ap (λ y. y ∷ es) (same_Some x e at)

pub none_is : (es : List Edit) → slice_get es 0 ≡ None → es ≡ []
none_is [] at = refl
none_is (x ∷ es) at = absurd (none-some x (sym at))

-- ---- a move

pub may_stay : (Takes : StepBound) (told : GroundTold) (from : List Edit) (s : ℕ) → TakesMove Takes told from s s
may_stay Takes told [] s = refl
may_stay Takes told (e ∷ es) s = inl refl

pub may_take : (Takes : StepBound) (told : GroundTold) (from : List Edit) (kept : Edit) (s t : ℕ) → slice_get from 0 ≡ Some kept
    → IsTrail told.is_good told.tree from → (refusal_of told.tree kept ≡ None → Takes told.metrics told.tree kept s t)
    → TakesMove Takes told from s t
may_take Takes told [] kept s t at leads takes = absurd (none-some kept at)
may_take Takes told (x ∷ es) kept s t at leads takes =
    let same : x ≡ kept = same_Some x kept at in
    let P : Edit → Type 0 = λ e. Takes told.metrics told.tree e s t in
    inr (subst P (sym same) (takes (ap (refusal_of told.tree) (sym same) ∙ leads.0.accepted)))

pub no_move : (Takes : StepBound) (told : GroundTold) (from to : List Edit) (steps : ℕ) → from ≡ []
    → Moves Takes told told from from to to steps steps (Err Nothing)
no_move Takes told from to steps empty = record {
  ok = tt;
  told = tt;
  next = tt;
  leads = tt;
  leads_back = tt;
  grown = tt;
  nothing = (λ _. empty, λ _. refl);
  unchanged = (refl, refl, refl);
  steps = may_stay Takes told from steps;
}

-- the kept edit isn't refused
pub not_refused : (told : GroundTold) (from : List Edit) (kept : Edit) (refusal : GroundRefusal) → slice_get from 0 ≡ Some kept
    → IsTrail told.is_good told.tree from → IsCause told kept refusal → refusal ≡ Memory
not_refused told [] kept refusal at leads cause = absurd (none-some kept at)
not_refused told (x ∷ es) kept (Refused reason) at leads cause =
    let same : x ≡ kept = same_Some x kept at in
    absurd (none-some reason (sym leads.0.accepted ∙ ap (refusal_of told.tree) same ∙ cause.0))
not_refused told (x ∷ es) kept Range at leads cause =
    let same : x ≡ kept = same_Some x kept at in
    absurd (true≢false (sym leads.1 ∙ ap (λ e. told.is_good (edited told.tree e).root) same ∙ cause.1))
not_refused told (x ∷ es) kept Memory at leads cause = refl

pub kept_is_proper : (told : GroundTold) (from : List Edit) (kept : Edit) → slice_get from 0 ≡ Some kept
    → IsTrail told.is_good told.tree from → IsProperEdit kept
kept_is_proper told [] kept at leads = absurd (none-some kept at)
kept_is_proper told (x ∷ es) kept at leads = subst IsProperEdit (same_Some x kept at) leads.0.proper

walked_first : (Takes : StepBound) (before after : GroundTold) (kept : Edit) (es to : List Edit) (back : Edit) (room s t : ℕ)
    → IsTrail before.is_good before.tree (kept ∷ es) → IsTrail before.is_good before.tree to → suc (length es) + length to ≤ room
    → Changes Takes before after kept s t (Ok back)
    → Moves Takes before after (kept ∷ es) es to (take room (back ∷ to)) s t (Ok tt)
walked_first Takes before after kept es to back room s t leads others fits changes =
    let same_told : after ≡ with_tree (edited before.tree kept) before = changes.edited in
    let same_tree : after.tree ≡ edited before.tree kept = ap (λ told. told.tree) same_told in
    let same_back : back ≡ inverse before.tree kept = changes.back in
    let all : take room (back ∷ to) ≡ back ∷ to = take_all room (back ∷ to) (omega (arith, fits)) in
    let kept_all : take room (back ∷ to) ≡ inverse before.tree kept ∷ to = all ∙ ap (λ e. e ∷ to) same_back in
    let whole_after : IsWhole (edited before.tree kept) = subst IsWhole same_tree changes.stands.whole in
    let led = leads_back before.is_good before.tree kept to changes.stood.whole changes.stood.good whole_after leads.0.proper leads.0.accepted others in
    let answer : Moved = record { tree = after.tree; from = es; to = take room (back ∷ to) } in
    record {
      ok = ap (λ (tree : TreeValue). Some (record { tree = tree; from = es; to = inverse before.tree kept ∷ to })) (sym same_tree)
          ∙ ap (λ (list : List Edit). Some (record { tree = after.tree; from = es; to = list })) (sym kept_all);
      told = same_told ∙ ap (λ tree. with_tree tree before) (sym same_tree);
      next = ap (λ tree. tree.next_id) same_tree ∙ next_stays before.tree kept leads.0.settled;
      leads = subst (λ (tree : TreeValue). IsTrail before.is_good tree es) (sym same_tree) leads.2;
      leads_back = subst (λ (tree : TreeValue). IsTrail before.is_good tree (take room (back ∷ to))) (sym same_tree)
          (subst (λ (list : List Edit). IsTrail before.is_good (edited before.tree kept) list) (sym kept_all) led.leads);
      grown = ap (λ tree. trail tree (take room (back ∷ to))) same_tree ∙ ap (trail (edited before.tree kept)) kept_all ∙ led.grown;
      nothing = (λ e. absurd cc, λ e. absurd cc);
      unchanged = tt;
      steps = inr (changes.steps leads.0.accepted);
    }

pub walked : (Takes : StepBound) (before after : GroundTold) (kept : Edit) (from to : List Edit) (back : Edit) (room s t : ℕ)
    → slice_get from 0 ≡ Some kept → IsTrail before.is_good before.tree from → IsTrail before.is_good before.tree to
    → length from + length to ≤ room → Changes Takes before after kept s t (Ok back)
    → Moves Takes before after from (drop 1 from) to (take room (back ∷ to)) s t (Ok tt)
walked Takes before after kept [] to back room s t at leads others fits changes = absurd (none-some kept at)
walked Takes before after kept (x ∷ es) to back room s t at leads others fits changes =
    let same : x ≡ kept = same_Some x kept at in
    walked_first Takes before after x es to back room s t leads others fits
    (subst (λ (e : Edit). Changes Takes before after e s t (Ok back)) (sym same) changes)

-- ---- an edit

-- the ring as an edit leaves it
abbrev pub after_keeping : RingState → GroundTold → Edit → RingState
after_keeping before told back = record {
  told = told;
  past = take before.depth (back ∷ before.past);
  future = [];
  depth = before.depth;
}

pub record IsEdited (Takes : StepBound) (before : RingState) (told : GroundTold) (edit back : Edit) (room s t : ℕ) : Type 0 where
  pub ring : IsRing told (take before.depth (back ∷ before.past)) [] before.depth room
  pub edits : RingEdits Takes before (after_keeping before told back) edit s t (Ok tt)

pub edited_ring : (Takes : StepBound) (before : RingState) (told : GroundTold) (edit back : Edit) (room s t : ℕ)
    → IsRing before.told before.past before.future before.depth room → IsProperEdit edit
    → Changes Takes before.told told edit s t (Ok back) → IsEdited Takes before told edit back room s t
edited_ring Takes before told edit back room s t ring proper changes =
    let same_told : told ≡ with_tree (edited before.told.tree edit) before.told = changes.edited in
    let same_back : back ≡ inverse before.told.tree edit = changes.back in
    let past = before.past in
    let depth = before.depth in
    let same_list : take depth (back ∷ past) ≡ take depth (inverse before.told.tree edit ∷ past) = ap (λ (e : Edit). take depth (e ∷ past)) same_back in
    let same_tree : told.tree ≡ edited before.told.tree edit = ap (λ told. told.tree) same_told in
    let whole_after : IsWhole (edited before.told.tree edit) = subst IsWhole same_tree changes.stands.whole in
    let led = leads_back before.told.is_good before.told.tree edit past changes.stood.whole changes.stood.good whole_after proper changes.accepted ring.undoable in
    let taken : IsTrail before.told.is_good (edited before.told.tree edit) (take depth (inverse before.told.tree edit ∷ past)) =
    take_leads before.told.is_good (edited before.told.tree edit) depth (inverse before.told.tree edit ∷ past) led.leads in
    let trails : trail told.tree (take depth (back ∷ past)) ≡ take depth (before.told.tree.root ∷ trail before.told.tree past) =
    ap (λ tree. trail tree (take depth (back ∷ past))) same_tree ∙ ap (trail (edited before.told.tree edit)) same_list
    ∙ trail_take (edited before.told.tree edit) depth (inverse before.told.tree edit ∷ past) ∙ ap (take depth) led.grown in
    let elements_are : told.tree.root ≡ (edited before.told.tree edit).root = ap (λ tree. tree.root) same_tree in
    record {
      ring = record {
        undoable = subst (λ (told : GroundTold). IsTrail told.is_good told.tree (take depth (back ∷ past))) (sym same_told)
            (subst (λ (list : List Edit). IsTrail before.told.is_good (edited before.told.tree edit) list) (sym same_list) taken);
        redoable = tt;
        held = omega (arith, length-take depth (back ∷ past));
        some = ring.some;
        few = ring.few;
        same_room = ring.same_room;
      };
      edits = record {
        accepted = changes.accepted;
        good = ap (λ (told : GroundTold). told.is_good told.tree.root) (sym same_told) ∙ changes.stands.good;
        told = same_told;
        past = same_list;
        future = refl;
        history = ap (λ (p : List Node). record { past = p; present = told.tree.root; future = [] }) trails
            ∙ ap (λ (e : Node). record { past = take depth (before.told.tree.root ∷ trail before.told.tree past); present = e; future = [] }) elements_are;
        depth = refl;
        refused = tt;
        unchanged = tt;
        steps = changes.steps;
        unmade = changes.unmade;
      };
    }
