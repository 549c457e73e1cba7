-- Memos without marks and flags, and memos with all marks.
use Rattle.std.proofs.Common.{◌≡◌, ◌∙◌, refl, sym, ap, subst, ℕ, zero, suc, Bool, false, List, [], ◌∷◌, length, map, set, None, Some, slice_get}
use Rattle.std.proofs.lemmas.List.{length-map}
use Rattle.std.proofs.lemmas.Option.{none-some, same_Some, slice_get-map}
use Rattle.std.specs.Option.{option_map}
use Rattle.font_metrics.specs.Metrics.{MetricsValue}
use Rattle.math_tree.specs.declared.node.Node.{Node}
use Rattle.embellished.specs.declared.facts.Facts.{Facts}
use Rattle.layout_model.specs.declared.context.Context.{Context}
use Rattle.kept_results.specs.Ends.{settled}
use Rattle.kept_results.specs.Kept.{Agrees, AreApart, HasEntry, IsKept, IsMissing, IsSound, is_marked}
use Rattle.kept_results.specs.Looking.{own_facts}
use Rattle.kept_results.specs.Tidy.{StaysCalm, IsTidy, IsMemoAt}
use Rattle.kept_results.specs.declared.memo.Entry.{Entry}
use Rattle.kept_results.specs.declared.memo.Memo.{Memo}
use Rattle.kept_results.specs.declared.memo.Memo.TheFolds.{fold-roll-Memo, fold_out-Memo}
use Rattle.kept_results.specs.declared.memo.Memo.TheOpen.{Memo-F}
use Rattle.kept_results.specs.declared.memo.Memo.TheViews.{out-Memo, out-roll-Memo, roll-Memo}
use Rattle.kept_results.proofs.Renewing.{Renewed, below_all}
use Rattle.kept_results.proofs.Tidying.{mark_calms}
use Rattle.kept_sweep.specs.Flagged.{StandsAt, all_marked, cleared, cleared_layer, marked_layer}

-- ---- the folds, layer by layer

abbrev pub marked_over : Memo-F Memo → Memo-F Memo
marked_over layer = record {
  former = Some record { facts = layer.facts; alike_but = None };
  facts = layer.facts;
  entries = layer.entries;
  below = map all_marked layer.below;
}

pub marked_out : (memo : Memo) → all_marked memo ≡ roll-Memo (marked_over (out-Memo memo))
marked_out = fold_out-Memo Memo marked_layer

pub out_marked : (memo : Memo) → out-Memo (all_marked memo) ≡ marked_over (out-Memo memo)
out_marked memo = ap out-Memo (marked_out memo) ∙ out-roll-Memo (marked_over (out-Memo memo))

abbrev pub cleared_over : Memo-F Memo → Memo-F Memo
cleared_over layer = record {
  former = None;
  facts = layer.facts;
  entries = map settled layer.entries;
  below = map cleared layer.below;
}

pub cleared_out : (memo : Memo) → cleared memo ≡ roll-Memo (cleared_over (out-Memo memo))
cleared_out = fold_out-Memo Memo cleared_layer

pub cleared_roll : (layer : Memo-F Memo) → cleared (roll-Memo layer) ≡ roll-Memo (cleared_over layer)
cleared_roll = fold-roll-Memo Memo cleared_layer

pub out_cleared : (memo : Memo) → out-Memo (cleared memo) ≡ cleared_over (out-Memo memo)
out_cleared memo = ap out-Memo (cleared_out memo) ∙ out-roll-Memo (cleared_over (out-Memo memo))

-- when all below are marked
pub marked_end : (before now : Memo) (at : ℕ) → Renewed all_marked before now at → length (out-Memo before).below ≡ at
    → roll-Memo record { former = Some record { facts = (out-Memo now).facts; alike_but = None }; facts = (out-Memo now).facts; entries = (out-Memo now).entries; below = (out-Memo now).below } ≡ all_marked before
marked_end before now at h l =
    (λ i. roll-Memo record {
      former = Some record { facts = h.facts i; alike_but = None };
      facts = h.facts i;
      entries = h.entries i;
      below = below_all all_marked before now at h l i;
    }) ∙ sym (marked_out before)

-- ---- all marked

pub mapped_was : {X Y : Type 0} (f : X → Y) (xs : List X) (i : ℕ) (y : Y) → slice_get (map f xs) i ≡ Some y → (x : X) × (slice_get xs i ≡ Some x) × (y ≡ f x)
mapped_was f [] i y h = absurd (none-some y h)
mapped_was f (x ∷ xs) zero y h = (x, refl, sym (same_Some (f x) y h))
mapped_was f (x ∷ xs) (suc i) y h = mapped_was f xs i y h

marked_calms : (path : List ℕ) (memo kept : Memo) → IsMemoAt path (all_marked memo) kept → StaysCalm (out-Memo kept)
marked_calms [] memo kept s =
    subst (λ (z : Memo). StaysCalm (out-Memo z)) (sym s)
    (subst StaysCalm (sym (out_marked memo)) (mark_calms (marked_over (out-Memo memo)) refl (λ child alike. absurd (none-some child alike))))
marked_calms (place ∷ path) memo kept s =
    let was = mapped_was all_marked (out-Memo memo).below place s.0 (ap (λ (l : Memo-F Memo). slice_get l.below place) (sym (out_marked memo)) ∙ s.1) in
    marked_calms path was.0 kept (subst (λ (z : Memo). IsMemoAt path z kept) was.2 s.2)

-- no element is calm then
pub marked_tidy : (memo : Memo) → IsTidy (all_marked memo)
marked_tidy memo = record { at = λ path kept s. marked_calms path memo kept s }

-- ---- what agrees when it is cleared

module _ (m : MetricsValue) (node : Node) (memo : Memo) (h : Agrees m node (cleared memo)) where
  -- each entry is sound, older or not
  pub sound_settled : (place : ℕ) (entry : Entry) → slice_get (out-Memo memo).entries place ≡ Some entry → IsSound m node (map cleared (out-Memo memo).below) (settled entry)
  sound_settled place entry at =
      let has : HasEntry (cleared_over (out-Memo memo)) (settled entry) =
      record { place = place; at = slice_get-map settled (out-Memo memo).entries place ∙ ap (option_map settled) at; live = refl } in
      subst (λ (l : Memo-F Memo). IsSound m node l.below (settled entry)) (out_cleared memo)
      ((h.at [] node (cleared memo) (refl, refl)).sound (settled entry) (subst (λ (l : Memo-F Memo). HasEntry l (settled entry)) (sym (out_cleared memo)) has))

  -- no two are in one context
  pub apart_settled : AreApart false (map settled (out-Memo memo).entries)
  apart_settled = subst (λ (l : Memo-F Memo). AreApart (is_marked l) l.entries) (out_cleared memo) (h.at [] node (cleared memo) (refl, refl)).apart

missing_any : (marked : Bool) (context : Context) (entries : List Entry) → IsMissing false context (map settled entries) → IsMissing marked context entries
missing_any marked context [] h = tt
missing_any marked context (e ∷ entries) h = (λ _ is. h.0 refl is, missing_any marked context entries h.1)

pub apart_any : (marked : Bool) (entries : List Entry) → AreApart false (map settled entries) → AreApart marked entries
apart_any marked [] h = tt
apart_any marked (e ∷ entries) h = (λ _. missing_any marked e.context entries (h.0 refl), apart_any marked entries h.1)

-- an entry of the cleared memo is one of the memo
pub stands_cleared : (memo : Memo) (context : Context) → IsKept (out-Memo (cleared memo)) context → (place : ℕ) × StandsAt (out-Memo memo).entries context place
stands_cleared memo context one =
    let has : HasEntry (cleared_over (out-Memo memo)) one.entry = subst (λ (l : Memo-F Memo). HasEntry l one.entry) (out_cleared memo) one.has in
    let was = mapped_was settled (out-Memo memo).entries has.place one.entry has.at in
    (has.place, record { entry = was.0; at = was.1; in_context = ap (λ (e : Entry). e.context) (sym was.2) ∙ one.in_context })

-- ---- one item is set

pub settled_set : (entries : List Entry) (i : ℕ) (e y : Entry) → slice_get entries i ≡ Some e → settled y ≡ settled e → map settled (set entries i y) ≡ map settled entries
settled_set [] i e y h is = absurd (none-some e h)
settled_set (x ∷ entries) zero e y h is = ap (λ z. z ∷ map settled entries) (is ∙ ap settled (sym (same_Some x e h)))
settled_set (x ∷ entries) (suc i) e y h is = ap (λ l. settled x ∷ l) (settled_set entries i e y h is)

pub cleared_set : (memos : List Memo) (i : ℕ) (old new : Memo) → slice_get memos i ≡ Some old → cleared new ≡ cleared old → map cleared (set memos i new) ≡ map cleared memos
cleared_set [] i old new h e = absurd (none-some old h)
cleared_set (x ∷ memos) zero old new h e = ap (λ z. z ∷ map cleared memos) (e ∙ ap cleared (sym (same_Some x old h)))
cleared_set (x ∷ memos) (suc i) old new h e = ap (λ l. cleared x ∷ l) (cleared_set memos i old new h e)

pub as_many_cleared : (memos others : List Memo) → map cleared memos ≡ map cleared others → length memos ≡ length others
as_many_cleared memos others h = sym (length-map memos cleared) ∙ ap length h ∙ length-map others cleared

-- ---- what is known

known_cleared : (memos : List Memo) → map own_facts (map cleared memos) ≡ map own_facts memos
known_cleared [] = refl
known_cleared (x ∷ memos) =
    ap (λ (f : Facts). f ∷ map own_facts (map cleared memos)) (ap (λ (l : Memo-F Memo). l.facts) (out_cleared x)) ∙ ap (λ (l : List Facts). own_facts x ∷ l) (known_cleared memos)

pub same_known : (memos others : List Memo) → map cleared memos ≡ map cleared others → map own_facts memos ≡ map own_facts others
same_known memos others h = sym (known_cleared memos) ∙ ap (map own_facts) h ∙ known_cleared others
