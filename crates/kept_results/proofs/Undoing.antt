-- A loop that undoes what each child has but that at a place.
use Rattle.std.proofs.Common.{◌≡◌, ◌∙◌, ◌⊎◌, inl, inr, refl, sym, ap, ℕ, zero, suc, ◌+◌, ◌<◌, ◌≤◌, arith, length, Some, slice_get}
use Rattle.std.proofs.lemmas.Option.{slice_get_past}
use Rattle.std.specs.Option.{option_map}
use Rattle.kept_results.specs.Ends.{IsUndoneBut, stripped}
use Rattle.kept_results.specs.declared.memo.Memo.{Memo}
use Rattle.kept_results.specs.declared.memo.Memo.TheOpen.{Memo-F}
use Rattle.kept_results.specs.declared.memo.Memo.TheViews.{out-Memo, out-roll-Memo, roll-Memo}
use Rattle.kept_results.proofs.Agreement.{renewed}
use Rattle.kept_results.proofs.Lists.{set_elsewhere, set_here}

-- what the first children have is undone, but for that at a place
pub record Undoing (child : ℕ) (before now : Memo) (at : ℕ) : Type 0 where
  pub former : (out-Memo now).former ≡ (out-Memo before).former
  pub facts : (out-Memo now).facts ≡ (out-Memo before).facts
  pub entries : (out-Memo now).entries ≡ (out-Memo before).entries
  pub spared : slice_get (out-Memo now).below child ≡ slice_get (out-Memo before).below child
  pub done : (place : ℕ) → place < at → (place ≡ child → ⊥) → slice_get (out-Memo now).below place ≡ option_map stripped (slice_get (out-Memo before).below place)
  pub ahead : (place : ℕ) → at ≤ place → slice_get (out-Memo now).below place ≡ slice_get (out-Memo before).below place

pub undoing_none : (child : ℕ) (memo : Memo) → Undoing child memo memo 0
undoing_none child memo = record {
  former = refl;
  facts = refl;
  entries = refl;
  spared = refl;
  done = λ place before other. absurd (omega (arith, before));
  ahead = λ place behind. refl;
}

last_or_before : (a b : ℕ) → a < b + 1 → (a ≡ b) ⊎ (a < b)
last_or_before zero zero h = inl refl
last_or_before zero (suc b) h = inr (omega arith)
last_or_before (suc a) zero h = absurd (omega (arith, h))
last_or_before (suc a) (suc b) h = elim (last_or_before a b (omega (arith, h))) [ inl e ↦ inl (ap suc e) | inr l ↦ inr (omega (arith, l)) ]

module _ {child : ℕ} {before now : Memo} {at : ℕ} (h : Undoing child before now at) where
  pub next_same : {old : Memo} → slice_get (out-Memo now).below at ≡ Some old → slice_get (out-Memo before).below at ≡ Some old
  next_same there = sym (h.ahead at (omega arith)) ∙ there

  -- the child at the place is left alone
  pub undoing_spared : at ≡ child → Undoing child before now (at + 1)
  undoing_spared e = record {
    former = h.former;
    facts = h.facts;
    entries = h.entries;
    spared = h.spared;
    done = λ place within other.
        elim (last_or_before place at within) [
          | inl last ↦ absurd (other (last ∙ e))
          | inr l ↦ h.done place l other
        ];
    ahead = λ place behind. h.ahead place (omega (arith, behind));
  }

  -- another is undone
  pub undoing_more : (old new : Memo) → (at ≡ child → ⊥) → slice_get (out-Memo now).below at ≡ Some old → new ≡ stripped old → Undoing child before (roll-Memo (renewed now at new)) (at + 1)
  undoing_more old new apart there is =
      let out : out-Memo (roll-Memo (renewed now at new)) ≡ renewed now at new = out-roll-Memo (renewed now at new) in
      let stays : (place : ℕ) → (place ≡ at → ⊥) → slice_get (out-Memo (roll-Memo (renewed now at new))).below place ≡ slice_get (out-Memo now).below place =
      λ place other. ap (λ (l : Memo-F Memo). slice_get l.below place) out ∙ set_elsewhere (out-Memo now).below at place new other in
      record {
        former = ap (λ (l : Memo-F Memo). l.former) out ∙ h.former;
        facts = ap (λ (l : Memo-F Memo). l.facts) out ∙ h.facts;
        entries = ap (λ (l : Memo-F Memo). l.entries) out ∙ h.entries;
        spared = stays child (λ e. apart (sym e)) ∙ h.spared;
        done = λ place within other.
            elim (last_or_before place at within) [
              | inl last ↦ ap (λ (n : ℕ). slice_get (out-Memo (roll-Memo (renewed now at new))).below n) last
                  ∙ ap (λ (l : Memo-F Memo). slice_get l.below at) out ∙ set_here (out-Memo now).below at new old there ∙ ap Some is
                  ∙ ap (option_map stripped) (sym (next_same there)) ∙ ap (λ (n : ℕ). option_map stripped (slice_get (out-Memo before).below n)) (sym last)
              | inr l ↦ stays place (λ e. omega (arith, e, l)) ∙ h.done place l other
            ];
        ahead = λ place behind. stays place (λ e. omega (arith, e, behind)) ∙ h.ahead place (omega (arith, behind));
      }

  -- all are
  pub all_undoing : length (out-Memo before).below ≡ at → IsUndoneBut child before now
  all_undoing all = record {
    former = h.former;
    facts = h.facts;
    entries = h.entries;
    spared = h.spared;
    others = λ place other. by place other (before_or_behind place at);
  }
    where
      before_or_behind : (a b : ℕ) → (a < b) ⊎ (b ≤ a)
      before_or_behind a zero = inr (omega arith)
      before_or_behind zero (suc b) = inl (omega arith)
      before_or_behind (suc a) (suc b) = elim (before_or_behind a b) [ inl l ↦ inl (omega (arith, l)) | inr l ↦ inr (omega (arith, l)) ]

      by : (place : ℕ) → (place ≡ child → ⊥) → (place < at) ⊎ (at ≤ place) → slice_get (out-Memo now).below place ≡ option_map stripped (slice_get (out-Memo before).below place)
      by place other (inl l) = h.done place l other
      by place other (inr l) =
          let none = slice_get_past (out-Memo before).below place (omega (arith, all, l)) in
          h.ahead place l ∙ none ∙ ap (option_map stripped) (sym none)
