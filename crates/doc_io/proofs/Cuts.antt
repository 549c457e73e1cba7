-- The longest front that no cut stops.
use Rattle.std.proofs.Common.{◌≡◌, ℕ, ◌+◌, ◌<◌, ◌≤◌, min, List, [], ◌∷◌, length, arith, refl}
use Rattle.doc_io.specs.MemoryInputs.{IsGreatest, IsUncut}

-- before the first of some cuts and then before the others
pub greatest_cons : (place most next cut : ℕ) (cuts : List ℕ) (n : ℕ) →
    IsGreatest (λ n. (n ≤ most) × (place < cut → place + n ≤ cut)) next →
    IsGreatest (λ n. (n ≤ next) × IsUncut cuts place n) n →
    IsGreatest (λ n. (n ≤ most) × IsUncut (cut ∷ cuts) place n) n
greatest_cons place most next cut cuts n first others = record {
  holds = (omega (arith, first.holds.0, others.holds.0), (λ ahead. omega (arith, first.holds.1 ahead, others.holds.0), others.holds.1));
  above = λ m h. others.above m (first.above m (h.0, h.1.0), h.1.1);
}

-- no cut is left to stop them
pub greatest_nil : (place most : ℕ) → IsGreatest (λ n. (n ≤ most) × IsUncut [] place n) most
greatest_nil place most = record { holds = (omega arith, tt); above = λ m h. h.0 }

-- no cut stops the first byte
uncut_one : (cuts : List ℕ) (place : ℕ) → IsUncut cuts place 1
uncut_one [] place = tt
uncut_one (cut ∷ cuts) place = (λ ahead. omega arith, uncut_one cuts place)

-- so a read that gives nothing is at the end
pub nothing_left : (left cuts : List ℕ) (place room n : ℕ) →
    IsGreatest (λ n. (n ≤ min (length left) room) × IsUncut cuts place n) n → n ≡ 0 → 0 < room →
    left ≡ []
nothing_left [] cuts place room n greatest none some = refl
nothing_left (x ∷ left) cuts place room n greatest none some =
    absurd (omega (arith, greatest.above 1 (omega arith, uncut_one cuts place)))
