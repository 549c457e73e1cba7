-- The first number that passes a test.
use Rattle.std.proofs.Common.{◌≡◌, sym, subst, ℕ, zero, suc, ◌+◌, ◌<◌, ◌≤◌, ◌⊎◌, inl, inr, Bool, true, false, cond, arith}
use Rattle.std.proofs.lemmas.Bool.{cases_lt}
use Rattle.glyph_assembly.specs.Counts.{first_from}

-- a number that passes, while none before it does, is the first
pub first_is : (n k first : ℕ) (passes : ℕ → Bool) → k ≤ first → first ≤ k + n → passes first ≡ true
    → ((j : ℕ) → k ≤ j → j < first → passes j ≡ false) → first_from n k passes ≡ first
unfolding first_from
first_is zero k first passes low high is none = omega arith
first_is (suc n) k first passes low high is none =
    by (cases_lt k first) (λ less. first_is n (suc k) first passes (omega arith) (omega arith) is (λ j above below. none j (omega arith) below))
  where
    by : (k < first) ⊎ (first ≤ k) → (k < first → first_from n (suc k) passes ≡ first)
        → cond (passes k) k (first_from n (suc k) passes) ≡ first
    by (inl less) behind = rw (none k (omega arith) less) (behind less)
    by (inr here) behind =
        let same : first ≡ k = omega arith in
        rw (subst (λ j. passes j ≡ true) same is) (sym same)
