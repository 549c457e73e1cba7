-- A row of pieces: the walk along its parts gives the widest overlap of its joints.
use Rattle.std.proofs.Common.{◌≡◌, ◌∙◌, refl, ap, sym, subst, ℕ, zero, suc, ◌+◌, ◌*◌, ◌≤◌, min, arith, ℤ, Bool, true, false, not, cond, List, [], ◌∷◌, length, length-append, replicate, fold, count_by, Option, Some, None, IfSome}
use Rattle.std.proofs.lemmas.List.{length-replicate}
use Rattle.std.proofs.lemmas.List.Sums.{fold-append, sum_by-cons}
use Rattle.std.specs.List.{reduce}
use Rattle.font_metrics.specs.Metrics.{MetricsValue}
use Rattle.font_metrics.specs.declared.growth.Part.{Part}
use Rattle.glyph_assembly.specs.declared.joints.Chain.{Chain}
use Rattle.glyph_assembly.specs.Chains.{narrower, narrowed, followed, repeated}
use Rattle.glyph_assembly.specs.Counts.{pieces}
use Rattle.glyph_assembly.specs.Glyphs.{length_at}
use Rattle.glyph_assembly.specs.Pieces.{sums_of, repeats, sequence, joint, joints, joints_behind, widest_overlap}

-- ---- from the second repeat on nothing changes

narrower_twice : (widest : Option ℕ) (joint : ℕ) → min (narrower widest joint) joint ≡ narrower widest joint
narrower_twice None joint = omega arith
narrower_twice (Some widest) joint = omega arith

followed_thrice : (c : Chain) (s e : ℕ) → followed (followed (followed c s e) s e) s e ≡ followed (followed c s e) s e
followed_thrice c s e = λ i. record { end = Some e; widest = Some (narrower_twice (narrowed c.end c.widest s) (min e s) i) }

repeated_stays : (n : ℕ) (c : Chain) (s e : ℕ) → followed c s e ≡ c → repeated c s e n ≡ c
repeated_stays zero c s e stays = refl
repeated_stays (suc n) c s e stays = ap (λ d. repeated d s e n) stays ∙ repeated_stays n c s e stays

pub repeated_often : (n : ℕ) (c : Chain) (s e : ℕ) → 2 ≤ n → repeated c s e n ≡ followed (followed c s e) s e
repeated_often zero c s e h = absurd (omega arith)
repeated_often (suc zero) c s e h = absurd (omega arith)
repeated_often (suc (suc n)) c s e h = repeated_stays n (followed (followed c s e) s e) s e (followed_thrice c s e)

-- ---- how wide it is

small_narrowed : (m : ℕ) (end widest : Option ℕ) (s : ℕ) → s ≤ m → IfSome widest (λ w. w ≤ m) → IfSome (narrowed end widest s) (λ w. w ≤ m)
small_narrowed m None widest s l is = is
small_narrowed m (Some e) None s l is = omega arith
small_narrowed m (Some e) (Some w) s l is = omega (arith, l)

pub small_repeated : (m n : ℕ) (c : Chain) (s e : ℕ) → s ≤ m → IfSome c.widest (λ w. w ≤ m) → IfSome (repeated c s e n).widest (λ w. w ≤ m)
small_repeated m zero c s e l is = is
small_repeated m (suc n) c s e l is = small_repeated m n (followed c s e) s e l (small_narrowed m c.end c.widest s l is)

-- ---- along the parts, and along the pieces

abbrev pub empty : Chain
empty = record { end = None; widest = None }

module _ (m : MetricsValue) (size : ℤ) where
  abbrev pub with_piece : Chain → Part → Chain
  with_piece c p = followed c (length_at m size p.start) (length_at m size p.end)

  abbrev pub with_part : ℕ → Chain → Part → Chain
  with_part count c p = repeated c (length_at m size p.start) (length_at m size p.end) (repeats count p)

  fold-replicate : (n : ℕ) (c : Chain) (p : Part) → fold with_piece c (replicate n p) ≡ repeated c (length_at m size p.start) (length_at m size p.end) n
  fold-replicate zero c p = refl
  fold-replicate (suc n) c p = fold-replicate n (with_piece c p) p

  fold-sequence : (count : ℕ) (c : Chain) (parts : List Part) → fold with_piece c (sequence count parts) ≡ fold (with_part count) c parts
  fold-sequence count c [] = refl
  fold-sequence count c (p ∷ parts) =
      fold-append with_piece c (replicate (repeats count p) p) (sequence count parts)
      ∙ fold-sequence count (fold with_piece c (replicate (repeats count p) p)) parts
      ∙ ap (λ d. fold (with_part count) d parts) (fold-replicate (repeats count p) c p)

  -- the least of the joints, and of an overlap before them if there is one
  least_with : Option ℕ → List ℕ → Option ℕ
  least_with None js = reduce min js
  least_with (Some w) js = Some (fold min w js)

  widest_behind : (w : Option ℕ) (p : Part) (ps : List Part)
      → (fold with_piece (record { end = Some (length_at m size p.end); widest = w }) ps).widest ≡ least_with w (joints_behind m size p ps)
  unfolding least_with
  widest_behind None p [] = refl
  widest_behind (Some w) p [] = refl
  widest_behind None p (q ∷ ps) = widest_behind (Some (joint m size p q)) q ps
  widest_behind (Some w) p (q ∷ ps) = widest_behind (Some (min w (joint m size p q))) q ps

  widest_of_pieces : (ps : List Part) → (fold with_piece empty ps).widest ≡ reduce min (joints m size ps)
  unfolding least_with
  widest_of_pieces [] = refl
  widest_of_pieces (p ∷ ps) = widest_behind None p ps

  pub widest_is : (count : ℕ) (parts : List Part) → (fold (with_part count) empty parts).widest ≡ widest_overlap m size count parts
  unfolding widest_overlap
  widest_is count parts =
      ap (λ c. c.widest) (sym (fold-sequence count empty parts)) ∙ widest_of_pieces (sequence count parts)

  -- ---- a row with a joint has two pieces

  length-sequence : (count : ℕ) (parts : List Part) → length (sequence count parts) ≡ pieces (sums_of m size parts) count
  length-sequence count [] = omega arith
  length-sequence count (p ∷ parts) =
      let n = length-sequence count parts in
      let l = length-append (replicate (repeats count p) p) (sequence count parts) in
      let r = length-replicate (repeats count p) p in
      let f = sum_by-cons (λ part. cond (not part.extender) 1 0) p parts in
      let e = sum_by-cons (λ part. cond part.extender 1 0) p parts in
      by p.extender (l ∙ (λ i. r i + n i)) f e
    where
      by : (v : Bool) → length (sequence count (p ∷ parts)) ≡ cond v count 1 + pieces (sums_of m size parts) count
          → count_by (λ part. not part.extender) (p ∷ parts) ≡ cond (not v) 1 0 + count_by (λ part. not part.extender) parts
          → count_by (λ part. part.extender) (p ∷ parts) ≡ cond v 1 0 + count_by (λ part. part.extender) parts
          → length (sequence count (p ∷ parts)) ≡ pieces (sums_of m size (p ∷ parts)) count
      by true l f e = let k = ap (λ n. count * n) e in omega arith
      by false l f e = let k = ap (λ n. count * n) e in omega arith

  two_joined : (ps : List Part) → IfSome (reduce min (joints m size ps)) (λ _. 2 ≤ length ps)
  two_joined [] = tt
  two_joined (p ∷ []) = tt
  two_joined (p ∷ q ∷ ps) = omega arith

  pub joined : (count : ℕ) (parts : List Part) → IfSome (widest_overlap m size count parts) (λ _. 2 ≤ pieces (sums_of m size parts) count)
  unfolding widest_overlap
  joined count parts =
      subst (λ n. IfSome (reduce min (joints m size (sequence count parts))) (λ _. 2 ≤ n)) (length-sequence count parts) (two_joined (sequence count parts))
