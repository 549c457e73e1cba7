-- Splices of three items, with their inverses.
use Rattle.std.proofs.Common.{◌≡◌, refl, inl, inr, ℕ, List, [], ◌∷◌, Some, None, arith}
use Rattle.splices.specs.Splicing.{Moves, inverse, room_back, site_of, spliced, taken}
use Rattle.splices.specs.declared.site.Site.TheVariants.{Put as PutAt, Take as TakeAt, Swap as SwapAt}
use Rattle.splices.specs.declared.splice.Splice.{Splice}
use Rattle.splices.specs.declared.splice.Splice.TheVariants.{Stay, Put, Take, Swap}

abbrev list : List ℕ
list = 10 ∷ 20 ∷ 30 ∷ []

-- ---- an item is put in before the second

abbrev put : Splice ℕ
put = Put 1 15 4

put-gives : spliced put list ≡ 10 ∷ 15 ∷ 20 ∷ 30 ∷ []
put-gives = refl

put-back : inverse (site_of put) (taken put list) 0 ≡ Take 1
put-back = refl

-- the first stays at its place, and the second stands one further
put-keeps : Moves (PutAt 1) 0 0
put-keeps = inl (omega arith, refl)

put-moves : Moves (PutAt 1) 1 2
put-moves = inr (omega arith, refl)

-- ---- one is put in behind the last

last-gives : spliced (Put 3 40 4) list ≡ 10 ∷ 20 ∷ 30 ∷ 40 ∷ []
last-gives = refl

-- ---- the first is taken out

abbrev take : Splice ℕ
take = Take 0

take-gives : spliced take list ≡ 20 ∷ 30 ∷ []
take-gives = refl

taken-is : taken take list ≡ Some 10
taken-is = refl

take-back : inverse (site_of take) (taken take list) (room_back take list) ≡ Put 0 10 3
take-back = refl

take-moves : Moves (TakeAt 0) 2 1
take-moves = inr (omega arith, refl)

-- ---- the last is exchanged

abbrev swap : Splice ℕ
swap = Swap 2 35

swap-gives : spliced swap list ≡ 10 ∷ 20 ∷ 35 ∷ []
swap-gives = refl

swap-back : inverse (site_of swap) (taken swap list) 0 ≡ Swap 2 30
swap-back = refl

-- of the exchanged place nothing stays
swap-drops : Moves (SwapAt 2) 2 2 → ⊥
swap-drops h = h.1 refl

-- ---- nothing is spliced

stay-gives : spliced Stay list ≡ list
stay-gives = refl

stay-takes : taken Stay list ≡ None
stay-takes = refl
