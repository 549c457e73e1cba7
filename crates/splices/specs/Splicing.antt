-- What a splice makes of a list, and what takes it back.
use Rattle.std.specs.Prelude.{◌≡◌, ◌≢◌, ⊤, ◌⊎◌, ℕ, ◌+◌, ◌<◌, ◌≤◌, List, length, Option, Some, None, slice_get, slice_set}
use Rattle.std.specs.List.{insert, remove}
use Rattle.splices.specs.declared.site.Site.{Site}
use Rattle.splices.specs.declared.site.Site.TheVariants.{Stay as Still, Put as PutAt, Take as TakeAt, Swap as SwapAt}
use Rattle.splices.specs.declared.splice.Splice.{Splice}
use Rattle.splices.specs.declared.splice.Splice.TheVariants.{Stay, Put, Take, Swap}

-- the list after it
abbrev pub spliced : {A : Type 0} → Splice A → List A → List A
spliced Stay list = list
spliced (Put index item room) list = insert list index item
spliced (Take index) list = remove list index
spliced (Swap index item) list = slice_set list index item

-- what it takes out of the list
abbrev pub taken : {A : Type 0} → Splice A → List A → Option A
taken Stay list = None
taken (Put index item room) list = None
taken (Take index) list = slice_get list index
taken (Swap index item) list = slice_get list index

-- there is such a place in the list, and room for what is put in
abbrev pub FitsIn : {A : Type 0} → Splice A → List A → Type 0
FitsIn Stay list = ⊤
FitsIn (Put index item room) list = (index ≤ length list) × (length list < room)
FitsIn (Take index) list = index < length list
FitsIn (Swap index item) list = index < length list

-- where it splices, and how
abbrev pub site_of : {A : Type 0} → Splice A → Site
site_of Stay = Still
site_of (Put index item room) = PutAt index
site_of (Take index) = TakeAt index
site_of (Swap index item) = SwapAt index

-- ---- taken back

-- the splice that takes one at a site back, where this was taken out, with that much room
abbrev pub inverse : {A : Type 0} → Site → Option A → ℕ → Splice A
inverse Still taken room = Stay
inverse (PutAt index) taken room = Take index
inverse (TakeAt index) None room = Stay
inverse (TakeAt index) (Some item) room = Put index item room
inverse (SwapAt index) None room = Stay
inverse (SwapAt index) (Some item) room = Swap index item

-- the room that the inverse takes, of a list before the splice
abbrev pub room_back : {A : Type 0} → Splice A → List A → ℕ
room_back Stay list = 0
room_back (Put index item room) list = 0
room_back (Take index) list = length list
room_back (Swap index item) list = 0

-- it has room for what it puts into so many items
abbrev pub IsRoomy : {A : Type 0} → ℕ → Splice A → Type 0
IsRoomy count Stay = ⊤
IsRoomy count (Put index item room) = count < room
IsRoomy count (Take index) = ⊤
IsRoomy count (Swap index item) = ⊤

-- the same splice, with that much room for what it puts in
abbrev pub with_room : {A : Type 0} → ℕ → Splice A → Splice A
with_room room Stay = Stay
with_room room (Put index item own) = Put index item room
with_room room (Take index) = Take index
with_room room (Swap index item) = Swap index item

-- ---- what stays

-- an item that stood at a place before stands at this one after it. Of an item that comes or goes
-- this holds nowhere
abbrev pub Moves : Site → ℕ → ℕ → Type 0
Moves Still before after = before ≡ after
Moves (PutAt index) before after =
    ((after < index) × (before ≡ after)) ⊎ ((index < after) × (before + 1 ≡ after))
Moves (TakeAt index) before after =
    ((after < index) × (before ≡ after)) ⊎ ((index ≤ after) × (before ≡ after + 1))
Moves (SwapAt index) before after = (before ≡ after) × (after ≢ index)

-- it brings this item to this place
abbrev pub Brings : {A : Type 0} → Splice A → ℕ → A → Type 0
Brings Stay place x = ⊥
Brings (Put index item room) place x = (place ≡ index) × (x ≡ item)
Brings (Take index) place x = ⊥
Brings (Swap index item) place x = (place ≡ index) × (x ≡ item)

-- this holds of the item that it brings, where it brings one
abbrev pub AllBrought : {A : Type 0} → (A → Type 0) → Splice A → Type 0
AllBrought P Stay = ⊤
AllBrought P (Put index item room) = P item
AllBrought P (Take index) = ⊤
AllBrought P (Swap index item) = P item

-- ---- two splices, of two lists

-- they splice at one site, and the items that they bring stand to one another so
pub record IsAlike {A B : Type 0} (R : A → B → Type 0) (splice : Splice A)
    (other : Splice B) : Type 0 where
  pub one_site : site_of other ≡ site_of splice
  pub related : (place : ℕ) (item : A) (twin : B) → Brings splice place item →
      Brings other place twin → R item twin
