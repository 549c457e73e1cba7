-- What holds of all multiscripts, in terms of where their boxes and their ink lie.
use Rattle.std.specs.Prelude.{ℕ, ◌<◌, ℤ, pos, ◌+ℤ◌, ◌-ℤ◌, ◌≤ℤ◌, ◌≡◌, [], ◌∷◌, true, false, List, slice_get, Some}
use Rattle.fixed_units.specs.declared.boxes.MathBox.{MathBox}
use Rattle.multiscripts.specs.declared.parts.Multi.{Multi}
use Rattle.multiscripts.specs.declared.parts.Pair.{Pair}
use Rattle.scripts.specs.Beside.{spot}
use Rattle.scripts.specs.declared.parts.Scripted.{Scripted}
use Rattle.scripts.specs.declared.parts.Spot.{Spot}

-- the scripts of the pair at a place stand there
pub record StandAt (pairs : List Pair) (multi : Multi) (place : ℕ) (pair : Pair) (sub sup : Spot) :
    Type 0 where
  pub pair_is : slice_get pairs place ≡ Some pair
  pub sub_is : slice_get multi.subs place ≡ Some sub
  pub sup_is : slice_get multi.sups place ≡ Some sup

-- ---- up and down

-- how far the ink of a pair's subscript begins below the end of the superscript's
abbrev pub ink_gap : Pair → Spot → Spot → ℤ
ink_gap pair sub sup = (sub.y -ℤ pair.sub.ink_ascent) -ℤ (sup.y +ℤ pair.sup.ink_descent)

-- in each pair at least that
abbrev pub AllKeepGap : ℤ → List Pair → Multi → Type 0
AllKeepGap gap pairs multi =
    (place : ℕ) (pair : Pair) (sub sup : Spot) → StandAt pairs multi place pair sub sup
    → gap ≤ℤ ink_gap pair sub sup

-- ---- along the line

-- where the scripts of a pair begin and end
abbrev pub end_of : Spot → MathBox → ℤ
end_of place script = place.x +ℤ script.width

-- the two prescripts of each pair end together
abbrev pub PrescriptsEndTogether : List Pair → Multi → Type 0
PrescriptsEndTogether pairs multi =
    (place : ℕ) (pair : Pair) (sub sup : Spot) → StandAt pairs multi place pair sub sup
    → pair.before ≡ true
    → end_of sub pair.sub ≡ end_of sup pair.sup

-- all pairs ahead of a place are prescripts
abbrev pub AllBefore : List Pair → ℕ → Type 0
AllBefore pairs place = (earlier : ℕ) (other : Pair) → earlier < place
    → slice_get pairs earlier ≡ Some other → other.before ≡ true

-- the scripts of the first pair behind the base stand apart by its italic correction
abbrev pub FirstPairLeans : MathBox → List Pair → Multi → Type 0
FirstPairLeans base pairs multi =
    (place : ℕ) (pair : Pair) (sub sup : Spot) → StandAt pairs multi place pair sub sup
    → pair.before ≡ false
    → AllBefore pairs place → sup.x ≡ sub.x +ℤ base.italic

-- those of each later one begin together
abbrev pub LaterPairsDont : List Pair → Multi → Type 0
LaterPairsDont pairs multi =
    (place earlier : ℕ) (pair other : Pair) (sub sup : Spot)
    → StandAt pairs multi place pair sub sup → pair.before ≡ false
    → earlier < place → slice_get pairs earlier ≡ Some other → other.before ≡ false → sup.x ≡ sub.x

-- ---- one pair

-- a pair behind its base
abbrev pub behind : MathBox → MathBox → Pair
behind sub sup = record { sub = sub; sup = sup; before = false }

-- as two scripts stand
pub record IsLaidOutAs (scripted : Scripted) (multi : Multi) : Type 0 where
  pub frame : multi.frame ≡ scripted.frame
  pub base : multi.base ≡ spot (pos 0) (pos 0)
  pub subs : multi.subs ≡ scripted.sub ∷ []
  pub sups : multi.sups ≡ scripted.sup ∷ []
