-- The JSON value of which the starting tree is read.
use Rattle.std.specs.Prelude.{ℕ, List, [], ◌∷◌, codes, replicate}
use Rattle.serde_json.specs.Data.{Data, string, array, object, no_members, member}
use Rattle.serde_json.specs.View.{items_of}
use Rattle.seeded_edits.specs.Start.{row_count}

-- an element of a name with a text, and one with children
abbrev pub leaf : List ℕ → List ℕ → Data
leaf name text =
    object (member (codes "name") (string name) (member (codes "text") (string text) no_members))

abbrev pub branch : List ℕ → List Data → Data
branch name children =
    object (member (codes "children") (array (items_of children))
    (member (codes "name") (string name) no_members))

abbrev pub row_value : Data
row_value = branch (codes "mrow") (
    leaf (codes "mi") (codes "x")
    ∷ leaf (codes "mo") (codes "+")
    ∷ branch (codes "mfrac") (leaf (codes "mn") (codes "1") ∷ leaf (codes "mn") (codes "2") ∷ [])
    ∷ leaf (codes "mo") (codes "-")
    ∷ branch (codes "msup") (leaf (codes "mi") (codes "b") ∷ leaf (codes "mn") (codes "2") ∷ [])
    ∷ leaf (codes "mo") (codes "(")
    ∷ leaf (codes "mn") (codes "4")
    ∷ leaf (codes "mo") (codes ")")
    ∷ [])

-- the rows side by side, all alike
unfoldable pub document : Data
document = branch (codes "math") (replicate row_count row_value)
