use Rattle.std.proofs.Common.{◌≡◌, ◌∙◌, refl, ℕ, Bool, true, false, List, [], ◌∷◌, map, Bor, Option, Some, if◌then◌else◌}
use Rattle.std.specs.List.{find}
use Rattle.std.specs.Option.{option_map_or}
use Rattle.std.specs.Str.{bytes_eq}
use Rattle.math_tree.specs.declared.kind.Kind.{Kind}
use Rattle.math_tree.specs.declared.kind.Kind.TheVariants.{Unknown}
use Rattle.math_tree.specs.Kinds.{kind_of, kind_among}
use Rattle.math_tree.proofs.kind.Kind.of_name.Goals as goal

-- a row of the program's table as a row of the definition's
abbrev row_of : Bor (List ℕ) × Kind → List ℕ × Kind
row_of row = (row.0.now, row.1)

found : (rows : List (Bor (List ℕ) × Kind)) (name : List ℕ)
    → kind_among rows name
    ≡ option_map_or (λ row. row.1) (find (λ row. bytes_eq row.0 name) (map row_of rows)) Unknown
unfolding kind_among
found [] name = refl
found (row ∷ rows) name = by (bytes_eq row.0.now name) (found rows name)
  where
    first : Bool → Option (Bor (List ℕ) × Kind)
    first b = if b then Some row else find (λ row. bytes_eq row.0.now name) rows

    listed : Bool → Option (List ℕ × Kind)
    listed b = if b then Some (row_of row) else find (λ row. bytes_eq row.0 name) (map row_of rows)

    by : (b : Bool) → option_map_or (λ row. row.1) (find (λ row. bytes_eq row.0.now name) rows) Unknown
        ≡ option_map_or (λ row. row.1) (find (λ row. bytes_eq row.0 name) (map row_of rows)) Unknown
        → option_map_or (λ row. row.1) (first b) Unknown ≡ option_map_or (λ row. row.1) (listed b) Unknown
    by true h = refl
    by false h = h

pub returns : goal.returns
unfolding kind_of
returns c = c.kind_among.ensures ∙ found _ c.args.name.now
