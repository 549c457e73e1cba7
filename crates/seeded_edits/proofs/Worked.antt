-- Draws and edits, computed from seeds.
use Rattle.std.proofs.Common.{◌≡◌, refl, [], ◌∷◌, codes}
use Rattle.std.specs.Fmt.{digits}
use Rattle.tree_edits.specs.declared.edit.Edit.TheVariants.{Text}
use Rattle.seeded_edits.specs.Draws.{drawn, next_state, number_in}
use Rattle.seeded_edits.specs.Edits.{after_draws, attribute_set, drawn_edit, drawn_edits, edit_of_kind, id}
use Rattle.seeded_edits.specs.Start.{row_count, row_id}

-- the numbers go on modulo 2^64
next_of_one : next_state 1 ≡ 7806831264735756412
unfolding next_state
next_of_one = refl

next_of_last : next_state 18446744073709551615 ≡ 13525302890751722018
unfolding next_state
next_of_last = refl

-- 7806831264735756412 is 908834774 * 2^33 and a rest, and 908834774 is 22 modulo 64
row_of_one : drawn 64 1 ≡ 22
unfolding next_state number_in
row_of_one = refl

-- the seed 1: edits of the rows 22, 38, 26, 58 and 60
edits_of_one : drawn_edits 5 1
    ≡ attribute_set 291 (codes "linethickness") (codes "1px")
    ∷ attribute_set 496 (codes "scriptlevel") (codes "2")
    ∷ attribute_set 340 (codes "scriptlevel") (codes "0")
    ∷ attribute_set 758 (codes "form") (codes "infix")
    ∷ Text (id 793) (codes "34")
    ∷ []
unfolding digits drawn_edits drawn_edit after_draws edit_of_kind next_state number_in
edits_of_one = refl

-- the greatest seed
edits_of_last : drawn_edits 3 18446744073709551615
    ≡ attribute_set 524 (codes "form") (codes "infix")
    ∷ Text (id 39) (codes "987")
    ∷ attribute_set 277 (codes "form") (codes "infix")
    ∷ []
unfolding digits drawn_edits drawn_edit after_draws edit_of_kind next_state number_in
edits_of_last = refl

-- the next id behind 64 rows of 13 elements
next_id : row_id row_count ≡ 834
next_id = refl
