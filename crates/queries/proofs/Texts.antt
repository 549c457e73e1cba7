-- The lines of areas, one after another.
use Rattle.std.proofs.Common.{◌≡◌, ◌∙◌, refl, sym, ap, ℕ, ◌+◌, ◌<◌, List, [], ◌∷◌, ◌++◌, append-nil, length, take, drop, get_or, pos}
use Rattle.std.specs.List.{flat_map}
use Rattle.std.proofs.lemmas.List.{take-append-drop, take_more}
use Rattle.std.proofs.lemmas.List.Concat.{flat_map-append}
use Rattle.hit_test.specs.declared.areas.Area.{Area}
use Rattle.queries.specs.Lines.{area_line, lines_of_areas}

-- what stands in a list of areas past its end
abbrev pub no_area : Area
no_area = record { x = pos 0; y = pos 0; width = pos 0; height = pos 0 }

pub lines-more : (areas : List Area) (i : ℕ) (d area : Area) → i < length areas → area ≡ get_or areas i d
    → lines_of_areas (take i areas) ++ area_line area ≡ lines_of_areas (take (i + 1) areas)
lines-more areas i d area within is =
    ap (λ a. lines_of_areas (take i areas) ++ area_line a) is
    ∙ ap (λ l. lines_of_areas (take i areas) ++ l) (sym (append-nil (area_line (get_or areas i d))))
    ∙ sym (flat_map-append area_line (take i areas) (get_or areas i d ∷ []))
    ∙ ap lines_of_areas (sym (take_more areas i d within))

pub lines-split : (areas : List Area) (i : ℕ) → lines_of_areas (take i areas) ++ lines_of_areas (drop i areas) ≡ lines_of_areas areas
lines-split areas i = sym (flat_map-append area_line (take i areas) (drop i areas)) ∙ ap lines_of_areas (take-append-drop i areas)

-- each area has a line
pub no_areas : (areas : List Area) → lines_of_areas areas ≡ [] → areas ≡ []
unfolding area_line
no_areas [] none = refl
no_areas (area ∷ areas) none = absurd cc
