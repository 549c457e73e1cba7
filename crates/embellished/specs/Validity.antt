-- Which elements are valid, by how their children are laid out (MathML Core 3.3.2, 3.3.3, 3.4,
-- 3.5).
use Rattle.std.specs.Prelude.{◌%◌, Bool, true, false, not, ◌&&◌, nat_eq, nat_le, if◌then◌else◌, List, [], ◌∷◌, length, filter}
use Rattle.std.specs.List.{count_by, list_all, slice_split}
use Rattle.math_tree.specs.declared.kind.Kind.{Kind}
use Rattle.math_tree.specs.declared.kind.Kind.TheVariants.{Mfrac, Mmultiscripts, Mover, Mroot, Mrow, Msub, Msubsup, Msup, Mtable, Mtr, Munder, Munderover}
use Rattle.embellished.specs.Kinds.{is_annotation, is_prescripts_mark, is_cell, is_table_row}

abbrev pub is_even : List Kind → Bool
is_even scripts = nat_eq (length scripts % 2) 0

-- at most one mark, and an even number of scripts on each side of it
unfoldable pub are_scripts : List Kind → Bool
are_scripts kids =
    nat_le (count_by is_prescripts_mark kids) 1
    && list_all is_even (slice_split is_prescripts_mark kids)

-- a base, and then scripts
unfoldable pub are_base_and_scripts : List Kind → Bool
are_base_and_scripts [] = false
are_base_and_scripts (base ∷ scripts) = not (is_prescripts_mark base) && are_scripts scripts

-- whether an element is valid over children, none of them an annotation, that are laid out so
unfoldable pub is_valid : Kind → List Kind → Bool
is_valid Mfrac kids = nat_eq (length kids) 2
is_valid Mroot kids = nat_eq (length kids) 2
is_valid Msub kids = nat_eq (length kids) 2
is_valid Msup kids = nat_eq (length kids) 2
is_valid Munder kids = nat_eq (length kids) 2
is_valid Mover kids = nat_eq (length kids) 2
is_valid Msubsup kids = nat_eq (length kids) 3
is_valid Munderover kids = nat_eq (length kids) 3
is_valid Mmultiscripts kids = are_base_and_scripts kids
is_valid Mtr kids = list_all is_cell kids
is_valid Mtable kids = list_all is_table_row kids
is_valid other kids = true

-- how an element over such children is laid out: an invalid one as an `mrow`
unfoldable pub laid_as : Kind → List Kind → Kind
laid_as kind kids =
    if is_valid kind (filter (λ kid. not (is_annotation kid)) kids) then kind else Mrow
