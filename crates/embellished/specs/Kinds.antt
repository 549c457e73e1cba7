-- Groups of kinds of elements, as they are laid out (MathML Core 3).
use Rattle.std.specs.Prelude.{Bool, true, false}
use Rattle.math_tree.specs.Kinds.{is_scripted}
use Rattle.math_tree.specs.declared.kind.Kind.{Kind}
use Rattle.math_tree.specs.declared.kind.Kind.TheVariants.{Annotation, AnnotationXml, Maction, Math, Merror, Mfrac, Mi, Mmultiscripts, Mn, Mo, Mpadded, Mphantom, Mprescripts, Mrow, Ms, Mspace, Msqrt, Mstyle, Mtd, Mtext, Mtr, Semantics, Unknown}

-- an annotation is never in flow
abbrev pub is_annotation : Kind → Bool
is_annotation Annotation = true
is_annotation AnnotationXml = true
is_annotation other = false

-- the mark between the scripts behind a base and those before it
abbrev pub is_prescripts_mark : Kind → Bool
is_prescripts_mark Mprescripts = true
is_prescripts_mark other = false

abbrev pub is_operator : Kind → Bool
is_operator Mo = true
is_operator other = false

abbrev pub is_cell : Kind → Bool
is_cell Mtd = true
is_cell other = false

abbrev pub is_table_row : Kind → Bool
is_table_row Mtr = true
is_table_row other = false

abbrev pub is_multiscripts : Kind → Bool
is_multiscripts Mmultiscripts = true
is_multiscripts other = false

-- the elements that are embellished where their first child is (MathML Core 3.2.4.1)
abbrev pub is_led_by_its_base : Kind → Bool
is_led_by_its_base Mfrac = true
is_led_by_its_base other = is_scripted other

-- grouping elements (MathML Core 3.2.4.1): rows without an equation of their own, and `merror`
abbrev pub is_grouping : Kind → Bool
is_grouping Maction = true
is_grouping Math = true
is_grouping Merror = true
is_grouping Mphantom = true
is_grouping Mprescripts = true
is_grouping Mrow = true
is_grouping Mstyle = true
is_grouping Semantics = true
is_grouping Unknown = true
is_grouping other = false

-- the elements that are space-like or embellished by all their children in flow
abbrev pub is_judged_by_all : Kind → Bool
is_judged_by_all Mpadded = true
is_judged_by_all other = is_grouping other

-- the elements whose first and last operators are fences: those, `msqrt`, and by own choice `mtd`
abbrev pub has_fences : Kind → Bool
has_fences Msqrt = true
has_fences Mtd = true
has_fences other = is_judged_by_all other

-- the elements that are space-like by themselves (MathML Core 3.2.5)
abbrev pub is_blank : Kind → Bool
is_blank Mspace = true
is_blank Mtext = true
is_blank other = false

-- ---- which children are in flow

-- only the first child may be
abbrev pub shows_its_first : Kind → Bool
shows_its_first Maction = true
shows_its_first Semantics = true
shows_its_first other = false

-- no child is
abbrev pub shows_none : Kind → Bool
shows_none Annotation = true
shows_none AnnotationXml = true
shows_none Mi = true
shows_none Mn = true
shows_none Mo = true
shows_none Ms = true
shows_none Mspace = true
shows_none Mtext = true
shows_none other = false
