-- The kinds of elements, which their names decide (MathML Core 2.1 and 3).
use Rattle.std.specs.Prelude.{ℕ, List, [], ◌∷◌, Bool, true, false, codes}
use Rattle.std.specs.Borrow.{Bor}
use Rattle.std.specs.List.{find}
use Rattle.std.specs.Option.{option_map_or}
use Rattle.std.specs.Str.{bytes_eq}
use Rattle.math_tree.specs.declared.kind.Kind.{Kind}
use Rattle.math_tree.specs.declared.kind.Kind.TheVariants.{Annotation, AnnotationXml, Maction, Math, Merror, Mfrac, Mi, Mmultiscripts, Mn, Mo, Mover, Mpadded, Mphantom, Mprescripts, Mroot, Mrow, Ms, Mspace, Msqrt, Mstyle, Msub, Msubsup, Msup, Mtable, Mtd, Mtext, Mtr, Munder, Munderover, Semantics, Unknown}

-- each known name with its kind
abbrev pub kinds : List (List ℕ × Kind)
kinds =
    (codes "annotation", Annotation)
    ∷ (codes "annotation-xml", AnnotationXml)
    ∷ (codes "maction", Maction)
    ∷ (codes "math", Math)
    ∷ (codes "merror", Merror)
    ∷ (codes "mfrac", Mfrac)
    ∷ (codes "mi", Mi)
    ∷ (codes "mmultiscripts", Mmultiscripts)
    ∷ (codes "mn", Mn)
    ∷ (codes "mo", Mo)
    ∷ (codes "mover", Mover)
    ∷ (codes "mpadded", Mpadded)
    ∷ (codes "mphantom", Mphantom)
    ∷ (codes "mprescripts", Mprescripts)
    ∷ (codes "mroot", Mroot)
    ∷ (codes "mrow", Mrow)
    ∷ (codes "ms", Ms)
    ∷ (codes "mspace", Mspace)
    ∷ (codes "msqrt", Msqrt)
    ∷ (codes "mstyle", Mstyle)
    ∷ (codes "msub", Msub)
    ∷ (codes "msubsup", Msubsup)
    ∷ (codes "msup", Msup)
    ∷ (codes "mtable", Mtable)
    ∷ (codes "mtd", Mtd)
    ∷ (codes "mtext", Mtext)
    ∷ (codes "mtr", Mtr)
    ∷ (codes "munder", Munder)
    ∷ (codes "munderover", Munderover)
    ∷ (codes "semantics", Semantics)
    ∷ []

-- the kind that a name decides; names are compared exactly, and every other name is unknown
unfoldable pub kind_of : List ℕ → Kind
kind_of name = option_map_or (λ row. row.1) (find (λ row. bytes_eq row.0 name) kinds) Unknown

-- the same in any rows, as a program lists them
unfoldable pub kind_among : List (Bor (List ℕ) × Kind) → List ℕ → Kind
kind_among rows name = option_map_or (λ row. row.1) (find (λ row. bytes_eq row.0.now name) rows)
    Unknown

-- the elements that have a text and no children; all others may have children and no text
abbrev pub is_text_kind : Kind → Bool
is_text_kind Annotation = true
is_text_kind Mi = true
is_text_kind Mn = true
is_text_kind Mo = true
is_text_kind Ms = true
is_text_kind Mtext = true
is_text_kind other = false

-- the elements with scripts or limits (MathML Core 3.4)
abbrev pub is_scripted : Kind → Bool
is_scripted Msub = true
is_scripted Msup = true
is_scripted Msubsup = true
is_scripted Munder = true
is_scripted Mover = true
is_scripted Munderover = true
is_scripted Mmultiscripts = true
is_scripted other = false
