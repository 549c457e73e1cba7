-- The built-in dictionary, this project's subset of MathML Core, B.1: the characters of each
-- category, and what the category says of an operator.
use Rattle.std.specs.Prelude.{ℕ, ◌&&◌, nat_le, Bool, true, false, List, [], ◌∷◌, Option, None, Some}
use Rattle.std.specs.List.{list_any}
use Rattle.std.specs.Option.{option_map_or}
use Rattle.op_dictionary.specs.declared.operator.Category.{Category}
use Rattle.op_dictionary.specs.declared.operator.Category.TheVariants.{Default, A, B, C, D, E, F, G, H, I, J, K, L, M}
use Rattle.op_dictionary.specs.declared.operator.Form.{Form}
use Rattle.op_dictionary.specs.declared.operator.Form.TheVariants.{Prefix, Infix, Postfix}
use Rattle.op_dictionary.specs.declared.operator.Properties.{Properties}
use Rattle.op_dictionary.specs.declared.text.OpText.{OpText}
use Rattle.op_dictionary.specs.declared.text.OpText.TheVariants.{One}
use Rattle.op_dictionary.specs.Pairs.{same_form}

-- ---- the characters of each category

-- every category but Default
abbrev pub categories : List Category
categories = A ∷ B ∷ C ∷ D ∷ E ∷ F ∷ G ∷ H ∷ I ∷ J ∷ K ∷ L ∷ M ∷ []

-- the form in which a category's characters are listed
abbrev pub nominal_form : Category → Option Form
nominal_form Default = None
nominal_form A = Some Infix
nominal_form B = Some Infix
nominal_form C = Some Infix
nominal_form D = Some Prefix
nominal_form E = Some Postfix
nominal_form F = Some Prefix
nominal_form G = Some Postfix
nominal_form H = Some Prefix
nominal_form I = Some Postfix
nominal_form J = Some Prefix
nominal_form K = Some Infix
nominal_form L = Some Prefix
nominal_form M = Some Infix

-- a run of one code point
abbrev one : ℕ → ℕ × ℕ
one code = (code, code)

-- the code points of a category, in runs from a first to a last one
abbrev pub runs_of : Category → List (ℕ × ℕ)
runs_of Default = []
runs_of A = (0x2190, 0x2195) ∷ (0x21D0, 0x21D5) ∷ []
runs_of B = one 0x2B ∷ one 0x2D ∷ one 0x2F ∷ one 0xB1 ∷ one 0xF7 ∷ (0x2212, 0x2213)
    ∷ (0x2227, 0x222A) ∷ []
runs_of C = one 0x25 ∷ one 0x2A ∷ one 0xB7 ∷ one 0xD7 ∷ (0x2217, 0x2218) ∷ one 0x22C5 ∷ []
runs_of D = one 0x21 ∷ one 0x2B ∷ one 0x2D ∷ one 0xAC ∷ one 0xB1 ∷ one 0x2200 ∷ one 0x2203
    ∷ one 0x2207 ∷ (0x2212, 0x2213) ∷ []
runs_of E = one 0x21 ∷ one 0x25 ∷ one 0x27 ∷ one 0xB0 ∷ (0x2032, 0x2033) ∷ []
runs_of F = one 0x28 ∷ one 0x5B ∷ (0x7B, 0x7C) ∷ one 0x2016 ∷ one 0x2308 ∷ one 0x230A
    ∷ one 0x27E8 ∷ []
runs_of G = one 0x29 ∷ one 0x5D ∷ (0x7C, 0x7D) ∷ one 0x2016 ∷ one 0x2309 ∷ one 0x230B
    ∷ one 0x27E9 ∷ []
runs_of H = (0x222B, 0x2233) ∷ []
runs_of I = (0x5E, 0x5F) ∷ one 0x7E ∷ one 0xAF ∷ (0x2C6, 0x2C7) ∷ one 0x2DC ∷ one 0x203E
    ∷ (0x23B4, 0x23B5) ∷ (0x23DC, 0x23DF) ∷ []
runs_of J = (0x220F, 0x2211) ∷ (0x22C0, 0x22C3) ∷ []
runs_of K = (0x2061, 0x2064) ∷ []
runs_of L = (0x2145, 0x2146) ∷ one 0x2202 ∷ []
runs_of M = one 0x2C ∷ (0x3A, 0x3B) ∷ []

-- whether a code point lies in a run
abbrev pub in_run : ℕ → ℕ × ℕ → Bool
in_run code (first, last) = nat_le first code && nat_le code last

-- whether a category's characters are listed in the form
abbrev pub in_form : Form → Category → Bool
in_form form category = option_map_or (same_form form) (nominal_form category) false

-- the built-in triples: a character of the category's runs, in the category's nominal form
abbrev pub is_built_in : OpText → Form → Category → Bool
is_built_in (One letter) form category =
    in_form form category && list_any (in_run letter) (runs_of category)
is_built_in _ form category = false

abbrev pub overlap : ℕ × ℕ → ℕ × ℕ → Bool
overlap (first, last) (begin, end) = nat_le first end && nat_le begin last

-- whether both categories list one character in the form
abbrev pub share : Form → Category → Category → Bool
share form category other =
    (in_form form category && in_form form other)
    && list_any (λ run. list_any (overlap run) (runs_of other)) (runs_of category)

-- ---- the axis of a character (MathML Core, B.2)

-- the characters that stretch along the inline axis, an own list: six arrows, and category I
abbrev pub inline_runs : List (ℕ × ℕ)
inline_runs = one 0x2190 ∷ one 0x2192 ∷ one 0x2194 ∷ one 0x21D0 ∷ one 0x21D2 ∷ one 0x21D4
    ∷ runs_of I

abbrev pub is_inline : OpText → Bool
is_inline (One letter) = list_any (in_run letter) inline_runs
is_inline _ = false

-- ---- what a category says of an operator

-- spaces are in 18ths of the font size
abbrev row : ℕ → ℕ → Bool → Bool → Bool → Bool → Properties
row before after stretchy symmetric largeop movablelimits = record {
  lspace = before;
  rspace = after;
  stretchy = stretchy;
  symmetric = symmetric;
  largeop = largeop;
  movablelimits = movablelimits;
}

--                           spaces stretchy  symmetric  largeop  movablelimits
unfoldable pub properties_of : Category → Properties
properties_of Default = row 5 5 false false false false
properties_of A = row 5 5 true false false false
properties_of B = row 4 4 false false false false
properties_of C = row 3 3 false false false false
properties_of D = row 0 0 false false false false
properties_of E = row 0 0 false false false false
properties_of F = row 0 0 true true false false
properties_of G = row 0 0 true true false false
properties_of H = row 3 3 false true true false
properties_of I = row 0 0 true false false false
properties_of J = row 3 3 false true true true
properties_of K = row 0 0 false false false false
properties_of L = row 3 0 false false false false
properties_of M = row 0 3 false false false false
