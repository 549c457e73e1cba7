-- What is printed for a field is a word.
use Rattle.std.proofs.Common.{◌≡◌, refl, ℕ, ◌≤◌, ◌<◌, suc, ℤ, pos, negsuc, ◌≤ℤ◌, Bool, true, false, List, [], ◌∷◌, ◌++◌, length, decimal, arith, lit≤, length-append, nat_le}
use Rattle.std.specs.Char.{digit_value}
use Rattle.std.specs.Fmt.{signed_decimal}
use Rattle.std.specs.List.{list_all}
use Rattle.std.specs.Str.Parse.{AllDigits}
use Rattle.std.proofs.lemmas.Bool.{and_from, and_parts, le-leb}
use Rattle.std.proofs.lemmas.Bool.Decides.{nat_tests}
use Rattle.std.proofs.lemmas.Fmt.{decimal_is_IsNumeral}
use Rattle.std.proofs.lemmas.Int.{ints}
use Rattle.op_dictionary.specs.declared.operator.Axis.{Axis}
use Rattle.op_dictionary.specs.declared.operator.Axis.TheVariants.{Block, Inline}
use Rattle.op_dictionary.specs.declared.operator.Category.{Category}
use Rattle.op_dictionary.specs.declared.operator.Category.TheVariants.{Default, A, B, C, D, E, F, G, H, I, J, K, L, M}
use Rattle.op_dictionary.specs.declared.operator.Form.{Form}
use Rattle.op_dictionary.specs.declared.operator.Form.TheVariants.{Prefix, Infix, Postfix}
use Rattle.op_dictionary.specs.declared.text.OpText.{OpText}
use Rattle.op_dictionary.specs.declared.text.OpText.TheVariants.{Empty, One, Two, Other}
use Rattle.font_metrics.specs.declared.corner.Corner.{Corner}
use Rattle.font_metrics.specs.declared.corner.Corner.TheVariants.{TopRight, TopLeft, BottomRight, BottomLeft}
use Rattle.metrics_file.specs.Print.{code_text, operator_text}
use Rattle.font_metrics.specs.Texts.{extender_text, corner_text, form_text, category_text, axis_text}
use Rattle.font_metrics.specs.Taken.{IsOperatorText}
use Rattle.metrics_file.specs.Words.{plus}
use Rattle.font_metrics.specs.Names.{is_scalar}
use Rattle.metrics_file.proofs.ReadBack.Codes.{code_text-digits, length-code_text, scalar-small, pair-small}
use Rattle.metrics_file.proofs.ReadBack.Joined.{is_ink, is_word, list_all-append}

digit-ink : (c : ℕ) → digit_value c < 36 → is_ink c ≡ true
digit-ink c h = grind (arith, nat_tests)

digits-ink : (base : ℕ) (ds : List ℕ) → base ≤ 36 → AllDigits base ds → list_all is_ink ds ≡ true
digits-ink base [] small h = refl
digits-ink base (c ∷ cs) small h = and_from _ _ (digit-ink c (omega (arith, h.0))) (digits-ink base cs small h.1)

digits-word : (base : ℕ) (ds : List ℕ) → base ≤ 36 → 1 ≤ length ds → AllDigits base ds → is_word ds ≡ true
digits-word base ds small some h = and_from _ _ (le-leb 1 (length ds) some) (digits-ink base ds small h)

pub decimal-word : (n : ℕ) → n < 1000000 → is_word (decimal n) ≡ true
decimal-word n small =
    let is = decimal_is_IsNumeral n (omega arith) in
    digits-word 10 (decimal n) (lit≤ tt) (omega (arith, is.0.0)) is.0.1

minus-word : (word : List ℕ) → is_word word ≡ true → is_word (45 ∷ word) ≡ true
minus-word word h =
    and_from _ _ (le-leb 1 (length (45 ∷ word)) (omega arith)) (and_parts (nat_le 1 (length word)) _ h).1

pub signed-word : (z : ℤ) → negsuc 32767 ≤ℤ z → z ≤ℤ pos 65535 → is_word (signed_decimal z) ≡ true
signed-word (pos n) low high = decimal-word n (omega (arith, ints))
signed-word (negsuc n) low high = minus-word (decimal (suc n)) (decimal-word (suc n) (omega (arith, ints)))

code-word : (n : ℕ) → n < 0x1000000 → is_word (code_text n) ≡ true
code-word n small =
    digits-word 16 (code_text n) (lit≤ tt) (omega (arith, (length-code_text n small).0)) (code_text-digits n small)

pub letter-word : (n : ℕ) → is_scalar n ≡ true → is_word (code_text n) ≡ true
letter-word n h = code-word n (scalar-small n h)

joined-word : (first second : List ℕ) → is_word first ≡ true → is_word second ≡ true
    → is_word (first ++ plus ∷ second) ≡ true
joined-word first second h k =
    let p = and_parts (nat_le 1 (length first)) _ h in
    let q = and_parts (nat_le 1 (length second)) _ k in
    and_from _ _
    (le-leb 1 (length (first ++ plus ∷ second)) (omega (arith, length-append first (plus ∷ second))))
    (list_all-append is_ink first (plus ∷ second) p.1 q.1)

pub operator_text-word : (text : OpText) → IsOperatorText text → is_word (operator_text text) ≡ true
operator_text-word Empty h = absurd h
operator_text-word (One letter) h = letter-word letter h
operator_text-word (Two first second) h =
    joined-word (code_text first) (code_text second) (code-word first (pair-small first h.0))
    (code-word second (pair-small second h.1))
operator_text-word Other h = absurd h

pub extender-word : (extender : Bool) → is_word (extender_text extender) ≡ true
extender-word false = refl
extender-word true = refl

pub corner-word : (corner : Corner) → is_word (corner_text corner) ≡ true
corner-word TopRight = refl
corner-word TopLeft = refl
corner-word BottomRight = refl
corner-word BottomLeft = refl

pub form-word : (form : Form) → is_word (form_text form) ≡ true
form-word Prefix = refl
form-word Infix = refl
form-word Postfix = refl

pub axis-word : (axis : Axis) → is_word (axis_text axis) ≡ true
axis-word Block = refl
axis-word Inline = refl

pub category-word : (category : Category) → is_word (category_text category) ≡ true
category-word Default = refl
category-word A = refl
category-word B = refl
category-word C = refl
category-word D = refl
category-word E = refl
category-word F = refl
category-word G = refl
category-word H = refl
category-word I = refl
category-word J = refl
category-word K = refl
category-word L = refl
category-word M = refl
