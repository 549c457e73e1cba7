-- The keys of the maps: their derived comparisons are those of the definitions.
use Rattle.std.proofs.Common.{◌≡◌, ◌&&◌, refl}
use Rattle.op_dictionary.specs.declared.operator.Form.{Form}
use Rattle.op_dictionary.specs.declared.operator.Form.TheVariants.{Prefix, Infix, Postfix}
use Rattle.op_dictionary.specs.declared.text.OpText.{OpText}
use Rattle.op_dictionary.specs.declared.text.OpText.TheVariants.{Empty, One, Two, Other}
use Rattle.op_dictionary.specs.Kept.{same_key}
use Rattle.op_dictionary.specs.Pairs.{same_text, same_form}
use Rattle.op_dictionary.specs.contracts.text.OpTextPartialEq.TheImpl as texts
use Rattle.op_dictionary.specs.contracts.operator.FormPartialEq.TheImpl as forms
use Rattle.op_dictionary.specs.contracts.extra.PairPartialEq.TheImpl as pairs

eq-same_text : (t u : OpText) → texts.eq-value.it t u ≡ same_text t u
eq-same_text Empty Empty = refl
eq-same_text Empty (One b) = refl
eq-same_text Empty (Two b d) = refl
eq-same_text Empty Other = refl
eq-same_text (One a) Empty = refl
eq-same_text (One a) (One b) = refl
eq-same_text (One a) (Two b d) = refl
eq-same_text (One a) Other = refl
eq-same_text (Two a c) Empty = refl
eq-same_text (Two a c) (One b) = refl
eq-same_text (Two a c) (Two b d) = refl
eq-same_text (Two a c) Other = refl
eq-same_text Other Empty = refl
eq-same_text Other (One b) = refl
eq-same_text Other (Two b d) = refl
eq-same_text Other Other = refl

eq-same_form : (f g : Form) → forms.eq-value.it f g ≡ same_form f g
eq-same_form Prefix Prefix = refl
eq-same_form Prefix Infix = refl
eq-same_form Prefix Postfix = refl
eq-same_form Infix Prefix = refl
eq-same_form Infix Infix = refl
eq-same_form Infix Postfix = refl
eq-same_form Postfix Prefix = refl
eq-same_form Postfix Infix = refl
eq-same_form Postfix Postfix = refl

pub text_eq : texts.eq-value.it ≡ same_text
text_eq = λ i t u. eq-same_text t u i

pub pair_eq : pairs.eq-value.it ≡ same_key
pair_eq = λ i p q. eq-same_text p.text q.text i && eq-same_form p.form q.form i
