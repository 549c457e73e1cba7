-- Worked elements: the definitions compute them, and a wrong one is refused at its line.
use Rattle.std.proofs.Common.{◌≡◌, refl, true, false, List, [], ◌∷◌, codes, Some, None}
use Rattle.math_tree.specs.declared.kind.Kind.{Kind}
use Rattle.math_tree.specs.declared.kind.Kind.TheVariants.{Annotation, Mfrac, Mi, Mmultiscripts, Mo, Mprescripts, Mrow, Mspace, Msub, Mtd, Mtr}
use Rattle.math_tree.specs.declared.node.Head.{Head}
use Rattle.op_dictionary.specs.BuiltIn.{properties_of}
use Rattle.op_dictionary.specs.Dictionary.{axis_of, built_in_category, category_of, own_category}
use Rattle.op_dictionary.specs.declared.operator.Axis.TheVariants.{Block}
use Rattle.op_dictionary.specs.declared.operator.Form.TheVariants.{Prefix, Infix, Postfix}
use Rattle.op_dictionary.specs.declared.text.OpText.{OpText}
use Rattle.op_dictionary.specs.declared.text.OpText.TheVariants.{One}
use Rattle.math_tree.specs.Attributes.{truth_of_word}
use Rattle.embellished.specs.Facts.{core_below, facts_over, form_of_word, is_space_like}
use Rattle.embellished.specs.Flow.{flow_by}
use Rattle.embellished.specs.Forms.{fence_form, form_at, form_by_place, properties_at, stretch_axis}
use Rattle.embellished.specs.Seen.{Kid, Seen}
use Rattle.embellished.specs.Texts.{joined, pieces_of}
use Rattle.embellished.specs.Validity.{are_base_and_scripts, are_scripts, is_valid, laid_as}
use Rattle.embellished.specs.declared.facts.Core.{Core}
use Rattle.embellished.specs.declared.facts.Facts.{Facts}

-- an `mo` with this core, an `mspace`, an `mi` and other children
abbrev operator : Core → Facts
operator core = record { space_like = false; core = Some core; laid = Mo }

abbrev blank : Facts
blank = record { space_like = true; core = None; laid = Mspace }

abbrev other : Kind → Facts
other kind = record { space_like = false; core = None; laid = kind }

abbrev of_kind : Kind → Head → Head
of_kind kind head = record head { kind = kind }

-- a row of an operator and a space is embellished, with that operator as its core
pub facts-operator_and_space : (head : Head) (minus : Core)
    → facts_over (of_kind Mrow head) (operator minus ∷ blank ∷ []) ≡ record { space_like = false; core = Some minus; laid = Mrow }
unfolding facts_over laid_as is_valid flow_by is_space_like core_below
facts-operator_and_space head minus = refl

-- a row of two operators is neither
pub facts-two_operators : (head : Head) (plus minus : Core)
    → facts_over (of_kind Mrow head) (operator plus ∷ operator minus ∷ []) ≡ other Mrow
unfolding facts_over laid_as is_valid flow_by is_space_like core_below
facts-two_operators head plus minus = refl

-- a row without children is space-like
pub facts-empty_row : (head : Head) → facts_over (of_kind Mrow head) [] ≡ record { space_like = true; core = None; laid = Mrow }
unfolding facts_over laid_as is_valid flow_by is_space_like core_below
facts-empty_row head = refl

-- a fraction of one operator is invalid: it is a row, and as a grouping element it is embellished
pub facts-half_a_fraction : (head : Head) (plus : Core)
    → facts_over (of_kind Mfrac head) (operator plus ∷ []) ≡ record { space_like = false; core = Some plus; laid = Mrow }
unfolding facts_over laid_as is_valid flow_by is_space_like core_below
facts-half_a_fraction head plus = refl

-- a fraction has the core of its first child, not of its second
pub facts-fraction : (head : Head) (plus : Core)
    → facts_over (of_kind Mfrac head) (other Mi ∷ operator plus ∷ []) ≡ other Mfrac
unfolding facts_over laid_as is_valid flow_by is_space_like core_below
facts-fraction head plus = refl

-- a base, one pair, the mark and one pair
pub laid-prescripts : laid_as Mmultiscripts (Mi ∷ Mi ∷ Mi ∷ Mprescripts ∷ Mi ∷ Mi ∷ []) ≡ Mmultiscripts
unfolding laid_as is_valid are_base_and_scripts are_scripts
laid-prescripts = refl

-- a member of a pair lacks
pub laid-half_a_pair : laid_as Mmultiscripts (Mi ∷ Mi ∷ Mprescripts ∷ Mi ∷ Mi ∷ []) ≡ Mrow
unfolding laid_as is_valid are_base_and_scripts are_scripts
laid-half_a_pair = refl

-- annotations don't count
pub laid-annotated_row : laid_as Mtr (Mtd ∷ Annotation ∷ []) ≡ Mtr
unfolding laid_as is_valid
laid-annotated_row = refl

-- white space at both ends and inside
pub joined-words : joined (codes "  a  b c ") ≡ codes "a b c"
unfolding joined pieces_of
joined-words = refl

pub form-in_capitals : form_of_word (codes "PostFix") ≡ Some Postfix
unfolding form_of_word
form-in_capitals = refl

pub truth-with_space : truth_of_word (codes " true") ≡ None
unfolding truth_of_word
truth-with_space = refl

-- ---- forms of the children of a row: an operator, an `mi`, an operator, a space
module _ (head : Head) (core : Core) where
  abbrev kid : Facts → Kid
  kid facts = record { head = head; facts = facts }

  abbrev fenced : List Kid
  fenced = kid (operator core) ∷ kid (other Mi) ∷ kid (operator core) ∷ kid blank ∷ []

  pub form-opening : form_by_place Mrow fenced 0 ≡ Prefix
  unfolding form_by_place fence_form
  form-opening = refl

  pub form-inside : form_by_place Mrow fenced 1 ≡ Infix
  unfolding form_by_place fence_form
  form-inside = refl

  pub form-closing : form_by_place Mrow fenced 2 ≡ Postfix
  unfolding form_by_place fence_form
  form-closing = refl

  -- the only child that isn't space-like
  pub form-alone : form_by_place Mrow (kid blank ∷ kid (operator core) ∷ []) 1 ≡ Infix
  unfolding form_by_place fence_form
  form-alone = refl

  -- a script
  pub form-script : form_by_place Msub (kid (other Mi) ∷ kid (operator core) ∷ []) 1 ≡ Postfix
  unfolding form_by_place
  form-script = refl

  -- ---- forms in an embellished row, whose own form is postfix

  abbrev embellished_row : List Kid → Seen
  embellished_row kids = record { head = head; facts = record { space_like = false; core = Some core; laid = Mrow }; kids = kids; prescripts = 2 }

  abbrev plain : Core
  plain = record core { form = None }

  -- the child that leads to the row's core has the row's form
  pub form-led : form_at (embellished_row (kid blank ∷ kid (operator plain) ∷ [])) 1 Postfix ≡ Postfix
  unfolding form_at
  form-led = refl

  -- unless an attribute gives it
  pub form-given : form_at (embellished_row (kid blank ∷ kid (operator (record core { form = Some Prefix })) ∷ [])) 1 Postfix ≡ Prefix
  unfolding form_at
  form-given = refl

  -- a child that is no operator is infix
  pub form-of_no_operator : form_at (embellished_row (kid blank ∷ kid (operator plain) ∷ [])) 0 Postfix ≡ Infix
  unfolding form_at
  form-of_no_operator = refl

-- ---- properties and axes, without operator lines

abbrev core_of_text : OpText → Core
core_of_text text = record { text = text; form = None; stretchy = None; symmetric = None; largeop = None; movablelimits = None }

-- a left parenthesis stretches upward and downward
pub properties-parenthesis : properties_at (core_of_text (One 0x28)) Prefix []
    ≡ record { lspace = 0; rspace = 0; stretchy = true; symmetric = true; largeop = false; movablelimits = false }
unfolding properties_at category_of own_category built_in_category properties_of
properties-parenthesis = refl

pub axis-parenthesis : stretch_axis (operator (core_of_text (One 0x28))) Prefix [] ≡ Some Block
unfolding stretch_axis properties_at category_of own_category built_in_category properties_of axis_of
axis-parenthesis = refl

-- unless its attribute says that it doesn't
pub axis-of_none : stretch_axis (operator (record (core_of_text (One 0x28)) { stretchy = Some false })) Prefix [] ≡ None
unfolding stretch_axis properties_at category_of own_category built_in_category properties_of
axis-of_none = refl
