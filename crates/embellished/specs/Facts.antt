-- What an element is among operators: as what it is laid out, whether it is space-like, and the
-- core of an embellished operator (MathML Core 3.2.4.1 and 3.2.5).
use Rattle.std.specs.Prelude.{ℕ, Bool, not, ◌&&◌, ◌||◌, if◌then◌else◌, List, [], ◌∷◌, map, filter, chars, codes, Option, Some, None}
use Rattle.std.specs.List.{list_all}
use Rattle.std.specs.Option.{option_and_then}
use Rattle.fixed_units.specs.Words.{is_word}
use Rattle.math_tree.specs.Attributes.{truth_of_word, value_of}
use Rattle.math_tree.specs.declared.attributes.Attribute.{Attribute}
use Rattle.math_tree.specs.declared.kind.Kind.{Kind}
use Rattle.math_tree.specs.declared.node.Head.{Head}
use Rattle.math_tree.specs.declared.node.Node.{Node}
use Rattle.math_tree.specs.declared.node.Node.TheFolds.{fold-Node}
use Rattle.op_dictionary.specs.declared.operator.Form.{Form}
use Rattle.op_dictionary.specs.declared.operator.Form.TheVariants.{Prefix, Infix, Postfix}
use Rattle.embellished.specs.Flow.{flow_by}
use Rattle.embellished.specs.Kinds.{is_operator, is_led_by_its_base, is_judged_by_all, is_blank}
use Rattle.embellished.specs.Texts.{shown, op_text}
use Rattle.embellished.specs.Validity.{laid_as}
use Rattle.embellished.specs.declared.facts.Core.{Core}
use Rattle.embellished.specs.declared.facts.Facts.{Facts}

-- ---- an operator by itself

-- the words of attributes, in any case of ASCII letters
unfoldable pub form_of_word : List ℕ → Option Form
form_of_word value =
    if is_word value (codes "prefix") then Some Prefix
    else if is_word value (codes "infix") then Some Infix
    else if is_word value (codes "postfix") then Some Postfix
    else None

-- the form, or the truth value, that an attribute gives
unfoldable pub form_in : List Attribute → Option Form
form_in attributes = option_and_then form_of_word (value_of (codes "form") attributes)

unfoldable pub truth_in : List ℕ → List Attribute → Option Bool
truth_in name attributes = option_and_then truth_of_word (value_of name attributes)

-- an `mo` as the core of an embellished operator
unfoldable pub core_of_operator : Head → Core
core_of_operator head = record {
  text = op_text (chars (shown head.text));
  form = form_in head.attributes;
  stretchy = truth_in (codes "stretchy") head.attributes;
  symmetric = truth_in (codes "symmetric") head.attributes;
  largeop = truth_in (codes "largeop") head.attributes;
  movablelimits = truth_in (codes "movablelimits") head.attributes;
}

-- ---- an element over its children in flow

unfoldable pub is_space_like : Kind → List Facts → Bool
is_space_like laid flow = is_blank laid
    || (is_judged_by_all laid && list_all (λ kid. kid.space_like) flow)

-- the core of the first, where there is one
abbrev pub first_core : List Facts → Option Core
first_core [] = None
first_core (kid ∷ kids) = kid.core

-- the core of the only one
abbrev pub only_core : List Facts → Option Core
only_core [] = None
only_core (kid ∷ []) = kid.core
only_core (kid ∷ next ∷ kids) = None

abbrev pub but_space_like : List Facts → List Facts
but_space_like kids = filter (λ kid. not kid.space_like) kids

-- the core that the children lead to: that of the base, or that of the only child that isn't
-- space-like
unfoldable pub core_below : Kind → List Facts → Option Core
core_below laid flow =
    if is_led_by_its_base laid then first_core flow
    else if is_judged_by_all laid then only_core (but_space_like flow)
    else None

abbrev pub core_of : Head → Kind → List Facts → Option Core
core_of head laid flow = if is_operator laid then Some (core_of_operator head) else core_below laid
    flow

-- ---- the facts

abbrev pub laid_kind : Facts → Kind
laid_kind facts = facts.laid

-- an element that is laid out as a kind, from the facts of its children in flow
abbrev pub facts_as : Head → Kind → List Facts → Facts
facts_as head laid flow = record {
  space_like = is_space_like laid flow;
  core = core_of head laid flow;
  laid = laid;
}

abbrev pub facts_laid_as : Head → Kind → List Facts → Facts
facts_laid_as head laid kids = facts_as head laid (flow_by laid_kind laid kids)

-- an element, from the facts of all its children
unfoldable pub facts_over : Head → List Facts → Facts
facts_over head kids = facts_laid_as head (laid_as head.kind (map laid_kind kids)) kids

-- an element of a tree
unfoldable pub facts : Node → Facts
facts node = fold-Node Facts (λ layer. facts_over layer.head layer.children) node
