-- What holds of all elements.
use Rattle.std.proofs.Common.{◌≡◌, ◌∙◌, suc, refl, sym, ap, subst, Bool, true, false, true≢false, cond, not, ◌&&◌, ◌||◌, List, [], ◌∷◌, length, map, filter, Option, Some, None}
use Rattle.std.proofs.lemmas.Bool.{and_parts, eqb-true}
use Rattle.std.specs.List.{list_all}
use Rattle.std.specs.Option.{IfSome}
use Rattle.math_tree.specs.declared.kind.Kind.{Kind}
use Rattle.math_tree.specs.declared.kind.Kind.TheVariants.{Maction, Math, Merror, Mfrac, Mover, Mpadded, Mphantom, Mprescripts, Mroot, Mrow, Mspace, Mstyle, Msub, Msubsup, Msup, Mtext, Munder, Munderover, Semantics, Unknown}
use Rattle.math_tree.specs.declared.node.Head.{Head}
use Rattle.math_tree.specs.declared.node.Node.{Node}
use Rattle.math_tree.specs.declared.node.Node.TheViews.{out-Node}
use Rattle.embellished.specs.Facts.{but_space_like, core_below, core_of, core_of_operator, facts, facts_over, first_core, is_space_like, laid_kind, only_core}
use Rattle.embellished.specs.Flow.{flow_by}
use Rattle.embellished.specs.Kinds.{is_annotation, is_blank, is_judged_by_all, is_led_by_its_base, is_operator}
use Rattle.embellished.specs.Laws.{children_of}
use Rattle.embellished.specs.Seen.{Kid, kid_of, laid_kid, seen_of}
use Rattle.embellished.specs.Validity.{is_valid, laid_as}
use Rattle.embellished.specs.declared.facts.Core.{Core}
use Rattle.embellished.specs.declared.facts.Facts.{Facts}
use Rattle.embellished.proofs.Nodes.{facts_out, kinds_mapped}

-- ---- how many children a valid element has

abbrev pub but_annotations : List Kind → List Kind
but_annotations kids = filter (λ kid. not (is_annotation kid)) kids

abbrev is_row : Kind → Bool
is_row Mrow = true
is_row other = false

valid_at : (kind laid : Kind) (kids : List Kind) (valid : Bool) → is_valid kind kids ≡ valid → cond valid kind Mrow ≡ laid
    → is_row laid ≡ false → is_valid laid kids ≡ true
valid_at kind laid kids true v e r = subst (λ k. is_valid k kids ≡ true) e v
valid_at kind laid kids false v e r = absurd (true≢false (ap is_row e ∙ r))

-- what isn't laid out as a row is valid
pub laid_is_valid : (kind laid : Kind) (kids : List Kind) → laid_as kind kids ≡ laid → is_row laid ≡ false
    → is_valid laid (but_annotations kids) ≡ true
unfolding laid_as
laid_is_valid kind laid kids e r = valid_at kind laid (but_annotations kids) (is_valid kind (but_annotations kids)) refl e r

-- the children that aren't annotations are as many as their kinds
abbrev plainly_shown : List Kid → List Kid
plainly_shown kids = filter (λ kid. not (is_annotation (laid_kid kid)) && true) kids

one_more : (annotation : Bool) (kid : Kid) (shown : List Kid) (kind : Kind) (kinds : List Kind) → length shown ≡ length kinds
    → length (cond (not annotation && true) (kid ∷ shown) shown) ≡ length (cond (not annotation) (kind ∷ kinds) kinds)
one_more true kid shown kind kinds e = e
one_more false kid shown kind kinds e = ap suc e

as_many : (kids : List Kid) → length (plainly_shown kids) ≡ length (but_annotations (map laid_kid kids))
as_many [] = refl
as_many (kid ∷ kids) =
    one_more (is_annotation (laid_kid kid)) kid (plainly_shown kids) (laid_kid kid) (but_annotations (map laid_kid kids)) (as_many kids)

module _ (kind : Kind) (kids : List Kid) where
  of_count : (laid : Kind) → laid_as kind (map laid_kid kids) ≡ laid → IfSome (children_of laid) (λ n. length (flow_by laid_kid laid kids) ≡ n)
  unfolding flow_by is_valid
  of_count Mfrac e = as_many kids ∙ eqb-true _ 2 (laid_is_valid kind Mfrac (map laid_kid kids) e refl)
  of_count Mroot e = as_many kids ∙ eqb-true _ 2 (laid_is_valid kind Mroot (map laid_kid kids) e refl)
  of_count Msub e = as_many kids ∙ eqb-true _ 2 (laid_is_valid kind Msub (map laid_kid kids) e refl)
  of_count Msup e = as_many kids ∙ eqb-true _ 2 (laid_is_valid kind Msup (map laid_kid kids) e refl)
  of_count Msubsup e = as_many kids ∙ eqb-true _ 3 (laid_is_valid kind Msubsup (map laid_kid kids) e refl)
  of_count Munder e = as_many kids ∙ eqb-true _ 2 (laid_is_valid kind Munder (map laid_kid kids) e refl)
  of_count Mover e = as_many kids ∙ eqb-true _ 2 (laid_is_valid kind Mover (map laid_kid kids) e refl)
  of_count Munderover e = as_many kids ∙ eqb-true _ 3 (laid_is_valid kind Munderover (map laid_kid kids) e refl)
  of_count other e = tt

-- an element of a tree is laid out by how its children are
pub laid_of : (node : Node) → laid_as (out-Node node).head.kind (map laid_kid (map kid_of (out-Node node).children)) ≡ (facts node).laid
unfolding facts_over
laid_of node =
    let element = out-Node node in
    ap (laid_as element.head.kind) (kinds_mapped element.children) ∙ sym (ap (λ f. f.laid) (facts_out node))

pub children_counted : (node : Node) → IfSome (children_of (facts node).laid) (λ n. length (seen_of node).kids ≡ n)
unfolding seen_of
children_counted node =
    let element = out-Node node in
    of_count element.head.kind (map kid_of element.children) (facts node).laid (laid_of node)

-- ---- nothing is space-like and embellished

none_more : (kid : Facts) (kids : List Facts) (blank : Bool) → kid.space_like ≡ blank → but_space_like kids ≡ []
    → but_space_like (kid ∷ kids) ≡ cond blank [] (kid ∷ [])
none_more kid kids true is none = ap (λ b. cond (not b) (kid ∷ but_space_like kids) (but_space_like kids)) is ∙ none
none_more kid kids false is none =
    ap (λ b. cond (not b) (kid ∷ but_space_like kids) (but_space_like kids)) is ∙ ap (λ rest. kid ∷ rest) none

none_left : (flow : List Facts) → list_all (λ kid. kid.space_like) flow ≡ true → but_space_like flow ≡ []
none_left [] e = refl
none_left (kid ∷ kids) e =
    let parts = and_parts kid.space_like (list_all (λ kid. kid.space_like) kids) e in
    none_more kid kids true parts.0 (none_left kids parts.1)

blank_apart : (laid : Kind) → is_blank laid ≡ true → (is_operator laid ≡ false) × (is_led_by_its_base laid ≡ false) × (is_judged_by_all laid ≡ false)
blank_apart Mspace e = (refl, refl, refl)
blank_apart Mtext e = (refl, refl, refl)
blank_apart other e = absurd (true≢false (sym e))

judged_apart : (laid : Kind) → is_judged_by_all laid ≡ true → (is_operator laid ≡ false) × (is_led_by_its_base laid ≡ false)
judged_apart Maction e = (refl, refl)
judged_apart Math e = (refl, refl)
judged_apart Merror e = (refl, refl)
judged_apart Mpadded e = (refl, refl)
judged_apart Mphantom e = (refl, refl)
judged_apart Mprescripts e = (refl, refl)
judged_apart Mrow e = (refl, refl)
judged_apart Mstyle e = (refl, refl)
judged_apart Semantics e = (refl, refl)
judged_apart Unknown e = (refl, refl)
judged_apart other e = absurd (true≢false (sym e))

module _ (head : Head) (laid : Kind) (flow : List Facts) where
  -- the core, by what the kind tells
  abbrev pub chosen : Bool → Bool → Bool → Option Core
  chosen operator led judged =
      cond operator (Some (core_of_operator head))
      (cond led (first_core flow) (cond judged (only_core (but_space_like flow)) None))

  pub core_is : (operator led judged : Bool) → is_operator laid ≡ operator → is_led_by_its_base laid ≡ led → is_judged_by_all laid ≡ judged
      → core_of head laid flow ≡ chosen operator led judged
  unfolding core_below
  core_is operator led judged o l j =
      ap (λ b. cond b (Some (core_of_operator head)) (cond (is_led_by_its_base laid) (first_core flow) (cond (is_judged_by_all laid) (only_core (but_space_like flow)) None))) o
      ∙ ap (λ b. cond operator (Some (core_of_operator head)) (cond b (first_core flow) (cond (is_judged_by_all laid) (only_core (but_space_like flow)) None))) l
      ∙ ap (λ b. cond operator (Some (core_of_operator head)) (cond led (first_core flow) (cond b (only_core (but_space_like flow)) None))) j

  no_core : (blank : Bool) → is_blank laid ≡ blank → (blank || (is_judged_by_all laid && list_all (λ kid. kid.space_like) flow)) ≡ true
      → core_of head laid flow ≡ None
  no_core true b e = let apart = blank_apart laid b in core_is false false false apart.0 apart.1 apart.2
  no_core false b e =
      let parts = and_parts (is_judged_by_all laid) (list_all (λ kid. kid.space_like) flow) e in
      let apart = judged_apart laid parts.0 in
      core_is false false true apart.0 apart.1 parts.0 ∙ ap only_core (none_left flow parts.1)

  pub space_like_without_core : is_space_like laid flow ≡ true → core_of head laid flow ≡ None
  unfolding is_space_like
  space_like_without_core e = no_core (is_blank laid) refl e

pub none_is_both : (head : Head) (kids : List Facts) → (facts_over head kids).space_like ≡ true → (facts_over head kids).core ≡ None
unfolding facts_over
none_is_both head kids e =
    let laid = laid_as head.kind (map laid_kind kids) in
    space_like_without_core head laid (flow_by laid_kind laid kids) e
