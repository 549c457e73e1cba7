-- The child that leads to the core of an embellished element.
use Rattle.std.proofs.Common.{◌≡◌, ◌∙◌, refl, sym, ap, ℕ, zero, suc, Bool, true, false, true≢false, cond, not, List, [], ◌∷◌, length, map, Some, slice_get, nat_eq}
use Rattle.std.proofs.lemmas.Bool.{eqb-true}
use Rattle.std.proofs.lemmas.Option.{none-some, same_Some}
use Rattle.math_tree.specs.declared.kind.Kind.{Kind}
use Rattle.math_tree.specs.declared.node.Head.{Head}
use Rattle.math_tree.specs.declared.node.Node.{Node}
use Rattle.math_tree.specs.declared.node.Node.TheViews.{out-Node}
use Rattle.embellished.specs.Facts.{but_space_like, core_of, facts, facts_over, first_core, laid_kind, only_core}
use Rattle.embellished.specs.Flow.{flow_by}
use Rattle.embellished.specs.Kinds.{is_judged_by_all, is_led_by_its_base}
use Rattle.embellished.specs.Laws.{CoreLaw, IsLed}
use Rattle.embellished.specs.Seen.{Kid, Seen, kid_of, laid_kid, prescripts_in, seen_of}
use Rattle.embellished.specs.declared.facts.Core.{Core}
use Rattle.embellished.specs.declared.facts.Facts.{Facts}
use Rattle.embellished.proofs.ElementLaws.{chosen, core_is}
use Rattle.embellished.proofs.InFlow.{flow_map}
use Rattle.embellished.proofs.Nodes.{facts_out}

abbrev facts_in : List Kid → List Facts
facts_in kids = map (λ kid. kid.facts) kids

-- ---- the only child that isn't space-like

record IsOnly (kids : List Kid) (core : Core) : Type 0 where
  index : ℕ
  kid : Kid
  at : slice_get kids index ≡ Some kid
  inked : not kid.facts.space_like ≡ true
  own : kid.facts.core ≡ Some core
  only : (other : ℕ) (sibling : Kid) → slice_get kids other ≡ Some sibling → not sibling.facts.space_like ≡ true → other ≡ index

-- where none is left, all are space-like
none_inked_here : (blank : Bool) (kid : Kid) (rest : List Facts) → cond (not blank) (kid.facts ∷ rest) rest ≡ [] → (blank ≡ true) × (rest ≡ [])
none_inked_here true kid rest e = (refl, e)
none_inked_here false kid rest e = absurd (true≢false (sym (ap is_empty e)))
  where
    is_empty : List Facts → Bool
    is_empty [] = true
    is_empty (f ∷ fs) = false

none_inked : (kids : List Kid) → but_space_like (facts_in kids) ≡ [] → (other : ℕ) (sibling : Kid)
    → slice_get kids other ≡ Some sibling → not sibling.facts.space_like ≡ true → ⊥
none_inked [] e other sibling at inked = none-some sibling at
none_inked (kid ∷ kids) e zero sibling at inked =
    let here = none_inked_here kid.facts.space_like kid (but_space_like (facts_in kids)) e in
    true≢false (sym inked ∙ ap (λ (k : Kid). not k.facts.space_like) (sym (same_Some kid sibling at)) ∙ ap not here.0)
none_inked (kid ∷ kids) e (suc other) sibling at inked =
    none_inked kids (none_inked_here kid.facts.space_like kid (but_space_like (facts_in kids)) e).1 other sibling at inked

alone : (f : Facts) (rest : List Facts) (core : Core) → only_core (f ∷ rest) ≡ Some core → (f.core ≡ Some core) × (rest ≡ [])
alone f [] core e = (e, refl)
alone f (g ∷ rest) core e = absurd (none-some core e)

only_here : (blank : Bool) (kid : Kid) (kids : List Kid) (core : Core) → kid.facts.space_like ≡ blank
    → (only_core (but_space_like (facts_in kids)) ≡ Some core → IsOnly kids core)
    → only_core (cond (not blank) (kid.facts ∷ but_space_like (facts_in kids)) (but_space_like (facts_in kids))) ≡ Some core
    → IsOnly (kid ∷ kids) core
only_here true kid kids core is rest e =
    let found = rest e in
    record {
      index = suc found.index;
      kid = found.kid;
      at = found.at;
      inked = found.inked;
      own = found.own;
      only = past found;
    }
  where
    past : (found : IsOnly kids core) (other : ℕ) (sibling : Kid) → slice_get (kid ∷ kids) other ≡ Some sibling
        → not sibling.facts.space_like ≡ true → other ≡ suc found.index
    past found zero sibling at inked =
        absurd (true≢false (sym inked ∙ ap (λ (k : Kid). not k.facts.space_like) (sym (same_Some kid sibling at)) ∙ ap not is))
    past found (suc other) sibling at inked = ap suc (found.only other sibling at inked)
only_here false kid kids core is rest e =
    let parts = alone kid.facts (but_space_like (facts_in kids)) core e in
    record {
      index = 0;
      kid = kid;
      at = refl;
      inked = ap not is;
      own = parts.0;
      only = first parts.1;
    }
  where
    first : but_space_like (facts_in kids) ≡ [] → (other : ℕ) (sibling : Kid) → slice_get (kid ∷ kids) other ≡ Some sibling
        → not sibling.facts.space_like ≡ true → other ≡ 0
    first none zero sibling at inked = refl
    first none (suc other) sibling at inked = absurd (none_inked kids none other sibling at inked)

only_inked : (kids : List Kid) (core : Core) → only_core (but_space_like (facts_in kids)) ≡ Some core → IsOnly kids core
only_inked [] core e = absurd (none-some core e)
only_inked (kid ∷ kids) core e =
    only_here kid.facts.space_like kid kids core refl (only_inked kids core) e

-- ---- the one that leads

module _ (head : Head) (own : Facts) (kids : List Kid) (prescripts : ℕ) (core : Core) where
  abbrev seen : Seen
  seen = record { head = head; facts = own; kids = kids; prescripts = prescripts }

  by_base : (kids' : List Kid) → kids' ≡ kids → is_led_by_its_base own.laid ≡ true → first_core (facts_in kids') ≡ Some core → IsLed seen core
  by_base [] same led e = absurd (none-some core e)
  by_base (kid ∷ rest) same led e = record {
    index = 0;
    kid = kid;
    at = ap (λ ks. slice_get ks 0) (sym same);
    leading = ap (λ b. cond b (nat_eq 0 0) (not kid.facts.space_like)) led;
    own = e;
    only = λ other sibling at is.
        eqb-true other 0 (sym (ap (λ b. cond b (nat_eq other 0) (not sibling.facts.space_like)) led) ∙ is);
  }

  by_all : is_led_by_its_base own.laid ≡ false → IsOnly kids core → IsLed seen core
  by_all led found = record {
    index = found.index;
    kid = found.kid;
    at = found.at;
    leading = ap (λ b. cond b (nat_eq found.index 0) (not found.kid.facts.space_like)) led ∙ found.inked;
    own = found.own;
    only = λ other sibling at is.
        found.only other sibling at (sym (ap (λ b. cond b (nat_eq other 0) (not sibling.facts.space_like)) led) ∙ is);
  }

  by_kind : (led judged : Bool) → is_led_by_its_base own.laid ≡ led
      → chosen head own.laid (facts_in kids) false led judged ≡ Some core → IsLed seen core
  by_kind true judged l e = by_base kids refl l e
  by_kind false true l e = by_all l (only_inked kids core e)
  by_kind false false l e = absurd (none-some core e)

facts_are : (nodes : List Node) → facts_in (map kid_of nodes) ≡ map facts nodes
facts_are [] = refl
facts_are (node ∷ nodes) = ap (λ rest. facts node ∷ rest) (facts_are nodes)

-- the facts of the children in flow are those over which the element's core is found
flow_facts : (laid : Kind) (nodes : List Node) → flow_by laid_kind laid (map facts nodes) ≡ facts_in (flow_by laid_kid laid (map kid_of nodes))
flow_facts laid nodes =
    ap (flow_by laid_kind laid) (sym (facts_are nodes)) ∙ sym (flow_map (λ (kid : Kid). kid.facts) laid_kind laid (map kid_of nodes))

core_out : (node : Node) → (facts node).core
    ≡ core_of (out-Node node).head (facts node).laid (facts_in (flow_by laid_kid (facts node).laid (map kid_of (out-Node node).children)))
unfolding facts_over
core_out node =
    let head : Head = (out-Node node).head in
    let nodes : List Node = (out-Node node).children in
    ap (λ (f : Facts). f.core) (facts_out node)
    ∙ ap (λ laid. core_of head laid (flow_by laid_kind laid (map facts nodes))) (sym (ap (λ (f : Facts). f.laid) (facts_out node)))
    ∙ ap (core_of head (facts node).laid) (flow_facts (facts node).laid nodes)

pub led : CoreLaw
unfolding seen_of
led node core e plain =
    let head : Head = (out-Node node).head in
    let laid : Kind = (facts node).laid in
    let all : List Kid = map kid_of (out-Node node).children in
    let flow : List Kid = flow_by laid_kid laid all in
    by_kind head (facts node) flow (prescripts_in laid (map laid_kid all) (length flow)) core (is_led_by_its_base laid) (is_judged_by_all laid) refl
    (sym (core_is head laid (facts_in flow) false (is_led_by_its_base laid) (is_judged_by_all laid) plain refl refl) ∙ sym (core_out node) ∙ e)
