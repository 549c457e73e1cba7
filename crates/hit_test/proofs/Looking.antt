-- One look through the children of an element, one child after another.
use Rattle.std.proofs.Common.{◌≡◌, ◌∙◌, refl, sym, ap, subst, ℕ, ◌+◌, ◌≤◌, ◌<◌, nat_eq, Bool, true, false, ◌||◌, ◌&&◌, cond, List, [], ◌∷◌, ◌++◌, length, take, drop, get_or, ◌-◌, arith, Option, Some, None}
use Rattle.std.specs.List.{list_any}
use Rattle.std.specs.Option.{option_or}
use Rattle.std.proofs.lemmas.List.{length-take, take_more}
use Rattle.std.proofs.lemmas.List.Folds.{list_any-append}
use Rattle.math_tree.specs.Trees.{element_count}
use Rattle.math_tree.specs.declared.node.Node.{Node}
use Rattle.math_tree.specs.declared.node.Node.TheViews.{out-Node}
use Rattle.embellished.specs.Known.{known_of}
use Rattle.hit_test.specs.Elements.{children_of, flow_tree, has_id, holds_id}
use Rattle.hit_test.specs.Running.{Finds, IsSpanned, Sees, Spans, joined, or_own, with_kid}
use Rattle.hit_test.specs.Selecting.{between, is_over, leads, lowest}
use Rattle.hit_test.specs.declared.look.Found.{Found}
use Rattle.hit_test.specs.declared.look.Sight.{Sight}
use Rattle.hit_test.specs.declared.look.Span.{Span}
use Rattle.hit_test.proofs.Between.{spans_none, spans_skip, spans_take}
use Rattle.hit_test.proofs.Elements.{flow_head, holds_out}
use Rattle.hit_test.proofs.Lowest.{among_more, lowest_among, lowest_is, one_among}

-- what was seen of some of the children
pub record Looks (first second : ℕ) (node : Node) (kids : List Node) (most : ℕ) (sight : Sight) (span : Span) : Type 0 where
  pub first_is : sight.first ≡ (has_id first (flow_tree node) || list_any (holds_id first) kids)
  pub second_is : sight.second ≡ (has_id second (flow_tree node) || list_any (holds_id second) kids)
  pub over : Finds first second (lowest_among first second kids) sight.over
  pub spans : Spans (leads first second) kids most span.from span.to

-- ---- options

or_none : (o : Option Node) → option_or o None ≡ o
or_none None = refl
or_none (Some n) = refl

finds_as : (first second : ℕ) (low low' : Option Node) (found : Option Found) → low ≡ low' → Finds first second low found → Finds first second low' found
finds_as first second low low' None e h = sym e ∙ h
finds_as first second low low' (Some found) e h = (sym e ∙ h.0, h.1)

finds_or : (first second : ℕ) (low low' : Option Node) (found found' : Option Found) → Finds first second low found → Finds first second low' found'
    → Finds first second (option_or low low') (option_or found found')
finds_or first second low low' None found' h k = finds_as first second low' (option_or low low') found' (sym (ap (λ o. option_or o low') h)) k
finds_or first second low low' (Some found) found' h k = (ap (λ o. option_or o low') h.0, h.1)

-- ---- truth values

or_assoc : (h a b : Bool) → ((h || a) || b) ≡ (h || (a || (b || false)))
or_assoc true a b = refl
or_assoc false true b = refl
or_assoc false false true = refl
or_assoc false false false = refl

module _ (first second : ℕ) (node : Node) where
  -- ---- no child

  pub looks_none : (most : ℕ) (one two : Bool) → one ≡ nat_eq (out-Node node).head.id.0 first → two ≡ nat_eq (out-Node node).head.id.0 second
      → Looks first second node [] most record { first = one; second = two; over = None } record { from = most; to = 0 }
  looks_none most one two e f = record {
    first_is = e ∙ same first ∙ or_false (has_id first (flow_tree node));
    second_is = f ∙ same second ∙ or_false (has_id second (flow_tree node));
    over = refl;
    spans = spans_none (leads first second) most;
  }
    where
      same : (id : ℕ) → nat_eq (out-Node node).head.id.0 id ≡ has_id id (flow_tree node)
      same id = sym (ap (λ head. nat_eq head.id.0 id) (flow_head node))

      or_false : (b : Bool) → b ≡ (b || false)
      or_false true = refl
      or_false false = refl

  -- ---- one child more

  held_more : (id : ℕ) (kids : List Node) (kid : Node) (seen own : Bool) → seen ≡ (has_id id (flow_tree node) || list_any (holds_id id) kids)
      → own ≡ holds_id id kid → (seen || own) ≡ (has_id id (flow_tree node) || list_any (holds_id id) (kids ++ kid ∷ []))
  held_more id kids kid seen own e f =
      (λ i. e i || f i) ∙ or_assoc (has_id id (flow_tree node)) (list_any (holds_id id) kids) (holds_id id kid)
      ∙ ap (λ (b : Bool). has_id id (flow_tree node) || b) (sym (list_any-append (holds_id id) kids (kid ∷ [])))

  span_more : (kids : List Node) (kid : Node) (most : ℕ) (span : Span) (lead : Bool) → lead ≡ leads first second kid → length kids < most
      → Spans (leads first second) kids most span.from span.to
      → Spans (leads first second) (kids ++ kid ∷ []) most (with_kid span (length kids) lead).from (with_kid span (length kids) lead).to
  span_more kids kid most span true e l h = spans_take (leads first second) kids kid most span.from span.to (sym e) l h
  span_more kids kid most span false e l h = spans_skip (leads first second) kids kid most span.from span.to (sym e) h

  pub looks_more : (kids : List Node) (kid : Node) (most : ℕ) (sight own : Sight) (span : Span) → length kids < most → Sees first second kid own
      → Looks first second node kids most sight span
      → Looks first second node (kids ++ flow_tree kid ∷ []) most (joined sight own) (with_kid span (length kids) (own.first || own.second))
  looks_more kids kid most sight own span l sees looks = record {
    first_is = held_more first kids (flow_tree kid) sight.first own.first looks.first_is sees.first_is;
    second_is = held_more second kids (flow_tree kid) sight.second own.second looks.second_is sees.second_is;
    over = finds_as first second _ _ _
        (sym (among_more first second kids (flow_tree kid ∷ []) ∙ ap (option_or (lowest_among first second kids)) (one_among first second (flow_tree kid) [] ∙ or_none (lowest first second (flow_tree kid)))))
        (finds_or first second _ _ _ _ looks.over sees.over);
    spans = span_more kids (flow_tree kid) most span (own.first || own.second) (λ i. sees.first_is i || sees.second_is i) l looks.spans;
  }

  -- the same, of those in front of a place
  pub looks_next : (kids : List Node) (kid d : Node) (place : ℕ) (sight own sight' : Sight) (span span' : Span) → place < length kids
      → get_or kids place d ≡ flow_tree kid → Sees first second kid own → Looks first second node (take place kids) (length kids) sight span
      → sight' ≡ joined sight own → span' ≡ with_kid span place (own.first || own.second)
      → Looks first second node (take (place + 1) kids) (length kids) sight' span'
  looks_next kids kid d place sight own sight' span span' l is sees looks e f =
      let front = take place kids in
      let count : length front ≡ place = omega (arith, length-take place kids, l) in
      let lead = own.first || own.second in
      let next : take (place + 1) kids ≡ front ++ flow_tree kid ∷ [] = take_more kids place d l ∙ ap (λ k. front ++ k ∷ []) is in
      let more = looks_more front kid (length kids) sight own span (omega (arith, count, l)) sees looks in
      subst (λ s. Looks first second node (take (place + 1) kids) (length kids) s span') (sym e)
      (subst (λ p. Looks first second node (take (place + 1) kids) (length kids) (joined sight own) p) (ap (λ n. with_kid span n lead) count ∙ sym f)
      (subst (λ some. Looks first second node some (length kids) (joined sight own) (with_kid span (length front) lead)) (sym next) more))

  -- ---- all children

  pub looks_all : (sight : Sight) (own : Found) → own.node.now ≡ node → own.known.now ≡ known_of node → element_count node ≤ 65536
      → Looks first second node (children_of (flow_tree node)) (length (children_of (flow_tree node))) sight own.span
      → Sees first second node (or_own sight own)
  looks_all sight own is known few looks = record {
    first_is = one;
    second_is = two;
    over = finds_as first second _ _ _ (sym (lowest_is first second (flow_tree node)))
        (finds_or first second _ _ _ _ looks.over (itself (sight.first && sight.second) (λ i. one i && two i)));
  }
    where
      one : sight.first ≡ holds_id first (flow_tree node)
      one = looks.first_is ∙ sym (holds_out first (flow_tree node))

      two : sight.second ≡ holds_id second (flow_tree node)
      two = looks.second_is ∙ sym (holds_out second (flow_tree node))

      spanned : IsSpanned first second own
      spanned = record {
        known = known ∙ ap known_of (sym is);
        few = subst (λ n. element_count n ≤ 65536) (sym is) few;
        within = subst (λ n. own.span.to ≤ length (children_of (flow_tree n))) (sym is) looks.spans.within;
        cut = subst (λ n. between (leads first second) (children_of (flow_tree n))
            ≡ take (own.span.to - own.span.from) (drop own.span.from (children_of (flow_tree n)))) (sym is) looks.spans.cut;
      }

      found : Finds first second (Some (flow_tree node)) (Some own)
      found = (ap (λ n. Some (flow_tree n)) (sym is), spanned)

      itself : (b : Bool) → b ≡ is_over first second (flow_tree node)
          → Finds first second (cond (is_over first second (flow_tree node)) (Some (flow_tree node)) None) (cond b (Some own) None)
      itself true e = finds_as first second _ _ (Some own) (ap (λ (b : Bool). cond b (Some (flow_tree node)) None) e) found
      itself false e = sym (ap (λ (b : Bool). cond b (Some (flow_tree node)) None) e)
