-- No element of a tree is laid out in more than two contexts: the contexts of one differ in their stretch alone, an
-- element that is asked without stretch is asked in no other context, and one that is asked with a stretch asks each
-- child once.
use Rattle.std.proofs.Common.{◌≡◌, ◌∙◌, refl, sym, ap, subst, ℕ, ◌<◌, ◌≤◌, ◌==◌, arith, Bool, true, false, true≢false, cond, ◌||◌, List, [], ◌∷◌, map, get_or, inl, inr, ◌⊎◌, Some, slice_get}
use Rattle.std.proofs.lemmas.Bool.{eq-eqb, false≢true}
use Rattle.std.proofs.lemmas.Bool.Decides.{leb_tells}
use Rattle.std.proofs.lemmas.List.Elements.{All-contains, Contains-append_cases}
use Rattle.std.proofs.lemmas.Option.{get_or_from_slice_get, same_Some, slice_get_within}
use Rattle.std.specs.List.{Contains}
use Rattle.font_metrics.specs.Metrics.{MetricsValue}
use Rattle.math_tree.specs.declared.kind.Kind.{Kind}
use Rattle.math_tree.specs.declared.kind.Kind.TheVariants.{Mtable, Mtr}
use Rattle.math_tree.specs.declared.node.Node.{Node}
use Rattle.op_dictionary.specs.declared.operator.Axis.TheVariants.{Block as Upwards, Inline as Along}
use Rattle.op_dictionary.specs.declared.operator.Form.{Form}
use Rattle.embellished.specs.Facts.{facts}
use Rattle.embellished.specs.Kinds.{is_table_row}
use Rattle.embellished.specs.Seen.{Child, Seen, flow_children, kid_of, laid_kid, seen_of}
use Rattle.embellished.specs.declared.facts.Facts.{Facts}
use Rattle.embellished.proofs.FlowLaws.{is_flow, tabular}
use Rattle.embellished.proofs.InFlow.{shown}
use Rattle.layout_model.specs.Contexts.{kid_context, pull_of}
use Rattle.layout_model.specs.Laws.{answer_of}
use Rattle.layout_model.specs.Layout.{questions}
use Rattle.layout_model.specs.Made.{Asks, IsMade, TwoContextsLaw, asks_of}
use Rattle.layout_model.specs.Questions.{asking, base_properties, first, kid_pulls, second}
use Rattle.layout_model.specs.Waves.{MayAsk, MayBeAsked, MayCarry, both_waves, is_stretched, times_asked}
use Rattle.layout_model.specs.declared.asking.Asking.{Asking}
use Rattle.layout_model.specs.declared.asking.Asking.TheVariants.{Plainly}
use Rattle.layout_model.specs.declared.context.Context.{Context}
use Rattle.layout_model.specs.declared.context.Question.{Question}
use Rattle.layout_model.specs.declared.context.Stretch.{Stretch}
use Rattle.layout_model.specs.declared.context.Stretch.TheVariants.{None as Unstretched, Block as Upright, Inline as Sideways, Columns, Slots}
use Rattle.layout_model.specs.declared.outcome.Answer.{Answer}
use Rattle.layout_model.proofs.Alike.{HasPlace, all_placed, flag_is, handed_down, unstretched_is}
use Rattle.layout_model.proofs.Carried.{axis_of, carries, kid_at}
use Rattle.layout_model.proofs.Counted.{counted_one, first_once, once, row_plainly, second_once}
use Rattle.layout_model.proofs.Made.{in_cases}

-- ---- who is asked at most once is asked one question

one_test : (kid place : ℕ) → place ≡ kid → ◌≡◌ {A = ℕ} (cond (place == kid) 1 0) 1
one_test kid place e = ap (λ (b : Bool). cond b 1 0) (eq-eqb place kid e)

some_asked : (kid : ℕ) (asks : List Question) (q : Question) → Contains asks q → q.kid ≡ kid → 1 ≤ times_asked kid asks
some_asked kid [] q c e = absurd (omega (arith, c.1))
some_asked kid (x ∷ asks) q c e =
    let more = counted_one (λ (question : Question). question.kid == kid) x asks in
    elim (in_cases x asks q c) [
      | inl same ↦ omega (arith, more, one_test kid x.kid (ap (λ (question : Question). question.kid) same ∙ e))
      | inr there ↦ omega (arith, more, some_asked kid asks q there e)
    ]

one_question : (kid : ℕ) (asks : List Question) (q r : Question) → times_asked kid asks ≤ 1 → Contains asks q → Contains asks r
    → q.kid ≡ kid → r.kid ≡ kid → q ≡ r
one_question kid [] q r l c d e f = absurd (omega (arith, c.1))
one_question kid (x ∷ asks) q r l c d e f =
    let more = counted_one (λ (question : Question). question.kid == kid) x asks in
    elim (in_cases x asks q c) [
      | inl here ↦ elim (in_cases x asks r d) [
        | inl too ↦ sym here ∙ too
        | inr there ↦
            let own = one_test kid x.kid (ap (λ (question : Question). question.kid) here ∙ e) in
            absurd (omega (arith, l, more, own, some_asked kid asks r there f))
      ]
      | inr there ↦ elim (in_cases x asks r d) [
        | inl here ↦
            let own = one_test kid x.kid (ap (λ (question : Question). question.kid) here ∙ f) in
            absurd (omega (arith, l, more, own, some_asked kid asks q there e))
        | inr too ↦ one_question kid asks q r (omega (arith, l, more)) there too e f
      ]
    ]

-- ---- two of three

abbrev TwoOf : {A : Type 0} → A → A → A → Type 0
TwoOf a b c = (a ≡ b) ⊎ ((a ≡ c) ⊎ (b ≡ c))

two_of_images : {A B : Type 0} (f : A → B) (a b c : A) → TwoOf a b c → TwoOf (f a) (f b) (f c)
two_of_images f a b c (inl e) = inl (ap f e)
two_of_images f a b c (inr (inl e)) = inr (inl (ap f e))
two_of_images f a b c (inr (inr e)) = inr (inr (ap f e))

-- each is in one of two places
two_of_places : {A : Type 0} (P Q : A → Type 0) → ((x y : A) → P x → P y → x ≡ y) → ((x y : A) → Q x → Q y → x ≡ y)
    → (a b c : A) → P a ⊎ Q a → P b ⊎ Q b → P c ⊎ Q c → TwoOf a b c
two_of_places P Q p q a b c (inl h) (inl k) l = inl (p a b h k)
two_of_places P Q p q a b c (inr h) (inr k) l = inl (q a b h k)
two_of_places P Q p q a b c (inl h) (inr k) (inl l) = inr (inl (p a c h l))
two_of_places P Q p q a b c (inl h) (inr k) (inr l) = inr (inr (q b c k l))
two_of_places P Q p q a b c (inr h) (inl k) (inl l) = inr (inr (p b c k l))
two_of_places P Q p q a b c (inr h) (inl k) (inr l) = inr (inl (q a c h l))

-- ---- two contexts of one element

-- they differ in their stretch alone, and neither is without stretch, unless they are the same or the element is a
-- row of a table
record AreOfOne (m : MetricsValue) (own : Facts) (c d : Context) : Type 0 where
  style : c.style ≡ d.style
  form : c.form ≡ d.form
  may_one : MayCarry m own c.form c.stretch
  may_other : MayCarry m own d.form d.stretch
  alone_one : is_table_row own.laid ≡ false → is_stretched c.stretch ≡ false → c ≡ d
  alone_other : is_table_row own.laid ≡ false → is_stretched d.stretch ≡ false → c ≡ d

only_axis : Upwards ≡ Along → ⊥
only_axis e = cc

same_axis : (m : MetricsValue) (own : Facts) (form : Form) (s t : Stretch) → is_table_row own.laid ≡ false
    → MayCarry m own form s → MayCarry m own form t → (is_stretched s ≡ false → s ≡ t) → (is_stretched t ≡ false → s ≡ t)
    → axis_of (pull_of s) ≡ axis_of (pull_of t)
unfolding pull_of
same_axis m own form Unstretched t r h k a b = ap (λ (x : Stretch). axis_of (pull_of x)) (a refl)
same_axis m own form (Columns widths) t r h k a b = absurd (true≢false (sym (ap is_table_row h) ∙ r))
same_axis m own form (Slots numbers) t r h k a b = absurd (true≢false (sym (ap is_table_row h) ∙ r))
same_axis m own form (Upright x y) Unstretched r h k a b = ap (λ (s : Stretch). axis_of (pull_of s)) (b refl)
same_axis m own form (Sideways x) Unstretched r h k a b = ap (λ (s : Stretch). axis_of (pull_of s)) (b refl)
same_axis m own form (Upright x y) (Columns widths) r h k a b = absurd (true≢false (sym (ap is_table_row k) ∙ r))
same_axis m own form (Sideways x) (Columns widths) r h k a b = absurd (true≢false (sym (ap is_table_row k) ∙ r))
same_axis m own form (Upright x y) (Slots numbers) r h k a b = absurd (true≢false (sym (ap is_table_row k) ∙ r))
same_axis m own form (Sideways x) (Slots numbers) r h k a b = absurd (true≢false (sym (ap is_table_row k) ∙ r))
same_axis m own form (Upright x y) (Upright z w) r h k a b = refl
same_axis m own form (Sideways x) (Sideways z) r h k a b = refl
same_axis m own form (Upright x y) (Sideways z) r h k a b = absurd (only_axis (same_Some Upwards Along (sym h.along ∙ k.along)))
same_axis m own form (Sideways x) (Upright z w) r h k a b = absurd (only_axis (same_Some Upwards Along (sym k.along ∙ h.along)))

-- what depends on style and form alone
same_asking : (m : MetricsValue) (seen : Seen) (c d : Context) → c.style ≡ d.style → c.form ≡ d.form → asking m seen c ≡ asking m seen d
unfolding asking base_properties
same_asking m seen c d s f = λ i. asking m seen (record { style = s i; form = f i; stretch = c.stretch })

same_pulls : (m : MetricsValue) (seen : Seen) (c d : Context) → c.form ≡ d.form → kid_pulls m seen c ≡ kid_pulls m seen d
unfolding kid_pulls
same_pulls m seen c d f = λ i. kid_pulls m seen (record { style = c.style; form = f i; stretch = c.stretch })

not_row_of_table : (node : Node) (index : ℕ) (child : Child) → slice_get (flow_children node) index ≡ Some child → (facts node).laid ≡ Mtable
    → is_table_row (facts child.node).laid ≡ true
unfolding seen_of
not_row_of_table node index child to e =
    let at = shown node index child to in
    let kids = (seen_of node).kids in
    let row = (tabular node).rows e index (kid_of child.node) (slice_get_within kids index (kid_of child.node) at) in
    ap is_table_row (sym (ap laid_kid (get_or_from_slice_get kids index (kid_of child.node) (kid_of child.node) at)) ∙ row)

-- ---- one child of it

-- the answers to wave one
abbrev ones_of : MetricsValue → Node → Context → List Answer
ones_of m node c = map (answer_of m node) (first m (seen_of node) c)

waves_are : (m : MetricsValue) (node : Node) (c : Context) → asks_of m node c ≡ both_waves m (seen_of node) c (ones_of m node c)
unfolding questions
waves_are m node c = refl

in_waves : (m : MetricsValue) (node : Node) (c : Context) (q : Question) (child : Child) → Asks m node c q child
    → Contains (both_waves m (seen_of node) c (ones_of m node c)) q
in_waves m node c q child a = subst (λ (asks : List Question). Contains asks q) (waves_are m node c) a.asked

-- children of one place are one child
same_place : (node : Node) (i j : ℕ) (child other : Child) → slice_get (flow_children node) i ≡ Some child → slice_get (flow_children node) j ≡ Some other
    → child.place ≡ other.place → i ≡ j
same_place node i j child other a b e =
    let all = flow_children node in
    let order = (is_flow node).in_order in
    let one = get_or_from_slice_get all i child child a in
    let two = get_or_from_slice_get all j other child b in
    let in_i = slice_get_within all i child a in
    let in_j = slice_get_within all j other b in
    let ahead : i < j → child.place < other.place =
    λ l. subst (λ (x : Child). x.place < other.place) one (subst (λ (y : Child). (get_or all i child).place < y.place) two (order i j child l in_j)) in
    let behind : j < i → other.place < child.place =
    λ l. subst (λ (x : Child). x.place < child.place) two (subst (λ (y : Child). (get_or all j child).place < y.place) one (order j i child l in_i)) in
    elim (leb_tells i j) [
      | inl under ↦ elim (leb_tells j i) [
        | inl over ↦ omega (arith, under.1, over.1)
        | inr before ↦ absurd (omega (arith, ahead before.1, e))
      ]
      | inr after ↦ absurd (omega (arith, behind after.1, e))
    ]

module _ (m : MetricsValue) (node : Node) (c d : Context) (same : AreOfOne m (facts node) c d) (child : Child) (q r : Question)
    (a : Asks m node c q child) (b : Asks m node d r child) (kid : q.kid ≡ r.kid) where
  abbrev seen : Seen
  seen = seen_of node

  abbrev one : List Answer
  one = ones_of m node c

  abbrev other : List Answer
  other = ones_of m node d

  q_in : Contains (both_waves m seen c one) q
  q_in = in_waves m node c q child a

  r_in : Contains (both_waves m seen d other) r
  r_in = in_waves m node d r child b

  q_placed : q.context ≡ kid_context m seen c q.kid q.context.stretch
  q_placed = All-contains (HasPlace m seen c) (both_waves m seen c one) q (all_placed m seen c one) q_in

  r_placed : r.context ≡ kid_context m seen d r.kid r.context.stretch
  r_placed = All-contains (HasPlace m seen d) (both_waves m seen d other) r (all_placed m seen d other) r_in

  -- in whichever context a child is asked, its style and its form are the same
  placed_same : (stretch : Stretch) → kid_context m seen c q.kid stretch ≡ kid_context m seen d r.kid stretch
  placed_same stretch = λ i. kid_context m seen (record { style = same.style i; form = same.form i; stretch = c.stretch }) (kid i) stretch

  at_kid : slice_get seen.kids q.kid ≡ Some (kid_of child.node)
  at_kid = shown node q.kid child a.to

  flags_row : (facts node).laid ≡ Mtr → is_stretched r.context.stretch ≡ is_stretched q.context.stretch
  unfolding seen_of
  flags_row e =
      let none : (facts node).laid ≡ Mtable → ⊥ = λ t. row_or_table (sym e ∙ t) in
      let flag : (x : Context) → asking m seen x ≡ Plainly = λ x. row_plainly m seen x e in
      let rs = flag_is m seen d other none r r_in ∙ ap (λ (how : Asking). carries how (axis_of (pull_of d.stretch)) r.kid (kid_at (kid_pulls m seen d) r.kid)) (flag d) in
      let qs = flag_is m seen c one none q q_in ∙ ap (λ (how : Asking). carries how (axis_of (pull_of c.stretch)) q.kid (kid_at (kid_pulls m seen c) q.kid)) (flag c) in
      rs ∙ sym qs
    where
      row_or_table : Mtr ≡ Mtable → ⊥
      row_or_table t = cc

  flags_plain : ((facts node).laid ≡ Mtable → ⊥) → is_table_row (facts node).laid ≡ false → is_stretched r.context.stretch ≡ is_stretched q.context.stretch
  unfolding seen_of
  flags_plain none row =
      let axes =
      same_axis m (facts node) c.form c.stretch d.stretch row same.may_one
      (subst (λ (f : Form). MayCarry m (facts node) f d.stretch) (sym same.form) same.may_other)
      (λ h. ap (λ (x : Context). x.stretch) (same.alone_one row h)) (λ h. ap (λ (x : Context). x.stretch) (same.alone_other row h)) in
      let hows = same_asking m seen c d same.style same.form in
      let pulls = same_pulls m seen c d same.form in
      flag_is m seen d other none r r_in
      ∙ sym (λ i. carries (hows i) (axes i) (kid i) (kid_at (pulls i) (kid i)))
      ∙ sym (flag_is m seen c one none q q_in)

  flags_same : is_table_row (facts child.node).laid ≡ false → is_stretched r.context.stretch ≡ is_stretched q.context.stretch
  flags_same plain = by (is_table_row (facts node).laid) refl
    where
      row_is : (kind : Kind) → is_table_row kind ≡ true → kind ≡ Mtr
      row_is Mtr e = refl
      row_is x e = absurd (false≢true e)

      by : (t : Bool) → is_table_row (facts node).laid ≡ t → is_stretched r.context.stretch ≡ is_stretched q.context.stretch
      by true e = flags_row (row_is (facts node).laid e)
      by false e = flags_plain (λ t. true≢false (sym (not_row_of_table node q.kid child a.to t) ∙ plain)) e

  contexts_same : is_table_row (facts child.node).laid ≡ false → is_stretched q.context.stretch ≡ false → q.context ≡ r.context
  contexts_same plain free =
      let own = unstretched_is q.context.stretch free in
      let its = unstretched_is r.context.stretch (flags_same plain ∙ free) in
      q_placed ∙ ap (kid_context m seen c q.kid) own ∙ placed_same Unstretched ∙ ap (kid_context m seen d r.kid) (sym its) ∙ sym r_placed

  next_same : AreOfOne m (facts child.node) q.context r.context
  next_same = record {
    style = ap (λ (x : Context). x.style) q_placed ∙ ap (λ (x : Context). x.style) (placed_same Unstretched) ∙ sym (ap (λ (x : Context). x.style) r_placed);
    form = ap (λ (x : Context). x.form) q_placed ∙ ap (λ (x : Context). x.form) (placed_same Unstretched) ∙ sym (ap (λ (x : Context). x.form) r_placed);
    may_one = All-contains (MayAsk m seen) (both_waves m seen c one) q (handed_down m node c one same.may_one) q_in (kid_of child.node) at_kid;
    may_other = All-contains (MayAsk m seen) (both_waves m seen d other) r (handed_down m node d other same.may_other) r_in (kid_of child.node) (subst (λ (k : ℕ). slice_get seen.kids k ≡ Some (kid_of child.node)) kid at_kid);
    alone_one = contexts_same;
    alone_other = λ plain free. contexts_same plain (sym (flags_same plain) ∙ free);
  }

-- ---- three questions to one child

or_parts : (a b : Bool) → (a || b) ≡ false → (a ≡ false) × (b ≡ false)
or_parts true b e = absurd (true≢false e)
or_parts false b e = (refl, e)

module _ (m : MetricsValue) (node : Node) (child : Child) where
  abbrev seen_here : Seen
  seen_here = seen_of node

  abbrev all_asked : Context → List Question
  all_asked c = both_waves m (seen_of node) c (ones_of m node c)

  abbrev asks_once : Context → Bool
  asks_once c = is_stretched c.stretch || is_table_row (facts node).laid

  same_once : (c : Context) → MayBeAsked m node c → asks_once c ≡ true → (q r : Question) → Asks m node c q child → Asks m node c r child
      → q.kid ≡ r.kid → q ≡ r
  same_once c may h q r a b e =
      let within = slice_get_within (seen_of node).kids q.kid (kid_of child.node) (shown node q.kid child a.to) in
      let count = once m node c (ones_of m node c) q.kid may within h in
      one_question q.kid (all_asked c) q r (omega (arith, count)) (in_waves m node c q child a) (in_waves m node c r child b) refl (sym e)

  moved : (c d : Context) → c ≡ d → (q : Question) → Asks m node d q child → Asks m node c q child
  moved c d e q a = subst (λ (x : Context). Asks m node x q child) (sym e) a

  -- a question of a wave to one place
  abbrev AskedIn : List Question → ℕ → Question → Type 0
  AskedIn asks kid q = Contains asks q × (q.kid ≡ kid)

  in_a_wave : (c : Context) (kid : ℕ) (q : Question) → Asks m node c q child → q.kid ≡ kid
      → AskedIn (first m (seen_of node) c) kid q ⊎ AskedIn (second m (seen_of node) c (ones_of m node c)) kid q
  in_a_wave c kid q a e =
      elim (Contains-append_cases (first m (seen_of node) c) (second m (seen_of node) c (ones_of m node c)) q (in_waves m node c q child a)) [
        | inl one ↦ inl (one, e)
        | inr two ↦ inr (two, e)
      ]

  two_of_waves : (c : Context) (q r s : Question) → Asks m node c q child → Asks m node c r child → Asks m node c s child
      → q.kid ≡ r.kid → q.kid ≡ s.kid → TwoOf q r s
  two_of_waves c q r s a b d e f =
      let kid = q.kid in
      two_of_places (AskedIn (first m (seen_of node) c) kid) (AskedIn (second m (seen_of node) c (ones_of m node c)) kid)
      (λ x y i j. one_question kid (first m (seen_of node) c) x y (first_once m (seen_of node) c kid) i.0 j.0 i.1 j.1)
      (λ x y i j. one_question kid (second m (seen_of node) c (ones_of m node c)) x y (second_once m (seen_of node) c (ones_of m node c) kid) i.0 j.0 i.1 j.1)
      q r s (in_a_wave c kid q a refl) (in_a_wave c kid r b (sym e)) (in_a_wave c kid s d (sym f))

  module _ (c1 c2 c3 : Context) (s12 : AreOfOne m (facts node) c1 c2) (s13 : AreOfOne m (facts node) c1 c3) (q r s : Question)
      (a : Asks m node c1 q child) (b : Asks m node c2 r child) (d : Asks m node c3 s child) (e : q.kid ≡ r.kid) (f : q.kid ≡ s.kid) where
    stretched_two : asks_once c1 ≡ true → TwoOf c1 c2 c3 → TwoOf q r s
    stretched_two h (inl t) = inl (same_once c1 s12.may_one h q r a (moved c1 c2 t r b) e)
    stretched_two h (inr (inl t)) = inr (inl (same_once c1 s12.may_one h q s a (moved c1 c3 t s d) f))
    stretched_two h (inr (inr t)) = by (asks_once c2) refl
      where
        by : (k : Bool) → asks_once c2 ≡ k → TwoOf q r s
        by true k = inr (inr (same_once c2 s12.may_other k r s b (moved c2 c3 t s d) (sym e ∙ f)))
        by false k =
            let parts = or_parts (is_stretched c2.stretch) (is_table_row (facts node).laid) k in
            inl (same_once c1 s12.may_one h q r a (moved c1 c2 (s12.alone_other parts.1 parts.0) r b) e)

    asked_two : TwoOf c1 c2 c3 → TwoOf q r s
    asked_two two = by (asks_once c1) refl
      where
        by : (k : Bool) → asks_once c1 ≡ k → TwoOf q r s
        by true k = stretched_two k two
        by false k =
            let parts = or_parts (is_stretched c1.stretch) (is_table_row (facts node).laid) k in
            two_of_waves c1 q r s a (moved c1 c2 (s12.alone_one parts.1 parts.0) r b) (moved c1 c3 (s13.alone_one parts.1 parts.0) s d) e f

-- ---- along a path

same_child : (m : MetricsValue) (node : Node) (c d : Context) (q r : Question) (child other : Child) → Asks m node c q child → Asks m node d r other
    → child.place ≡ other.place → (q.kid ≡ r.kid) × (child ≡ other)
same_child m node c d q r child other a b e =
    let kid = same_place node q.kid r.kid child other a.to b.to e in
    (kid, same_Some child other (sym a.to ∙ ap (slice_get (flow_children node)) kid ∙ b.to))

two_along : (m : MetricsValue) (path : List ℕ) (node : Node) (c1 c2 c3 : Context)
    → AreOfOne m (facts node) c1 c2 → AreOfOne m (facts node) c1 c3 → AreOfOne m (facts node) c2 c3 → TwoOf c1 c2 c3
    → (x y z : Node) (a b d : Context) → IsMade m path node c1 x a → IsMade m path node c2 y b → IsMade m path node c3 z d → TwoOf a b d
two_along m [] node c1 c2 c3 s12 s13 s23 (inl e) x y z a b d h k l = inl (h.1 ∙ e ∙ sym k.1)
two_along m [] node c1 c2 c3 s12 s13 s23 (inr (inl e)) x y z a b d h k l = inr (inl (h.1 ∙ e ∙ sym l.1))
two_along m [] node c1 c2 c3 s12 s13 s23 (inr (inr e)) x y z a b d h k l = inr (inr (k.1 ∙ e ∙ sym l.1))
two_along m (place ∷ path) node c1 c2 c3 s12 s13 s23 two x y z a b d (q, child, asks, at, rest) (r, child2, asks2, at2, rest2) (s, child3, asks3, at3, rest3) =
    let k = same_child m node c1 c2 q r child child2 asks asks2 (at ∙ sym at2) in
    let l = same_child m node c1 c3 q s child child3 asks asks3 (at ∙ sym at3) in
    let r_asks = subst (λ (n : Child). Asks m node c2 r n) (sym k.1) asks2 in
    let s_asks = subst (λ (n : Child). Asks m node c3 s n) (sym l.1) asks3 in
    two_along m path child.node q.context r.context s.context
    (next_same m node c1 c2 s12 child q r asks r_asks k.0)
    (next_same m node c1 c3 s13 child q s asks s_asks l.0)
    (next_same m node c2 c3 s23 child r s r_asks s_asks (sym k.0 ∙ l.0))
    (two_of_images (λ (question : Question). question.context) q r s (asked_two m node child c1 c2 c3 s12 s13 q r s asks r_asks s_asks k.0 l.0 two))
    x y z a b d rest
    (subst (λ (n : Child). IsMade m path n.node r.context y b) (sym k.1) rest2)
    (subst (λ (n : Child). IsMade m path n.node s.context z d) (sym l.1) rest3)

own_context : (m : MetricsValue) (node : Node) (context : Context) → MayBeAsked m node context → AreOfOne m (facts node) context context
own_context m node context may = record {
  style = refl;
  form = refl;
  may_one = may;
  may_other = may;
  alone_one = λ row free. refl;
  alone_other = λ row free. refl;
}

pub two_contexts : TwoContextsLaw
two_contexts m node context may path x y z a b c h k l =
    let own = own_context m node context may in
    two_along m path node context context context own own own (inl refl) x y z a b c h k l
