-- An element of which layout sees the same after a change below it, but for the head of one child.
use Rattle.std.proofs.Common.{◌≡◌, ◌∙◌, refl, sym, ap, subst, ℕ, zero, suc, ◌+◌, arith, Bool, true, false, ◌&&◌, List, [], ◌∷◌, length, length-set, map, set, Some, slice_get}
use Rattle.std.proofs.lemmas.List.{length-map, map-set}
use Rattle.std.proofs.lemmas.Option.{none-some, same_Some, slice_get-map}
use Rattle.std.specs.List.{AllByRecursion}
use Rattle.std.specs.Option.{option_map}
use Rattle.font_metrics.specs.Metrics.{MetricsValue}
use Rattle.math_tree.specs.Trees.{node as node_of}
use Rattle.math_tree.specs.declared.kind.Kind.{Kind}
use Rattle.math_tree.specs.declared.node.Node.{Node}
use Rattle.math_tree.specs.declared.node.Node.TheOpen.{Node-F}
use Rattle.math_tree.specs.declared.node.Node.TheViews.{out-Node, out-roll-Node}
use Rattle.tree_edits.specs.Edits.{head_of}
use Rattle.tree_edits.specs.Paths.{children_of}
use Rattle.embellished.specs.Facts.{facts, facts_over, laid_kind}
use Rattle.embellished.specs.Flow.{flow_by}
use Rattle.embellished.specs.Seen.{Child, Kid, Seen, children_from, flow_children, kid_of, laid_child, laid_kid, prescripts_in, seen_of}
use Rattle.embellished.specs.declared.facts.Facts.{Facts}
use Rattle.embellished.proofs.Nodes.{facts_out, kinds_mapped}
use Rattle.layout_model.specs.Answers.{questions_in}
use Rattle.layout_model.specs.Laws.{answer_of}
use Rattle.layout_model.specs.Questions.{first}
use Rattle.layout_model.specs.declared.context.Context.{Context}
use Rattle.layout_model.specs.declared.context.Question.{Question}
use Rattle.layout_model.specs.declared.outcome.Answer.{Answer}
use Rattle.layout_model.proofs.Made.{answer_of_child}
use Rattle.layout_model.proofs.Replies.{answer_there, none_in, question_there}
use Rattle.layout_model.proofs.Fits.{range_is}
use Rattle.child_questions.proofs.Unstretched.{one_wave}
use Rattle.kept_results.specs.Kept.{IsSound, NamesKept, StaysBut, is_live, is_marked}
use Rattle.kept_results.specs.Regular.{AllInFlow, IsRegular, restyled_at}
use Rattle.kept_results.specs.declared.memo.Entry.{Entry}
use Rattle.kept_results.specs.declared.memo.Memo.{Memo}
use Rattle.kept_results.specs.declared.memo.Memo.TheViews.{out-Memo}
use Rattle.kept_results.proofs.Flowing.{flow_same}
use Rattle.kept_results.proofs.Shown.{flow_at, kids_all}
use Rattle.kept_edits.specs.Laws.{IsReadyFor}
use Rattle.kept_edits.proofs.Restyled.{first_again, kinds_of, same_wave}

module _ {A : Type 0} where
  -- what stands there is put there again
  pub set_same : (xs : List A) (i : ℕ) (x : A) → slice_get xs i ≡ Some x → set xs i x ≡ xs
  set_same [] i x h = absurd (none-some x h)
  set_same (c ∷ xs) zero x h = ap (λ z. z ∷ xs) (sym (same_Some c x h))
  set_same (c ∷ xs) (suc i) x h = ap (λ l. c ∷ l) (set_same xs i x h)

  -- at other places all is as before
  set_apart : (xs : List A) (i j : ℕ) (x : A) → (j ≡ i → ⊥) → slice_get (set xs i x) j ≡ slice_get xs j
  set_apart [] i j x h = refl
  set_apart (c ∷ xs) zero zero x h = absurd (h refl)
  set_apart (c ∷ xs) zero (suc j) x h = refl
  set_apart (c ∷ xs) (suc i) zero x h = refl
  set_apart (c ∷ xs) (suc i) (suc j) x h = set_apart xs i j x (λ e. h (ap suc e))

  each_of : (P : A → Type 0) (xs : List A) (i : ℕ) (x : A) → AllByRecursion P xs → slice_get xs i ≡ Some x → P x
  each_of P [] i x h at = absurd (none-some x at)
  each_of P (c ∷ xs) zero x h at = subst P (same_Some c x at) h.0
  each_of P (c ∷ xs) (suc i) x h at = each_of P xs i x h.1 at

module _ {A B : Type 0} (f : A → B) where
  -- another item of which this is the same
  pub map_same : (xs : List A) (i : ℕ) (x y : A) → slice_get xs i ≡ Some x → f y ≡ f x → map f (set xs i y) ≡ map f xs
  map_same xs i x y at e =
      map-set f xs i y ∙ ap (set (map f xs) i) e ∙ set_same (map f xs) i (f x) (slice_get-map f xs i ∙ ap (option_map f) at)

-- ---- all children

laid_from : (place : ℕ) (nodes : List Node) → map laid_child (children_from place nodes) ≡ map laid_kind (map facts nodes)
laid_from place [] = refl
laid_from place (node ∷ nodes) = ap (λ kinds. (facts node).laid ∷ kinds) (laid_from (place + 1) nodes)

facts_through : (nodes : List Node) → kinds_of (map kid_of nodes) ≡ map facts nodes
facts_through [] = refl
facts_through (node ∷ nodes) = ap (λ all. facts node ∷ all) (facts_through nodes)

child_there : (place : ℕ) (nodes : List Node) (i : ℕ) (child : Child) → slice_get (children_from place nodes) i ≡ Some child
    → (child.place ≡ place + i) × (slice_get nodes i ≡ Some child.node)
child_there place [] i child h = absurd (none-some child h)
child_there place (x ∷ nodes) zero child h =
    let same = same_Some record { place = place; node = x } child h in
    let here = ap (λ (c : Child). c.place) same in
    (omega (arith, here), ap (λ (c : Child). Some c.node) same)
child_there place (x ∷ nodes) (suc i) child h = let r = child_there (place + 1) nodes i child h in (omega (arith, r.0), r.1)

prescripts_are : (node : Node) → (seen_of node).prescripts ≡ prescripts_in (facts node).laid (map laid_kind (map facts (out-Node node).children)) (length (seen_of node).kids)
unfolding seen_of
prescripts_are node =
    let all : List Kid = map kid_of (out-Node node).children in
    ap (λ (kinds : List Kind). prescripts_in (facts node).laid kinds (length (flow_by laid_kid (facts node).laid all))) (kinds_mapped (out-Node node).children)

-- ---- another child in the place of one, which is the same among operators

module _ (node : Node) (place : ℕ) (child other : Node) (at : slice_get (children_of node) place ≡ Some child) (e : facts other ≡ facts child) where
  abbrev nodes : List Node
  nodes = set (children_of node) place other

  abbrev made : Node
  made = node_of (head_of node) nodes

  out_made : out-Node made ≡ record { head = head_of node; children = nodes }
  out_made = out-roll-Node record { head = head_of node; children = nodes }

  nodes_made : (out-Node made).children ≡ nodes
  nodes_made = ap (λ (l : Node-F Node). l.children) out_made

  same_facts : map facts nodes ≡ map facts (children_of node)
  same_facts = map_same facts (children_of node) place child other at e

  made_facts : map facts (out-Node made).children ≡ map facts (out-Node node).children
  made_facts = ap (map facts) nodes_made ∙ same_facts

  facts_made : facts made ≡ facts node
  facts_made =
      facts_out made ∙ ap (λ (z : Node-F Node). facts_over z.head (map facts z.children)) out_made
      ∙ ap (facts_over (head_of node)) same_facts ∙ sym (facts_out node)

  all_made : AllInFlow node → AllInFlow made
  unfolding flow_children
  all_made all =
      let kinds : map laid_child (children_from 0 (children_of node)) ≡ map laid_child (children_from 0 nodes) =
      laid_from 0 (children_of node) ∙ ap (map laid_kind) (sym same_facts) ∙ sym (laid_from 0 nodes) in
      let flow : flow_by laid_child (facts node).laid (children_from 0 nodes) ≡ children_from 0 nodes =
      flow_same laid_child (facts node).laid (children_from 0 (children_of node)) (children_from 0 nodes) kinds all in
      subst (λ (l : List Node). flow_by laid_child (facts made).laid (children_from 0 l) ≡ children_from 0 l) (sym nodes_made)
      (subst (λ (f : Facts). flow_by laid_child f.laid (children_from 0 nodes) ≡ children_from 0 nodes) (sym facts_made) flow)

  head_made : (seen_of made).head ≡ (seen_of node).head
  unfolding seen_of
  head_made = ap (λ (l : Node-F Node). l.head) out_made

  own_made : (seen_of made).facts ≡ (seen_of node).facts
  unfolding seen_of
  own_made = facts_made

  module _ (all : AllInFlow node) where
    kids_made : kinds_of (seen_of made).kids ≡ kinds_of (seen_of node).kids
    kids_made =
        ap kinds_of (kids_all made (all_made all)) ∙ facts_through (out-Node made).children ∙ made_facts
        ∙ sym (facts_through (out-Node node).children) ∙ ap kinds_of (sym (kids_all node all))

    others_made : (index : ℕ) → (index ≡ place → ⊥) → slice_get (seen_of made).kids index ≡ slice_get (seen_of node).kids index
    others_made index apart =
        ap (λ (l : List Kid). slice_get l index) (kids_all made (all_made all)) ∙ slice_get-map kid_of (out-Node made).children index
        ∙ ap (λ (l : List Node). option_map kid_of (slice_get l index)) nodes_made ∙ ap (option_map kid_of) (set_apart (children_of node) place index other apart)
        ∙ sym (slice_get-map kid_of (out-Node node).children index) ∙ ap (λ (l : List Kid). slice_get l index) (sym (kids_all node all))

    behind_made : (seen_of made).prescripts ≡ (seen_of node).prescripts
    behind_made =
        let count : length (seen_of made).kids ≡ length (seen_of node).kids = sym (length-map (seen_of made).kids (λ (k : Kid). k.facts)) ∙ ap length kids_made ∙ length-map (seen_of node).kids (λ (k : Kid). k.facts) in
        prescripts_are made
        ∙ ap (λ (f : Facts). prescripts_in f.laid (map laid_kind (map facts (out-Node made).children)) (length (seen_of made).kids)) facts_made
        ∙ ap (λ (l : List Facts). prescripts_in (facts node).laid (map laid_kind l) (length (seen_of made).kids)) made_facts
        ∙ ap (prescripts_in (facts node).laid (map laid_kind (map facts (out-Node node).children))) count
        ∙ sym (prescripts_are node)

  -- ---- what was kept

  module _ (m : MetricsValue) (below : List Memo) (new : Memo) where
    regular_made : (context : Context) (asks : List Question) → IsRegular m node context asks → IsRegular m made context asks
    regular_made context asks h = record {
      all = all_made h.all;
      behind = behind_made h.all ∙ h.behind ∙ sym (ap length nodes_made ∙ length-set (children_of node) place other);
      one_wave = same_wave m (seen_of node) (seen_of made) own_made (kids_made h.all) context ∙ h.one_wave;
      in_order = h.in_order;
    }

    -- a question to another child goes to the same one, is answered as before, and names the same entry
    module _ (context : Context) (asks : List Question) (h : IsRegular m node context asks) (index : ℕ) (question : Question) (q_at : slice_get asks index ≡ Some question)
        (apart : index ≡ place → ⊥) (n : NamesKept node below question) where
      to_index : slice_get (flow_children node) index ≡ Some n.child
      to_index = ap (slice_get (flow_children node)) (sym (h.in_order index question q_at)) ∙ n.to

      there : (n.child.place ≡ 0 + index) × (slice_get (children_of node) index ≡ Some n.child.node)
      there = child_there 0 (children_of node) index n.child (ap (λ (l : List Child). slice_get l index) (sym h.all) ∙ to_index)

      goes_made : slice_get (flow_children made) question.kid ≡ Some record { place = index; node = n.child.node }
      goes_made =
          ap (slice_get (flow_children made)) (h.in_order index question q_at)
          ∙ flow_at made index n.child.node (all_made h.all) (ap (λ (l : List Node). slice_get l index) nodes_made ∙ set_apart (children_of node) place index other apart ∙ there.1)

      answer_made : answer_of m node question ≡ answer_of m made question
      answer_made =
          answer_of_child m node question n.child n.to ∙ sym (answer_of_child m made question record { place = index; node = n.child.node } goes_made)

      named_made : NamesKept made (set below place new) question
      named_made =
          let here : n.child.place ≡ index = omega (arith, there.0) in
          record {
            child = record { place = index; node = n.child.node };
            to = goes_made;
            memo = n.memo;
            at = set_apart below place index new apart ∙ ap (slice_get below) (sym here) ∙ n.at;
            kept = n.kept;
          }

    first_true : (a b : Bool) → (a && b) ≡ true → a ≡ true
    first_true true b h = refl
    first_true false b h = h

    stays_made : (entry : Entry) → IsSound m node below entry → entry.regular ≡ true → StaysBut m made (set below place new) place entry
    stays_made entry s regular =
        let r = s.regular regular in
        let seen : Seen = seen_of node in
        record {
          regular = regular_made entry.context (questions_in entry.one) r;
          sized = first_true _ _ (first_true _ _ (sym (range_is m node entry.context) ∙ s.fits));
          ones = first_again m seen (seen_of made) own_made (kids_made r.all) place head_made (others_made r.all) entry.context
              ∙ ap (map (restyled_at m (seen_of made) entry.context place)) (sym s.ones);
          styled = s.styled;
          two = none_in entry.two (s.twos ∙ one_wave m seen entry.context (map (answer_of m node) (first m seen entry.context)) r.one_wave);
          others = λ index reply at apart.
              let question = reply.question in
              let q_at = question_there entry.one index reply at in
              let n = each_of (NamesKept node below) (questions_in entry.one) index question s.ones_kept q_at in
              let told = slice_get-map (answer_of m node) (questions_in entry.one) index ∙ ap (option_map (answer_of m node)) q_at in
              let is : reply.answer ≡ answer_of m node question =
              sym (same_Some (answer_of m node question) reply.answer
              (sym told ∙ ap (λ (l : List Answer). slice_get l index) (sym s.one) ∙ answer_there entry.one index reply at)) in (
                is ∙ answer_made entry.context (questions_in entry.one) r index question q_at apart n,
                named_made entry.context (questions_in entry.one) r index question q_at apart n,
              );
        }

-- what the regular entries of an unmarked memo tell after a change of one child
pub stay_but : (m : MetricsValue) (node : Node) (memo : Memo) (place : ℕ) (child other : Node) (new : Memo) → IsReadyFor m node memo → is_marked (out-Memo memo) ≡ false
    → slice_get (children_of node) place ≡ Some child → facts other ≡ facts child → (i : ℕ) (entry : Entry) → slice_get (out-Memo memo).entries i ≡ Some entry → entry.regular ≡ true
    → StaysBut m (node_of (head_of node) (set (children_of node) place other)) (set (out-Memo memo).below place new) place entry
stay_but m node memo place child other new h unmarked at e i entry entry_at regular =
    let s = (h.agrees.at [] node memo (refl, refl)).sound entry record { place = i; at = entry_at; live = ap (λ (b : Bool). is_live b entry) unmarked } in
    stays_made node place child other at e m (out-Memo memo).below new entry s regular
