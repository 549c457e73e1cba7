-- The box of an element by its id: that of the layout itself, and those of the children, one after another.
use Rattle.std.proofs.Common.{◌≡◌, ◌∙◌, refl, sym, ap, ℕ, zero, suc, ◌+◌, ◌-◌, ◌<◌, ◌≤◌, max, arith, Bool, true, false, ◌||◌, cond, nat_eq, inl, inr, List, [], ◌∷◌, ◌++◌, append_assoc, append-nil, get_or, length, Option, Some, None, slice_get}
use Rattle.std.proofs.lemmas.List.{length-map}
use Rattle.std.proofs.lemmas.List.Concat.{flat_map-append}
use Rattle.std.proofs.lemmas.List.Folds.{find-append, flat_map-map, list_any-append}
use Rattle.std.proofs.lemmas.Option.{get_or_from_slice_get, same_Some, slice_get_cases, slice_get_within, slice_get-get_or, slice_get-map}
use Rattle.std.specs.List.{AllByRecursion, find, flat_map, list_any}
use Rattle.std.specs.Option.{option_and_then, option_map, option_or}
use denote.Param.Weighed.{most, at_most}
use Rattle.fixed_units.specs.declared.boxes.MathBox.{MathBox}
use Rattle.font_metrics.specs.Metrics.{MetricsValue}
use Rattle.math_tree.specs.Trees.{listed}
use Rattle.math_tree.specs.declared.node.Node.{Node}
use Rattle.math_tree.specs.declared.node.Node.TheViews.{out-Node, size-Node, size_is-Node}
use Rattle.math_tree.specs.declared.node.NodeId.{NodeId}
use Rattle.math_tree.proofs.Nodes.{by_children, listed_element}
use Rattle.embellished.specs.Facts.{facts}
use Rattle.embellished.specs.Flow.{may_show}
use Rattle.embellished.specs.Seen.{Child, flow_children, flow_nodes, seen_of}
use Rattle.fixed_units.specs.Sums.{list_to}
use Rattle.layout_model.specs.Laws.{answer_of, laid_below}
use Rattle.layout_model.specs.Layout.{laid, last_context, lay, questions, somes}
use Rattle.layout_model.specs.declared.context.Context.{Context}
use Rattle.layout_model.specs.declared.context.Question.{Question}
use Rattle.layout_model.specs.declared.laid.Laid.{Laid}
use Rattle.layout_model.specs.declared.laid.Laid.TheFolds.{fold-Laid, fold_out-Laid}
use Rattle.layout_model.specs.declared.laid.Laid.TheOpen.{Laid-F}
use Rattle.layout_model.specs.declared.laid.Laid.TheViews.{out-Laid, out-roll-Laid}
use Rattle.layout_model.proofs.LaidTrees.{below_holds}
use Rattle.layout_model.proofs.Trees.{laid_is}
use Rattle.kept_results.specs.Kept.{Agrees, HasEntry, IsKept, NamesKept}
use Rattle.kept_results.specs.Looking.{own_facts}
use Rattle.kept_results.specs.declared.memo.Entry.{Entry}
use Rattle.kept_results.specs.declared.memo.Memo.{Memo}
use Rattle.kept_results.specs.declared.memo.Memo.TheViews.{out-Memo}
use Rattle.kept_results.proofs.Turns.{child_in_flow, facts_known}
use Rattle.kept_laid.specs.Boxes.{ElementBox, box_below, box_in, boxes, boxes_over, first_box, has_id}
use Rattle.kept_laid.specs.Laid.{kids_laid}
use Rattle.kept_laid.specs.Places.{shown_before}
use Rattle.kept_laid.proofs.LastAsked.{asked_last}
use Rattle.kept_laid.proofs.Reading.{all_named, asks_are, asks_in, below_is, kept_last, kids_next, kids_until}
use Rattle.kept_laid.proofs.Walking.{child_told, found, not_at_end}

-- ---- what stands at a place, and what is not there

pub at_place : {X : Type 0} (xs ys : List X) (place : ℕ) (x : X) → xs ≡ ys → place < length ys → x ≡ get_or xs place x → slice_get ys place ≡ Some x
at_place xs ys place x e within is =
    slice_get-get_or ys place x within ∙ ap (λ (y : _). Some y) (sym (is ∙ ap (λ (list : List _). get_or list place x) e))

pub not_some : (found : Option MathBox) → ((frame : MathBox) → found ≡ Some frame → ⊥) → found ≡ None
not_some None h = refl
not_some (Some frame) h = absurd (h frame refl)

-- ---- the boxes of a layout

abbrev own_box : Laid-F Laid → ElementBox
own_box layer = record { id = layer.head.id; frame = layer.outcome.answer.frame }

boxes_out : (all : Laid) → boxes all ≡ own_box (out-Laid all) ∷ flat_map boxes (out-Laid all).kids
unfolding boxes
boxes_out all =
    fold_out-Laid (List ElementBox) boxes_over all
    ∙ ap (λ (below : List ElementBox). own_box (out-Laid all) ∷ below) (flat_map-map (λ (kid : List ElementBox). kid) (fold-Laid (List ElementBox) boxes_over) (out-Laid all).kids)

abbrev frame_of : ElementBox → MathBox
frame_of element = element.frame

module _ (id : NodeId) where
  abbrev has_it : ElementBox → Bool
  has_it element = nat_eq element.id.0 id.0

  first_of : (element : ElementBox) (others : List ElementBox) → first_box id (element ∷ others) ≡ cond (has_it element) (Some element.frame) (first_box id others)
  first_of element others = by (has_it element)
    where
      by : (b : Bool) → option_map frame_of (cond b (Some element) (find has_it others)) ≡ cond b (Some element.frame) (first_box id others)
      by true = refl
      by false = refl

  -- of two lists one after the other
  map_or : (a b : Option ElementBox) → option_map frame_of (option_or a b) ≡ option_or (option_map frame_of a) (option_map frame_of b)
  map_or None b = refl
  map_or (Some x) b = refl

  below_both : (xs ys : List Laid) → box_below id (xs ++ ys) ≡ option_or (box_below id xs) (box_below id ys)
  below_both xs ys =
      ap (first_box id) (flat_map-append boxes xs ys)
      ∙ ap (option_map frame_of) (find-append has_it (flat_map boxes xs) (flat_map boxes ys))
      ∙ map_or (find has_it (flat_map boxes xs)) (find has_it (flat_map boxes ys))

  below_one : (kid : Laid) → box_below id (kid ∷ []) ≡ box_in id kid
  below_one kid = ap (first_box id) (append-nil (boxes kid))

  -- ---- an element, by an entry

  module _ (m : MetricsValue) (node : Node) where
    box_is : (context : Context) → box_in id (laid m node context)
        ≡ cond (nat_eq (out-Node node).head.id.0 id.0) (Some (lay m node context).answer.frame) (box_below id (kids_laid m node (questions m (seen_of node) context (answer_of m node))))
    box_is context =
        ap (first_box id) (boxes_out (laid m node context))
        ∙ ap (λ (layer : Laid-F Laid). first_box id (own_box layer ∷ flat_map boxes layer.kids)) (ap out-Laid (laid_is m node context) ∙ out-roll-Laid _)
        ∙ first_of _ _

    module _ (memo : Memo) (entry : Entry) (agrees : Agrees m node memo) (has : HasEntry (out-Memo memo) entry) (context : Context) (is : entry.context ≡ context) where
      pub box_here : nat_eq (out-Node node).head.id.0 id.0 ≡ true → (frame : MathBox) → frame ≡ (lay m node context).answer.frame
          → Some frame ≡ box_in id (laid m node context)
      box_here e frame reads =
          ap (λ (f : MathBox). Some f) reads
          ∙ sym (box_is context ∙ ap (λ (b : Bool). cond b (Some (lay m node context).answer.frame) (box_below id (kids_laid m node (questions m (seen_of node) context (answer_of m node))))) e)

      pub box_further : nat_eq (out-Node node).head.id.0 id.0 ≡ false → box_below id (kids_laid m node (asks_in entry)) ≡ box_in id (laid m node context)
      box_further e =
          ap (λ (asks : List Question). box_below id (kids_laid m node asks)) (asks_are m node memo entry agrees has context is)
          ∙ sym (box_is context ∙ ap (λ (b : Bool). cond b (Some (lay m node context).answer.frame) (box_below id (kids_laid m node (questions m (seen_of node) context (answer_of m node))))) e)

    -- ---- its children

    module _ (asks : List Question) where
      abbrev flow : List Node
      flow = flow_nodes node

      abbrev until : ℕ → List Laid
      until index = kids_until m node asks index

      -- the child at a place
      abbrev box_at : ℕ → Option MathBox
      box_at index = box_below id (somes (laid_below m node asks index ∷ []))

      below_next : (index : ℕ) → box_below id (until (index + 1)) ≡ option_or (box_below id (until index)) (box_at index)
      below_next index = ap (box_below id) (kids_next m node asks index (laid_below m node asks index) refl) ∙ below_both (until index) (somes (laid_below m node asks index ∷ []))

      nowhere : (found : Option Node) → option_and_then (λ (k : Node). option_map (laid m k) None) found ≡ None
      nowhere None = refl
      nowhere (Some kid) = refl

      pub box_of_kid_is : (index : ℕ) (child : Node) → ((context : Context) → last_context asks index ≡ Some context → slice_get flow index ≡ Some child)
          → box_at index ≡ option_and_then (λ (context : Context). box_in id (laid m child context)) (last_context asks index)
      box_of_kid_is index child there = by (last_context asks index) refl
        where
          by : (found : Option Context) → last_context asks index ≡ found → box_at index ≡ option_and_then (λ (context : Context). box_in id (laid m child context)) found
          by None e =
              let none : laid_below m node asks index ≡ None =
              ap (λ (context : Option Context). option_and_then (λ (k : Node). option_map (laid m k) context) (slice_get flow index)) e ∙ nowhere (slice_get flow index) in
              ap (λ (kid : Option Laid). box_below id (somes (kid ∷ []))) none
          by (Some context) e =
              let some : laid_below m node asks index ≡ Some (laid m child context) =
              below_is m node asks index child (there context e) ∙ ap (option_map (laid m child)) e in
              ap (λ (kid : Option Laid). box_below id (somes (kid ∷ []))) some ∙ below_one (laid m child context)

      pub none_yet : None ≡ box_below id (until 0)
      unfolding list_to
      none_yet = refl

      -- one child more, in which the id isn't
      pub none_so_far : (index : ℕ) → box_below id (until index) ≡ None → box_at index ≡ None → box_below id (until (index + 1)) ≡ None
      none_so_far index before here =
          below_next index ∙ ap (λ (a : Option MathBox). option_or a (box_at index)) before ∙ here

      -- ---- all of them

      further : (index more : ℕ) → (rest : List Laid) × (until (index + more) ≡ until index ++ rest)
      further index zero =
          let same : index + 0 ≡ index = omega arith in
          ([], ap until same ∙ sym (append-nil (until index)))
      further index (suc more) =
          let before = further index more in
          let next : index + suc more ≡ index + more + 1 = omega arith in
          let last = somes (laid_below m node asks (index + more) ∷ []) in (
            before.0 ++ last,
            ap until next ∙ kids_next m node asks (index + more) (laid_below m node asks (index + more)) refl
                ∙ ap (λ (kids : List Laid). kids ++ last) before.1 ∙ append_assoc (until index) before.0 last,
          )

      outside : (index : ℕ) → length flow ≤ index → laid_below m node asks index ≡ None
      outside index over = elim (slice_get_cases flow index).1 [
        | inl h ↦ absurd (omega (arith, over, slice_get_within flow index h.0 h.2))
        | inr h ↦ ap (option_and_then (λ (k : Node). option_map (laid m k) (last_context asks index))) h.1
      ]

      beyond : (more : ℕ) → until (length flow + more) ≡ until (length flow)
      beyond zero = let same : length flow + 0 ≡ length flow = omega arith in ap until same
      beyond (suc more) =
          let next : length flow + suc more ≡ length flow + more + 1 = omega arith in
          ap until next ∙ kids_next m node asks (length flow + more) None (outside (length flow + more) (omega arith))
          ∙ append-nil (until (length flow + more)) ∙ beyond more

      -- what is found in one child after none was before it
      pub box_found : (index : ℕ) (frame : MathBox) → box_below id (until index) ≡ None → box_at index ≡ Some frame → Some frame ≡ box_below id (kids_laid m node asks)
      box_found index frame before here =
          let upto : box_below id (until (index + 1)) ≡ Some frame =
          below_next index ∙ ap (λ (a : Option MathBox). option_or a (box_at index)) before ∙ here in
          let rest = further (index + 1) (length flow) in
          let same : length flow + (index + 1) ≡ index + 1 + length flow = omega arith in
          let whole : until (index + 1) ++ rest.0 ≡ until (length flow) = sym rest.1 ∙ ap until (sym same) ∙ beyond (index + 1) in
          sym (ap (box_below id) (sym whole) ∙ below_both (until (index + 1)) rest.0 ∙ ap (λ (a : Option MathBox). option_or a (box_below id rest.0)) upto)

      -- none is found in any
      pub none_found : (index : ℕ) → length flow ≤ index → box_below id (until index) ≡ None → None ≡ box_below id (kids_laid m node asks)
      none_found index over none =
          let more = index - length flow in
          let same : length flow + more ≡ index = omega (arith, over) in
          sym (sym (ap (box_below id) (beyond more)) ∙ ap (λ (i : ℕ). box_below id (until i)) same ∙ none)

-- ---- a child at a place among all

module _ (node child : Node) (place : ℕ) (at : slice_get (out-Node node).children place ≡ Some child) where
  pub smaller : size-Node child < size-Node node
  smaller =
      let children = (out-Node node).children in
      let near : place < length children = slice_get_within children place child at in
      let one : child ≡ get_or children place child = sym (get_or_from_slice_get children place child child at) in
      let deepest : size-Node (get_or children place child) ≤ most size-Node children = at_most size-Node children place child near in
      let whole : size-Node node ≡ max 0 (max (most size-Node children) 0) + 1 = size_is-Node node in
      let same : size-Node child ≡ size-Node (get_or children place child) = ap size-Node one in
      omega arith

  module _ (m : MetricsValue) (memo below : Memo) (agrees : Agrees m node memo) (there : slice_get (out-Memo memo).below place ≡ Some below) where
    abbrev memos : List Memo
    memos = (out-Memo memo).below

    pub told_of_child : (told : Bool) → told ≡ may_show (out-Memo memo).facts.laid (own_facts below).laid → may_show (facts node).laid (facts child).laid ≡ told
    told_of_child told is =
        let this : get_or memos place below ≡ below = get_or_from_slice_get memos place below below there in
        let own : (out-Memo memo).facts ≡ facts node = (agrees.at [] node memo (refl, refl)).facts_are in
        let known = child_told node (out-Memo memo).facts memos place below told own (facts_known m node memo agrees) (slice_get_within memos place below there)
        (is ∙ ap (λ (kid : Memo). may_show (out-Memo memo).facts.laid (own_facts kid).laid) (sym this)) in
        ap (λ (kid : Node). may_show (facts node).laid (facts kid).laid) (same_Some child known.0 (sym at ∙ known.1)) ∙ known.2

    module _ (entry : Entry) (has : HasEntry (out-Memo memo) entry) (index : ℕ) (passed : may_show (facts node).laid (facts child).laid ≡ true) (is : index ≡ shown_before node place)
        (context : Context) (asked : last_context (asks_in entry) index ≡ Some context) where
      -- the child that is asked stands where the walk is
      kid_there : slice_get (flow_children node) index ≡ Some record { place = place; node = child }
      kid_there =
          let last = asked_last (NamesKept node memos) (asks_in entry) index context (all_named m node memo entry agrees has) asked in
          let names = last.holds in
          let within : index < length (flow_children node) =
          slice_get_within (flow_children node) index names.child (ap (slice_get (flow_children node)) (sym last.to) ∙ names.to) in
          let p = found node place child at index within passed is in
          let same : p.child.node ≡ child =
          same_Some p.child.node child (sym p.among ∙ ap (slice_get (out-Node node).children) p.holds ∙ at) in
          child_in_flow node child index place record { child = p.child; in_flow = p.in_flow; among = p.among; shown = p.shown; holds = same } p

      pub kid_in_flow : slice_get (flow_nodes node) index ≡ Some child
      kid_in_flow =
          slice_get-map (λ (kid : Child). kid.node) (flow_children node) index ∙ ap (option_map (λ (kid : Child). kid.node)) kid_there

      pub kid_kept : IsKept (out-Memo below) context
      kid_kept =
          kept_last node child memos below place index (asks_in entry) context (all_named m node memo entry agrees has) asked kid_there there

-- the walk ends behind all that are in flow
pub all_passed : (node : Node) (place index : ℕ) → length (out-Node node).children ≤ place → index ≡ shown_before node place → length (flow_nodes node) ≤ index
all_passed node place index over is = elim (slice_get_cases (flow_nodes node) index).1 [
  | inl h ↦
      let inside : index < length (flow_nodes node) = slice_get_within (flow_nodes node) index h.0 h.2 in
      absurd (not_at_end node place index index (omega (arith, inside, length-map (flow_children node) (λ (kid : Child). kid.node))) over is (omega arith))
  | inr h ↦ h.0
]

-- ---- an id that no element has

none_of : (a b : Bool) → (a || b) ≡ false → (a ≡ false) × (b ≡ false)
none_of false b e = (refl, e)
none_of true b e = absurd cc

module _ (id : NodeId) (m : MetricsValue) where
  abbrev IsUnboxed : Node → Type 0
  IsUnboxed node = (context : Context) → box_in id (laid m node context) ≡ None

  abbrev Lacks : Node → Type 0
  Lacks node = (level : ℕ) → list_any (has_id id) (listed level node) ≡ false → IsUnboxed node

  each_lacks : (nodes : List Node) (level : ℕ) → AllByRecursion Lacks nodes → list_any (has_id id) (flat_map (listed level) nodes) ≡ false → AllByRecursion IsUnboxed nodes
  each_lacks [] level h e = tt
  each_lacks (node ∷ nodes) level h e =
      let parts = none_of (list_any (has_id id) (listed level node)) (list_any (has_id id) (flat_map (listed level) nodes))
      (sym (list_any-append (has_id id) (listed level node) (flat_map (listed level) nodes)) ∙ e) in
      (h.0 level parts.0, each_lacks nodes level h.1 parts.1)

  pub in_no_context : (kid : Node) → IsUnboxed kid → (found : Option Context) → option_and_then (λ (context : Context). box_in id (laid m kid context)) found ≡ None
  in_no_context kid h None = refl
  in_no_context kid h (Some context) = h context

  none_until : (node : Node) (asks : List Question) (n : ℕ) → AllByRecursion IsUnboxed (out-Node node).children → box_below id (kids_until m node asks n) ≡ None
  none_until node asks zero h = sym (none_yet id m node asks)
  none_until node asks (suc n) h =
      let next : suc n ≡ n + 1 = omega arith in
      ap (λ (i : ℕ). box_below id (kids_until m node asks i)) next
      ∙ none_so_far id m node asks n (none_until node asks n h) (by (slice_get (flow_nodes node) n) refl)
    where
      by : (found : Option Node) → slice_get (flow_nodes node) n ≡ found → box_below id (somes (laid_below m node asks n ∷ [])) ≡ None
      by None at =
          ap (λ (kid : Option Node). box_below id (somes (option_and_then (λ (k : Node). option_map (laid m k) (last_context asks n)) kid ∷ []))) at
      by (Some kid) at =
          box_of_kid_is id m node asks n kid (λ context asked. at) ∙ in_no_context kid (below_holds IsUnboxed node kid n h at) (last_context asks n)

  pub lacks : (node : Node) → Lacks node
  lacks = by_children Lacks (λ node h level e context.
      let parts = none_of _ _ (sym (ap (list_any (has_id id)) (listed_element level node)) ∙ e) in
      let asks = questions m (seen_of node) context (answer_of m node) in
      box_is id m node context
      ∙ ap (λ (b : Bool). cond b (Some (lay m node context).answer.frame) (box_below id (kids_laid m node asks))) parts.0
      ∙ none_until node asks (length (flow_nodes node)) (each_lacks (out-Node node).children (level + 1) h parts.1))
