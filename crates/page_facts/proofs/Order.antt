-- The boxes of a page come in document order.
use Rattle.std.proofs.Common.{◌≡◌, ◌∙◌, inl, inr, refl, sym, ap, subst, ℕ, zero, suc, ◌+◌, nat_eq, Bool, true, false, ◌||◌, ◌&&◌, cond, List, [], ◌∷◌, ◌++◌, length, map, take, Option, Some, None, slice_get, ℤ, pos, ◌+ℤ◌}
use Rattle.std.specs.Prelude.{if◌then◌else◌}
use Rattle.std.specs.List.{AllByRecursion, IsDistinct, flat_map, list_any}
use Rattle.std.specs.Option.{IfSome, option_and_then, option_map}
use Rattle.std.proofs.lemmas.List.{map-append}
use Rattle.std.proofs.lemmas.List.Concat.{flat_map-append}
use Rattle.std.proofs.lemmas.List.Elements.{All-from_recursion}
use Rattle.std.proofs.lemmas.List.Folds.{list_any-append}
use Rattle.std.proofs.lemmas.Option.{same_Some}
use Rattle.fixed_units.specs.Sums.{list_to}
use Rattle.font_metrics.specs.Metrics.{MetricsValue}
use Rattle.font_metrics.specs.declared.mark.Mark.{Mark}
use Rattle.math_tree.proofs.Nodes.{by_children, listed_element}
use Rattle.math_tree.specs.Trees.{IsWhole, Listed, TreeValue, ids_of, listed}
use Rattle.math_tree.specs.declared.kind.Kind.{Kind}
use Rattle.math_tree.specs.declared.node.Node.{Node}
use Rattle.math_tree.specs.declared.node.Node.TheViews.{out-Node}
use Rattle.embellished.specs.Facts.{facts}
use Rattle.embellished.specs.Flow.{flow_by, may_show, shown_by}
use Rattle.embellished.specs.Kinds.{shows_its_first, shows_none}
use Rattle.embellished.specs.Seen.{flow_nodes, seen_of}
use Rattle.layout_model.specs.Laws.{answer_of, laid_below}
use Rattle.layout_model.specs.Layout.{laid, laid_tree, last_context, lay, questions, root_context, somes}
use Rattle.layout_model.specs.declared.context.Context.{Context}
use Rattle.layout_model.specs.declared.context.Question.{Question}
use Rattle.layout_model.specs.declared.laid.Laid.{Laid}
use Rattle.layout_model.specs.declared.laid.Laid.TheOpen.{Laid-F}
use Rattle.layout_model.specs.declared.outcome.Offset.{Offset}
use Rattle.layout_model.proofs.LaidTrees.{below_holds}
use Rattle.layout_model.proofs.Trees.{laid_is}
use Rattle.box_writer.specs.Items.{box_of}
use Rattle.box_writer.specs.declared.placed.PlacedBox.{PlacedBox}
use Rattle.box_writer.specs.declared.placed.PlacedItem.{PlacedItem}
use Rattle.placement.specs.Placing.{is_silent, kids_at, marks_at, placed}
use Rattle.placement.proofs.Showing.{layer_at, placed_made}
use Rattle.hit_test.specs.Elements.{children_of, elements_of, flow_tree, has_id, holds_id, id_of, inside_in, is_inside}
use Rattle.hit_test.specs.Hits.{ComesFirst, box_in, boxes_of}
use Rattle.hit_test.proofs.Elements.{elements_out, flow_children_are, flow_head, flow_is}
use Rattle.page_facts.proofs.Sublists.{InOrder, Sub, before, before_back, before_front, distinct_in_order, is_in, or_left, or_right, order_within, sub_all, sub_append, sub_distinct, sub_filter, sub_head, sub_holds, sub_in_order, sub_none, sub_skip}

-- the ids of elements
abbrev pub ids_in : List Node → List ℕ
ids_in elements = map id_of elements

abbrev pub ids_below : Node → List ℕ
ids_below element = ids_in (elements_of element)

-- ---- an element inside another comes behind it

-- the test of `inside_in` over some elements
abbrev inside_among : ℕ → ℕ → List Node → Bool
inside_among outer inner elements = list_any (λ e. has_id outer e && is_inside inner e) elements

held_in : (id : ℕ) (nodes : List Node) → list_any (holds_id id) nodes ≡ is_in id (ids_in (flat_map elements_of nodes))
unfolding holds_id
held_in id [] = refl
held_in id (n ∷ nodes) =
    (λ i. any_of (elements_of n) i || held_in id nodes i)
    ∙ sym (list_any-append (λ other. nat_eq other id) (ids_below n) (ids_in (flat_map elements_of nodes)))
    ∙ ap (is_in id) (sym (map-append id_of (elements_of n) (flat_map elements_of nodes)))
  where
    any_of : (elements : List Node) → list_any (has_id id) elements ≡ is_in id (ids_in elements)
    any_of [] = refl
    any_of (e ∷ elements) = ap (λ (b : Bool). nat_eq (id_of e) id || b) (any_of elements)

module _ (outer inner : ℕ) where
  abbrev ComesBehind : Node → Type 0
  ComesBehind n = inside_among outer inner (elements_of n) ≡ true → before (ids_below n) outer inner ≡ true

  behind_among : (nodes : List Node) → AllByRecursion ComesBehind nodes → inside_among outer inner (flat_map elements_of nodes) ≡ true
      → before (ids_in (flat_map elements_of nodes)) outer inner ≡ true
  behind_among [] all e = absurd cc
  behind_among (n ∷ nodes) all e =
      subst (λ (ids : List ℕ). before ids outer inner ≡ true) (sym (map-append id_of (elements_of n) (flat_map elements_of nodes)))
      (by (λ f. behind_among nodes all.1 f) (inside_among outer inner (elements_of n)) refl
      (sym (list_any-append (λ x. has_id outer x && is_inside inner x) (elements_of n) (flat_map elements_of nodes)) ∙ e))
    where
      by : (inside_among outer inner (flat_map elements_of nodes) ≡ true → before (ids_in (flat_map elements_of nodes)) outer inner ≡ true)
          → (b : Bool) → inside_among outer inner (elements_of n) ≡ b → (b || inside_among outer inner (flat_map elements_of nodes)) ≡ true
          → before (ids_below n ++ ids_in (flat_map elements_of nodes)) outer inner ≡ true
      by rest true f g = before_front (ids_below n) (ids_in (flat_map elements_of nodes)) outer inner (all.0 f)
      by rest false f g = before_back (ids_below n) (ids_in (flat_map elements_of nodes)) outer inner (rest g)

  behind_step : (n : Node) → AllByRecursion ComesBehind (out-Node n).children → ComesBehind n
  behind_step n below e =
      let kids = flat_map elements_of (children_of n) in
      let whole : ((has_id outer n && is_inside inner n) || inside_among outer inner kids) ≡ true =
      sym (ap (inside_among outer inner) (elements_out n)) ∙ e in
      subst (λ (elements : List Node). before (ids_in elements) outer inner ≡ true) (sym (elements_out n))
      (by (has_id outer n && is_inside inner n) refl whole)
    where
      by : (b : Bool) → (has_id outer n && is_inside inner n) ≡ b → (b || inside_among outer inner (flat_map elements_of (children_of n))) ≡ true
          → before (id_of n ∷ ids_in (flat_map elements_of (children_of n))) outer inner ≡ true
      by true f g =
          or_left (nat_eq (id_of n) outer && is_in inner (ids_in (flat_map elements_of (children_of n)))) _
          (sym (ap (λ (c : Bool). has_id outer n && c) (held_in inner (children_of n))) ∙ f)
      by false f g =
          or_right (nat_eq (id_of n) outer && is_in inner (ids_in (flat_map elements_of (children_of n)))) _
          (behind_among (children_of n) below g)

  comes_behind : (n : Node) → ComesBehind n
  comes_behind = by_children ComesBehind behind_step

-- so where ids are distinct, elements stand in document order
elements_in_order : (root : Node) → IsDistinct nat_eq (ids_below root) → InOrder (inside_in root) (ids_below root)
unfolding inside_in
elements_in_order root distinct =
    order_within (inside_in root) (before (ids_below root)) (λ outer inner e. comes_behind outer inner root e) (ids_below root)
    (distinct_in_order (ids_below root) distinct)

-- ---- the elements in flow are some of all

flow_some : {A : Type 0} (kind_of : A → Kind) (laid : Kind) (xs : List A) → Sub (flow_by kind_of laid xs) xs
unfolding flow_by
flow_some kind_of laid xs = by (shows_none laid) (shows_its_first laid)
  where
    first : (ys : List _) → Sub (shown_by kind_of laid (take 1 ys)) ys
    first [] = refl
    first (y ∷ ys) = one (may_show laid (kind_of y))
      where
        one : (b : Bool) → Sub (cond b (y ∷ []) []) (y ∷ ys)
        one true = sub_head y [] ys (sub_none ys)
        one false = sub_skip [] y ys (sub_none ys)

    by : (none alone : Bool) → Sub (cond none [] (cond alone (shown_by kind_of laid (take 1 xs)) (shown_by kind_of laid xs))) xs
    by true alone = sub_none xs
    by false true = first xs
    by false false = sub_filter (λ x. may_show laid (kind_of x)) xs

sub_flat : {A B : Type 0} (f : A → List B) (g : A → List B) (xs ys : List A) → Sub xs ys → AllByRecursion (λ x. Sub (f x) (g x)) ys
    → Sub (flat_map f xs) (flat_map g ys)
sub_flat f g xs [] h all = ap (flat_map f) h
sub_flat f g xs (y ∷ ys) (inl h) all =
    sub_append [] (flat_map f xs) (g y) (flat_map g ys) (sub_none (g y)) (sub_flat f g xs ys h all.1)
sub_flat f g xs (y ∷ ys) (inr h) all =
    subst (λ (zs : List _). Sub (flat_map f zs) (g y ++ flat_map g ys)) (sym h.1)
    (sub_append (f y) (flat_map f h.0) (g y) (flat_map g ys) all.0 (sub_flat f g h.0 ys h.2 all.1))

ids_flat : (nodes : List Node) → ids_in (flat_map elements_of nodes) ≡ flat_map ids_below nodes
ids_flat [] = refl
ids_flat (n ∷ nodes) = map-append id_of (elements_of n) (flat_map elements_of nodes) ∙ ap (λ (l : List ℕ). ids_below n ++ l) (ids_flat nodes)

-- the ids of an element and of all below it
abbrev all_ids : ℕ → Node → List ℕ
all_ids level n = ids_of (listed level n)

ids_listed : (level : ℕ) (nodes : List Node) → ids_of (flat_map (listed level) nodes) ≡ flat_map (all_ids level) nodes
ids_listed level [] = refl
ids_listed level (n ∷ nodes) =
    map-append (λ (e : Listed). e.head.id.0) (listed level n) (flat_map (listed level) nodes) ∙ ap (λ (l : List ℕ). all_ids level n ++ l) (ids_listed level nodes)

abbrev pub flow_ids : Node → List ℕ
flow_ids n = ids_below (flow_tree n)

flow_ids_out : (n : Node) → flow_ids n ≡ (out-Node n).head.id.0 ∷ flat_map flow_ids (flow_nodes n)
flow_ids_out n =
    ap ids_in (elements_out (flow_tree n))
    ∙ (λ i. (flow_head n i).id.0 ∷ ids_in (flat_map elements_of (flow_children_are n i)))
    ∙ ap (λ (l : List ℕ). (out-Node n).head.id.0 ∷ l) (ids_flat (map flow_tree (flow_nodes n)) ∙ through (flow_nodes n))
  where
    through : (nodes : List Node) → flat_map ids_below (map flow_tree nodes) ≡ flat_map flow_ids nodes
    through [] = refl
    through (k ∷ nodes) = ap (λ (l : List ℕ). flow_ids k ++ l) (through nodes)

abbrev IsSome : Node → Type 0
IsSome n = (level : ℕ) → Sub (flow_ids n) (all_ids level n)

flow_is_some : (n : Node) → IsSome n
flow_is_some = by_children IsSome (λ n below level.
    subst (λ (l : List ℕ). Sub l (all_ids level n)) (sym (flow_ids_out n))
    (subst (λ (l : List ℕ). Sub ((out-Node n).head.id.0 ∷ flat_map flow_ids (flow_nodes n)) l)
    (sym (ap ids_of (listed_element level n) ∙ ap (λ (l : List ℕ). (out-Node n).head.id.0 ∷ l) (ids_listed (level + 1) (out-Node n).children)))
    (sub_head (out-Node n).head.id.0 (flat_map flow_ids (flow_nodes n)) (flat_map (all_ids (level + 1)) (out-Node n).children)
    (sub_flat flow_ids (all_ids (level + 1)) (flow_nodes n) (out-Node n).children
    (subst (λ (l : List Node). Sub l (out-Node n).children) (sym (flow_is n)) (flow_some (λ k. (facts k).laid) (facts n).laid (out-Node n).children))
    (at_level (level + 1) (out-Node n).children below)))))
  where
    at_level : (level : ℕ) (nodes : List Node) → AllByRecursion IsSome nodes → AllByRecursion (λ k. Sub (flow_ids k) (all_ids level k)) nodes
    at_level level [] all = tt
    at_level level (k ∷ nodes) all = (all.0 level, at_level level nodes all.1)

-- ---- the boxes of a page are those of some elements in flow

abbrev pub box_ids : List PlacedItem → List ℕ
box_ids items = map (λ (box : PlacedBox). box.id.0) (boxes_of items)

boxes_append : (xs ys : List PlacedItem) → box_ids (xs ++ ys) ≡ box_ids xs ++ box_ids ys
unfolding boxes_of
boxes_append xs ys =
    ap (map (λ (box : PlacedBox). box.id.0)) (flat_map-append box_in xs ys) ∙ map-append (λ (box : PlacedBox). box.id.0) (boxes_of xs) (boxes_of ys)

no_boxes : (x y : ℤ) (marks : List Mark) → box_ids (marks_at x y marks) ≡ []
unfolding boxes_of
no_boxes x y [] = refl
no_boxes x y (mark ∷ marks) = no_boxes x y marks

-- a list over places, from its first place on
from_first : {A : Type 0} (n : ℕ) (f : ℕ → A) → list_to (suc n) f ≡ f 0 ∷ list_to n (λ i. f (suc i))
unfolding list_to
from_first zero f = refl
from_first (suc n) f = ap (λ (front : List _). front ++ f (suc n) ∷ []) (from_first n f)

-- the boxes of a laid-out element are those of some of these ids, wherever it stands
abbrev HasIds : List ℕ → Laid → Type 0
HasIds ids l = (x y : ℤ) → Sub (box_ids (placed l x y)) ids

abbrev Each : List Node → (ℕ → Option Laid) → Type 0
Each nodes f = (i : ℕ) (k : Node) → slice_get nodes i ≡ Some k → IfSome (f i) (HasIds (flow_ids k))

kids_some : (x y : ℤ) (nodes : List Node) (f : ℕ → Option Laid) → Each nodes f → (offsets : List Offset)
    → Sub (box_ids (kids_at x y offsets (map placed (somes (list_to (length nodes) f))))) (flat_map flow_ids nodes)
unfolding boxes_of list_to
kids_some x y [] f each [] = refl
kids_some x y [] f each (offset ∷ offsets) = refl
kids_some x y (n ∷ nodes) f each offsets =
    subst (λ (slots : List (Option Laid)). Sub (box_ids (kids_at x y offsets (map placed (somes slots)))) (flow_ids n ++ flat_map flow_ids nodes))
    (sym (from_first (length nodes) f))
    (by (λ others. kids_some x y nodes (λ i. f (suc i)) (λ i k at. each (suc i) k at) others) (f 0) offsets (each 0 n refl))
  where
    rest : List (Option Laid)
    rest = list_to (length nodes) (λ i. f (suc i))

    by : ((others : List Offset) → Sub (box_ids (kids_at x y others (map placed (somes rest)))) (flat_map flow_ids nodes)) → (slot : Option Laid) (others : List Offset) → IfSome slot (HasIds (flow_ids n))
        → Sub (box_ids (kids_at x y others (map placed (somes (slot ∷ rest))))) (flow_ids n ++ flat_map flow_ids nodes)
    by more None others h = sub_append [] (box_ids (kids_at x y others (map placed (somes rest)))) (flow_ids n) (flat_map flow_ids nodes) (sub_none (flow_ids n)) (more others)
    by more (Some l) [] h = sub_none (flow_ids n ++ flat_map flow_ids nodes)
    by more (Some l) (offset ∷ others) h =
        subst (λ (ids : List ℕ). Sub ids (flow_ids n ++ flat_map flow_ids nodes))
        (sym (boxes_append (placed l (x +ℤ offset.x) (y +ℤ offset.y)) (kids_at x y others (map placed (somes rest)))))
        (sub_append (box_ids (placed l (x +ℤ offset.x) (y +ℤ offset.y))) (box_ids (kids_at x y others (map placed (somes rest)))) (flow_ids n) (flat_map flow_ids nodes)
        (h (x +ℤ offset.x) (y +ℤ offset.y)) (more others))

module _ (m : MetricsValue) where
  abbrev IsPlacedSome : Node → Type 0
  IsPlacedSome n = (context : Context) → HasIds (flow_ids n) (laid m n context)

  abbrev asks_of : Node → Context → List Question
  asks_of n context = questions m (seen_of n) context (answer_of m n)

  abbrev slots_of : Node → Context → ℕ → Option Laid
  slots_of n context = laid_below m n (asks_of n context)

  kid_some : (n : Node) (context : Context) → AllByRecursion IsPlacedSome (out-Node n).children → Each (flow_nodes n) (slots_of n context)
  kid_some n context below i k at = by (slice_get (flow_nodes n) i) (last_context (asks_of n context) i) at
    where
      by : (found : Option Node) (last : Option Context) → found ≡ Some k
          → IfSome (option_and_then (λ kid. option_map (laid m kid) last) found) (HasIds (flow_ids k))
      by None last e = absurd cc
      by (Some kid) None e = tt
      by (Some kid) (Some asked) e =
          let same : kid ≡ k = same_Some kid k e in
          subst (λ (o : Node). HasIds (flow_ids k) (laid m o asked)) (sym same) (below_holds IsPlacedSome n k i below at asked)

  abbrev made_of : Node → Context → Laid-F Laid
  made_of n context = record { head = (out-Node n).head; outcome = lay m n context; kids = somes (list_to (length (flow_nodes n)) (slots_of n context)) }

  layer_some : (n : Node) (context : Context) → AllByRecursion IsPlacedSome (out-Node n).children → (x y : ℤ)
      → Sub (box_ids (layer_at (made_of n context) x y)) ((out-Node n).head.id.0 ∷ flat_map flow_ids (flow_nodes n))
  unfolding boxes_of
  layer_some n context below x y = by (is_silent (out-Node n).head.kind)
    where
      marks : List PlacedItem
      marks = marks_at x y (lay m n context).marks

      kids : List PlacedItem
      kids = kids_at x y (lay m n context).offsets (map placed (somes (list_to (length (flow_nodes n)) (slots_of n context))))

      by : (silent : Bool) → Sub (box_ids (if silent then [] else box_of (out-Node n).head x y (lay m n context).answer.frame ∷ marks ++ kids)) ((out-Node n).head.id.0 ∷ flat_map flow_ids (flow_nodes n))
      by true = sub_none ((out-Node n).head.id.0 ∷ flat_map flow_ids (flow_nodes n))
      by false =
          sub_head (out-Node n).head.id.0 (box_ids (marks ++ kids)) (flat_map flow_ids (flow_nodes n))
          (subst (λ (ids : List ℕ). Sub ids (flat_map flow_ids (flow_nodes n)))
          (sym (boxes_append marks kids ∙ ap (λ (l : List ℕ). l ++ box_ids kids) (no_boxes x y (lay m n context).marks)))
          (kids_some x y (flow_nodes n) (slots_of n context) (kid_some n context below) (lay m n context).offsets))

  placed_some : (n : Node) → IsPlacedSome n
  placed_some = by_children IsPlacedSome (λ n below context x y.
      subst (λ (items : List PlacedItem). Sub (box_ids items) (flow_ids n))
      (sym (ap (λ (l : Laid). placed l x y) (laid_is m n context) ∙ placed_made (made_of n context) x y))
      (subst (λ (ids : List ℕ). Sub (box_ids (layer_at (made_of n context) x y)) ids) (sym (flow_ids_out n)) (layer_some n context below x y)))

-- ---- the whole page

first_of : (related : ℕ → ℕ → Bool) (boxes : List PlacedBox) → InOrder related (map (λ (box : PlacedBox). box.id.0) boxes) → ComesFirst related boxes
first_of related [] ordered = tt
first_of related (box ∷ boxes) ordered =
    (All-from_recursion (λ (later : PlacedBox). related later.id.0 box.id.0 ≡ false) (box ∷ boxes) (each (box ∷ boxes) ordered.0), first_of related boxes ordered.1)
  where
    each : (others : List PlacedBox) → AllByRecursion (λ later. related later box.id.0 ≡ false) (map (λ (b : PlacedBox). b.id.0) others)
        → AllByRecursion (λ (later : PlacedBox). related later.id.0 box.id.0 ≡ false) others
    each [] all = tt
    each (other ∷ others) all = (all.0, each others all.1)

pub page_in_order : (m : MetricsValue) (tree : TreeValue) → IsWhole tree
    → ComesFirst (inside_in (flow_tree tree.root)) (boxes_of (placed (laid_tree m tree) (pos 0) (pos 0)))
page_in_order m tree whole =
    let root = tree.root in
    let distinct = sub_distinct (flow_ids root) (all_ids 1 root) (flow_is_some root 1) whole.distinct in
    let page = placed (laid_tree m tree) (pos 0) (pos 0) in
    first_of (inside_in (flow_tree root)) (boxes_of page)
    (sub_in_order (inside_in (flow_tree root)) (box_ids page) (flow_ids root)
    (placed_some m root (root_context m (out-Node root).head) (pos 0) (pos 0)) (elements_in_order (flow_tree root) distinct))
