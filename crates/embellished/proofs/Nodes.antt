-- The facts of the elements of a tree, and what a view of one shows.
use Rattle.std.proofs.Common.{◌≡◌, ◌∙◌, refl, sym, ap, ℕ, zero, suc, Bool, true, false, not, ◌&&◌, cond, ◌+◌, ◌<◌, ◌≤◌, List, [], ◌∷◌, ◌++◌, length, filter, map, take, get_or, length-take, Some, slice_get, arith}
use Rattle.std.proofs.lemmas.List.{length-map, map-append, take_more, get_or-map}
use Rattle.std.proofs.lemmas.List.Folds.{list_all-map}
use Rattle.std.proofs.lemmas.Option.{none-some, same_Some, slice_get-map, slice_get_read}
use Rattle.std.specs.List.{list_all, position_or_len}
use Rattle.std.specs.Option.{option_map}
use Rattle.math_tree.specs.declared.kind.Kind.{Kind}
use Rattle.math_tree.specs.declared.node.Node.{Node}
use Rattle.math_tree.specs.declared.node.Node.TheFolds.{fold_out-Node}
use Rattle.math_tree.specs.declared.node.Node.TheViews.{out-Node}
use Rattle.embellished.specs.Facts.{facts, facts_over, laid_kind}
use Rattle.embellished.specs.Flow.{flow_by, may_show, shows_each}
use Rattle.embellished.specs.Kinds.{is_annotation, is_multiscripts, is_prescripts_mark, shows_its_first, shows_none}
use Rattle.embellished.specs.Seen.{Child, HasChild, HasKid, IsShown, Kid, KnownChild, children_from, flow_children, kid_of, known_child, laid_child, laid_kid, prescripts_in, seen_of, shown_child}
use Rattle.embellished.specs.declared.facts.Facts.{Facts}
use Rattle.embellished.specs.declared.node_view.ShownKid.{ShownKid}
use Rattle.embellished.proofs.InFlow.{among, each_in_flow, flow_length, flow_map, kids_are_nodes, known_at, known_flow, laid_known, shown}

-- an element's facts are made of those of its children
pub facts_out : (node : Node) → facts node ≡ facts_over (out-Node node).head (map facts (out-Node node).children)
unfolding facts
facts_out = fold_out-Node Facts (λ layer. facts_over layer.head layer.children)

abbrev below : Node → List Node
below node = (out-Node node).children

pub kinds_mapped : (nodes : List Node) → map laid_kid (map kid_of nodes) ≡ map laid_kind (map facts nodes)
kinds_mapped [] = refl
kinds_mapped (node ∷ nodes) = ap (λ kinds. (facts node).laid ∷ kinds) (kinds_mapped nodes)

-- ---- all children, one after another

abbrev pub known_from : ℕ → List Node → List KnownChild
known_from place nodes = map known_child (children_from place nodes)

one_behind : (place : ℕ) (nodes : List Node) (node : Node)
    → known_from place (nodes ++ node ∷ []) ≡ known_from place nodes ++ known_child (record { place = place + length nodes; node = node }) ∷ []
one_behind place [] node = ap (λ n. known_child (record { place = n; node = node }) ∷ []) (omega arith)
one_behind place (first ∷ nodes) node =
    ap (λ rest. known_child (record { place = place; node = first }) ∷ rest)
    (one_behind (place + 1) nodes node
    ∙ ap (λ n. known_from (place + 1) nodes ++ known_child (record { place = n; node = node }) ∷ []) (omega arith))

as_many : (place : ℕ) (nodes : List Node) → length (children_from place nodes) ≡ length nodes
as_many place [] = refl
as_many place (node ∷ nodes) = omega (arith, as_many (place + 1) nodes)

-- one child more
pub one_kid_more : (made : List ShownKid) (kid : ShownKid) (nodes : List Node) (known : List Facts) (i : ℕ) (node : Node)
    → map shown_child made ≡ known_from 0 (take i nodes) → known ≡ map facts nodes → i < length nodes
    → node ≡ get_or nodes i node → kid.node.now ≡ node → kid.place ≡ i → kid.facts ≡ get_or known i kid.facts
    → map shown_child (made ++ kid ∷ []) ≡ known_from 0 (take (i + 1) nodes)
one_kid_more made kid nodes known i node before are within is n p f =
    let f' : kid.facts ≡ facts node = f ∙ ap (λ l. get_or l i kid.facts) are ∙ get_or-map facts nodes i node kid.facts within ∙ ap facts (sym is) in
    let count : i ≡ 0 + length (take i nodes) = omega (arith, within, length-take i nodes) in
    let child : Child = record { place = 0 + length (take i nodes); node = node } in
    let same : shown_child kid ≡ known_child child =
    ap (λ m. record { child = record { place = m; node = kid.node.now }; facts = kid.facts }) (p ∙ count)
    ∙ ap (λ m. record { child = record { place = 0 + length (take i nodes); node = m }; facts = kid.facts }) n
    ∙ ap (λ m. record { child = child; facts = m }) f' in
    let next : take (i + 1) nodes ≡ take i nodes ++ node ∷ [] = take_more nodes i node within ∙ ap (λ k. take i nodes ++ k ∷ []) (sym is) in
    map-append shown_child made (kid ∷ [])
    ∙ ap (λ kids. kids ++ shown_child kid ∷ []) before
    ∙ ap (λ k. known_from 0 (take i nodes) ++ k ∷ []) same
    ∙ sym (ap (known_from 0) next ∙ one_behind 0 (take i nodes) node)

-- ---- what a view shows

shown_count : (node : Node) → length (seen_of node).kids ≡ length (flow_children node)
shown_count node =
    ap length (kids_are_nodes node) ∙ length-map (map (λ (c : Child). c.node) (flow_children node)) kid_of
    ∙ length-map (flow_children node) (λ (c : Child). c.node)

abbrev pub laid_shown : ShownKid → Kind
laid_shown kid = kid.facts.laid

module _ (node : Node) (own : Facts) (known : List Facts) (all kids : List ShownKid) (place : ℕ)
    (o : own ≡ facts node) (are : known ≡ map facts (below node))
    (a : map shown_child all ≡ known_from 0 (below node)) (s : kids ≡ flow_by laid_shown own.laid all)
    (p : place ≡ prescripts_in own.laid (map laid_kind known) (length kids)) where
  children_are : map known_child (flow_children node) ≡ map shown_child kids
  unfolding flow_children
  children_are =
      known_flow (facts node).laid (children_from 0 (below node))
      ∙ ap (flow_by laid_known (facts node).laid) (sym a)
      ∙ ap (λ (m : Facts). flow_by laid_known m.laid (map shown_child all)) (sym o)
      ∙ sym (flow_map shown_child laid_known own.laid all) ∙ ap (map shown_child) (sym s)

  count : length (seen_of node).kids ≡ length kids
  count =
      shown_count node ∙ sym (length-map (flow_children node) known_child) ∙ ap length children_are ∙ length-map kids shown_child

  place_is : (seen_of node).prescripts ≡ place
  unfolding seen_of
  place_is =
      ap (prescripts_in (facts node).laid (map laid_kid (map kid_of (below node)))) count
      ∙ ap (λ (m : Facts). prescripts_in m.laid (map laid_kid (map kid_of (below node))) (length kids)) (sym o)
      ∙ ap (λ kinds. prescripts_in own.laid kinds (length kids)) (kinds_mapped (below node) ∙ ap (map laid_kind) (sym are))
      ∙ sym p

  pub shows : IsShown node own (map shown_child kids) place
  unfolding seen_of
  shows = record { facts_are = sym o; children_are = children_are; prescripts_are = place_is }

-- where all children are in flow, a view keeps just what they are
module _ (node : Node) (own : Facts) (known : List Facts)
    (o : own ≡ facts node) (are : known ≡ map facts (below node)) (each : shows_each laid_kind own.laid known ≡ true) where
  facts_from : (place : ℕ) (nodes : List Node) → map (λ (c : Child). facts c.node) (children_from place nodes) ≡ map facts nodes
  facts_from place [] = refl
  facts_from place (n ∷ nodes) = ap (λ list. facts n ∷ list) (facts_from (place + 1) nodes)

  each_child : shows_each laid_child own.laid (children_from 0 (below node)) ≡ true
  each_child =
      ap (λ b. not (shows_none own.laid) && not (shows_its_first own.laid) && not (is_multiscripts own.laid) && b)
      (sym (list_all-map (λ (f : Facts). may_show own.laid f.laid) (λ (c : Child). facts c.node) (children_from 0 (below node)))
      ∙ ap (list_all (λ (f : Facts). may_show own.laid f.laid)) (facts_from 0 (below node) ∙ sym are))
      ∙ each

  whole : flow_children node ≡ children_from 0 (below node)
  unfolding flow_children
  whole =
      ap (λ (m : Facts). flow_by laid_child m.laid (children_from 0 (below node))) (sym o)
      ∙ each_in_flow laid_child own.laid (children_from 0 (below node)) each_child

  count_each : length (seen_of node).kids ≡ length known
  count_each = shown_count node ∙ ap length whole ∙ as_many 0 (below node) ∙ sym (length-map (below node) facts) ∙ ap length (sym are)

  no_marks : (none first marks all : Bool) → (not none && not first && not marks && all) ≡ true → marks ≡ false
  no_marks true first marks all h = cc
  no_marks false true marks all h = cc
  no_marks false false true all h = cc
  no_marks false false false all h = refl

  abbrev marks_place : List Kind → ℕ
  marks_place kinds = position_or_len is_prescripts_mark (filter (λ kid. not (is_annotation kid)) kinds)

  place_each : (seen_of node).prescripts ≡ length known
  unfolding seen_of
  place_each =
      ap (λ (m : Facts). prescripts_in m.laid (map laid_kid (map kid_of (below node))) (length (seen_of node).kids)) (sym o)
      ∙ ap (λ b. cond b (marks_place (map laid_kid (map kid_of (below node)))) (length (seen_of node).kids))
      (no_marks (shows_none own.laid) (shows_its_first own.laid) (is_multiscripts own.laid) (list_all (λ (f : Facts). may_show own.laid f.laid) known) each)
      ∙ count_each

  pub shows_all : IsShown node own (map known_child (children_from 0 (below node))) (length known)
  unfolding seen_of
  shows_all = record { facts_are = sym o; children_are = ap (map known_child) whole; prescripts_are = place_each }

-- the child that a view shows at an index
module _ (node : Node) (own : Facts) (kept : List KnownChild) (place index : ℕ) (kid : KnownChild)
    (shows : IsShown node own kept place) (is : slice_get kept index ≡ Some kid) where
  known : (slice_get (flow_children node) index ≡ Some kid.child) × (facts kid.child.node ≡ kid.facts)
  known = known_at (flow_children node) index kid (ap (λ list. slice_get list index) shows.children_are ∙ is)

  pub child_at : (P : Child → Type 0) → P kid.child → HasChild node index P
  child_at P holds = record {
    child = kid.child;
    in_flow = known.0;
    among = among node index kid.child known.0;
    shown = shown node index kid.child known.0;
    holds = holds;
  }

  pub kid_at : (P : Kid → Type 0) → P (record { head = (out-Node kid.child.node).head; facts = kid.facts }) → HasKid (seen_of node) index P
  kid_at P holds =
      let same = ap (λ f. Some (record { head = (out-Node kid.child.node).head; facts = f })) known.1 in
      record {
        kid = record { head = (out-Node kid.child.node).head; facts = kid.facts };
        at = shown node index kid.child known.0 ∙ same;
        holds = holds;
      }

-- it is one that is listed, or one of all children
pub listed_at : (items : List ShownKid) (index : ℕ) (kid : ShownKid) → index < length items → kid ≡ get_or items index kid
    → slice_get (map shown_child items) index ≡ Some (shown_child kid)
listed_at items index kid within is =
    slice_get-map shown_child items index ∙ ap (option_map shown_child) (slice_get_read items (length items) index kid refl within is)

at_from : (place index : ℕ) (nodes : List Node) (node : Node) → slice_get nodes index ≡ Some node
    → slice_get (known_from place nodes) index ≡ Some (known_child (record { place = place + index; node = node }))
at_from place index [] node is = absurd (none-some node is)
at_from place zero (first ∷ nodes) node is =
    ap (λ n. Some (known_child (record { place = place; node = n }))) (same_Some first node is)
    ∙ ap (λ p. Some (known_child (record { place = p; node = node }))) (omega arith)
at_from place (suc index) (first ∷ nodes) node is =
    at_from (place + 1) index nodes node is ∙ ap (λ p. Some (known_child (record { place = p; node = node }))) (omega arith)

pub each_at : (nodes : List Node) (index : ℕ) (node : Node) → index < length nodes → node ≡ get_or nodes index node
    → slice_get (known_from 0 nodes) index ≡ Some (known_child (record { place = index; node = node }))
each_at nodes index node within is =
    at_from 0 index nodes node (slice_get_read nodes (length nodes) index node refl within is)
    ∙ ap (λ p. Some (known_child (record { place = p; node = node }))) (omega arith)

-- a view shows as many as it keeps
pub kept_count : (node : Node) (own : Facts) (kept : List KnownChild) (place : ℕ) → IsShown node own kept place
    → length (seen_of node).kids ≡ length kept
kept_count node own kept place shows =
    shown_count node ∙ sym (length-map (flow_children node) known_child) ∙ ap length shows.children_are

pub each_count : (nodes : List Node) → length (known_from 0 nodes) ≡ length nodes
each_count nodes = length-map (children_from 0 nodes) known_child ∙ as_many 0 nodes

pub few_in_flow : (node : Node) → length (below node) ≤ 65535 → length (flow_children node) ≤ 65535
unfolding flow_children
few_in_flow node few =
    omega (arith, flow_length laid_child (facts node).laid (children_from 0 (below node)), as_many 0 (below node), few)
