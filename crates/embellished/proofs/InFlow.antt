-- What is in flow: through a map, and what holds of it where it holds of all children.
use Rattle.std.proofs.Common.{◌≡◌, ◌∙◌, refl, sym, ap, subst, ℕ, ◌+◌, ◌≤◌, Bool, true, false, not, ◌&&◌, cond, List, [], ◌∷◌, ◌++◌, length, map, take, length-take, All, Some, slice_get, arith}
use Rattle.std.proofs.lemmas.List.{append_assoc, length-append, take-map}
use Rattle.std.proofs.lemmas.List.Elements.{All-nil, All-cons, All-filter}
use Rattle.std.proofs.lemmas.Option.{get_or_from_slice_get, slice_get-map, slice_get_within, same_Some}
use Rattle.std.proofs.lemmas.Bool.{and_parts}
use Rattle.std.specs.List.{list_all}
use Rattle.std.specs.Option.{option_map}
use Rattle.math_tree.specs.declared.kind.Kind.{Kind}
use Rattle.math_tree.specs.declared.node.Node.{Node}
use Rattle.math_tree.specs.declared.node.Node.TheViews.{out-Node}
use Rattle.embellished.specs.Facts.{facts}
use Rattle.embellished.specs.Flow.{may_show, shown_by, shows_each, flow_by}
use Rattle.embellished.specs.Kinds.{is_multiscripts, shows_none, shows_its_first}
use Rattle.embellished.specs.Seen.{Child, KnownChild, children_from, flow_children, flow_nodes, kid_of, known_child, laid_child, laid_kid, seen_of}

-- ---- through a map

module _ {A B : Type 0} (f : A → B) (kind_of : B → Kind) where
  abbrev kind_at : A → Kind
  kind_at x = kind_of (f x)

  kept_map : (b : Bool) (x : A) (xs : List A) (ys : List B) → map f xs ≡ ys → map f (cond b (x ∷ xs) xs) ≡ cond b (f x ∷ ys) ys
  kept_map true x xs ys e = ap (λ zs. f x ∷ zs) e
  kept_map false x xs ys e = e

  shown_map : (laid : Kind) (xs : List A) → map f (shown_by kind_at laid xs) ≡ shown_by kind_of laid (map f xs)
  shown_map laid [] = refl
  shown_map laid (x ∷ xs) = kept_map (may_show laid (kind_at x)) x (shown_by kind_at laid xs) (shown_by kind_of laid (map f xs)) (shown_map laid xs)

  chosen_map : (none first : Bool) (xs zs : List A) (ys ws : List B) → map f xs ≡ ys → map f zs ≡ ws
      → map f (cond none [] (cond first xs zs)) ≡ cond none [] (cond first ys ws)
  chosen_map true first xs zs ys ws e g = refl
  chosen_map false true xs zs ys ws e g = e
  chosen_map false false xs zs ys ws e g = g

  pub flow_map : (laid : Kind) (xs : List A) → map f (flow_by kind_at laid xs) ≡ flow_by kind_of laid (map f xs)
  unfolding flow_by
  flow_map laid xs =
      chosen_map (shows_none laid) (shows_its_first laid) (shown_by kind_at laid (take 1 xs)) (shown_by kind_at laid xs)
      (shown_by kind_of laid (take 1 (map f xs))) (shown_by kind_of laid (map f xs))
      (shown_map laid (take 1 xs) ∙ ap (shown_by kind_of laid) (sym (take-map f 1 xs)))
      (shown_map laid xs)

-- ---- what holds of all children

module _ {A : Type 0} (kind_of : A → Kind) (laid : Kind) (P : A → Type 0) where
  first_all : (xs : List A) → All P xs → All P (take 1 xs)
  first_all [] h = h
  first_all (x ∷ xs) h = All-cons P x [] (h 0 x (omega arith)) (All-nil P)

  chosen_all : (none first : Bool) (xs ys : List A) → All P xs → All P ys → All P (cond none [] (cond first xs ys))
  chosen_all true first xs ys h k = All-nil P
  chosen_all false true xs ys h k = h
  chosen_all false false xs ys h k = k

  pub flow_all : (xs : List A) → All P xs → All P (flow_by kind_of laid xs)
  unfolding flow_by
  flow_all xs h =
      let shows : A → Bool = λ x. may_show laid (kind_of x) in
      chosen_all (shows_none laid) (shows_its_first laid) (shown_by kind_of laid (take 1 xs)) (shown_by kind_of laid xs)
      (All-filter shows P (take 1 xs) (first_all xs h)) (All-filter shows P xs h)

-- what holds of all that may be in flow
module _ {A : Type 0} (kind_of : A → Kind) (laid : Kind) (P : A → Type 0)
    (each : (x : A) → may_show laid (kind_of x) ≡ true → P x) where
  kept_pass : (b : Bool) (x : A) (xs : List A) → may_show laid (kind_of x) ≡ b → All P xs → All P (cond b (x ∷ xs) xs)
  kept_pass true x xs e h = All-cons P x xs (each x e) h
  kept_pass false x xs e h = h

  shown_pass : (xs : List A) → All P (shown_by kind_of laid xs)
  shown_pass [] = All-nil P
  shown_pass (x ∷ xs) = kept_pass (may_show laid (kind_of x)) x (shown_by kind_of laid xs) refl (shown_pass xs)

  pub flow_pass : (xs : List A) → All P (flow_by kind_of laid xs)
  unfolding flow_by
  flow_pass xs =
      chosen_all kind_of laid P (shows_none laid) (shows_its_first laid) (shown_by kind_of laid (take 1 xs)) (shown_by kind_of laid xs)
      (shown_pass (take 1 xs)) (shown_pass xs)

-- ---- where each child is in flow

module _ {A : Type 0} (kind_of : A → Kind) (laid : Kind) where
  all_shown : (xs : List A) → list_all (λ x. may_show laid (kind_of x)) xs ≡ true → shown_by kind_of laid xs ≡ xs
  all_shown [] h = refl
  all_shown (x ∷ xs) h =
      let both = and_parts (may_show laid (kind_of x)) (list_all (λ y. may_show laid (kind_of y)) xs) h in
      rw both.0 (ap (λ ys. x ∷ ys) (all_shown xs both.1))

  chosen_each : (none first marks all : Bool) (xs ys zs : List A) → (not none && not first && not marks && all) ≡ true
      → (all ≡ true → zs ≡ xs) → cond none [] (cond first ys zs) ≡ xs
  chosen_each true first marks all xs ys zs h k = cc
  chosen_each false true marks all xs ys zs h k = cc
  chosen_each false false true all xs ys zs h k = cc
  chosen_each false false false all xs ys zs h k = k h

  pub each_in_flow : (xs : List A) → shows_each kind_of laid xs ≡ true → flow_by kind_of laid xs ≡ xs
  unfolding flow_by
  each_in_flow xs h =
      chosen_each (shows_none laid) (shows_its_first laid) (is_multiscripts laid) (list_all (λ x. may_show laid (kind_of x)) xs)
      xs (shown_by kind_of laid (take 1 xs)) (shown_by kind_of laid xs) h (all_shown xs)

-- ---- how many they are

module _ {A : Type 0} (kind_of : A → Kind) (laid : Kind) where
  kept_length : (b : Bool) (x : A) (xs ys : List A) → length xs ≤ length ys → length (cond b (x ∷ xs) xs) ≤ length (x ∷ ys)
  kept_length true x xs ys l = omega (arith, l)
  kept_length false x xs ys l = omega (arith, l)

  shown_length : (xs : List A) → length (shown_by kind_of laid xs) ≤ length xs
  shown_length [] = omega arith
  shown_length (x ∷ xs) = kept_length (may_show laid (kind_of x)) x (shown_by kind_of laid xs) xs (shown_length xs)

  chosen_length : (none first : Bool) (xs ys : List A) (n : ℕ) → length xs ≤ n → length ys ≤ n → length (cond none [] (cond first xs ys)) ≤ n
  chosen_length true first xs ys n l m = omega arith
  chosen_length false true xs ys n l m = l
  chosen_length false false xs ys n l m = m

  pub flow_length : (xs : List A) → length (flow_by kind_of laid xs) ≤ length xs
  unfolding flow_by
  flow_length xs =
      chosen_length (shows_none laid) (shows_its_first laid) (shown_by kind_of laid (take 1 xs)) (shown_by kind_of laid xs) (length xs)
      (omega (arith, shown_length (take 1 xs), length-take 1 xs)) (shown_length xs)

-- ---- the children in flow of an element of a tree

abbrev below : Node → List Node
below node = (out-Node node).children

kids_from : (place : ℕ) (nodes : List Node) → map (λ child. kid_of child.node) (children_from place nodes) ≡ map kid_of nodes
kids_from place [] = refl
kids_from place (node ∷ nodes) = ap (λ kids. kid_of node ∷ kids) (kids_from (place + 1) nodes)

-- a view shows them
kids_are : (node : Node) → (seen_of node).kids ≡ map (λ child. kid_of child.node) (flow_children node)
unfolding seen_of flow_children
kids_are node =
    ap (flow_by laid_kid (facts node).laid) (sym (kids_from 0 (below node)))
    ∙ sym (flow_map (λ (child : Child). kid_of child.node) laid_kid (facts node).laid (children_from 0 (below node)))

nodes_map : (children : List Child) → map (λ child. kid_of child.node) children ≡ map kid_of (map (λ child. child.node) children)
nodes_map [] = refl
nodes_map (child ∷ children) = ap (λ kids. kid_of child.node ∷ kids) (nodes_map children)

pub kids_are_nodes : (node : Node) → (seen_of node).kids ≡ map kid_of (flow_nodes node)
kids_are_nodes node = kids_are node ∙ nodes_map (flow_children node)

-- each is the child at its place
abbrev IsAmong : List Node → Child → Type 0
IsAmong nodes child = slice_get nodes child.place ≡ Some child.node

here : (front : List Node) (node : Node) (back : List Node) → slice_get (front ++ node ∷ back) (length front) ≡ Some node
here [] node back = refl
here (first ∷ front) node back = here front node back

among_from : (front nodes : List Node) → All (IsAmong (front ++ nodes)) (children_from (length front) nodes)
among_from front [] = All-nil (IsAmong (front ++ []))
among_from front (node ∷ nodes) =
    let whole : List Node = front ++ node ∷ nodes in
    let next : (front ++ node ∷ []) ++ nodes ≡ whole = append_assoc front (node ∷ []) nodes in
    let count : length (front ++ node ∷ []) ≡ length front + 1 = omega (arith, length-append front (node ∷ [])) in
    let rest = among_from (front ++ node ∷ []) nodes in
    let rest' = subst (λ list. All (IsAmong list) (children_from (length (front ++ node ∷ [])) nodes)) next rest in
    let rest'' = subst (λ n. All (IsAmong whole) (children_from n nodes)) count rest' in
    All-cons (IsAmong whole) (record { place = length front; node = node }) (children_from (length front + 1) nodes) (here front node nodes) rest''

all_among : (node : Node) → All (IsAmong (below node)) (flow_children node)
unfolding flow_children
all_among node = flow_all laid_child (facts node).laid (IsAmong (below node)) (children_from 0 (below node)) (among_from [] (below node))

pub among : (node : Node) (index : ℕ) (child : Child) → slice_get (flow_children node) index ≡ Some child
    → slice_get (below node) child.place ≡ Some child.node
among node index child at =
    subst (IsAmong (below node)) (get_or_from_slice_get (flow_children node) index child child at)
    (all_among node index child (slice_get_within (flow_children node) index child at))

pub shown : (node : Node) (index : ℕ) (child : Child) → slice_get (flow_children node) index ≡ Some child
    → slice_get (seen_of node).kids index ≡ Some (kid_of child.node)
shown node index child at =
    ap (λ kids. slice_get kids index) (kids_are node)
    ∙ slice_get-map (λ (c : Child). kid_of c.node) (flow_children node) index ∙ ap (option_map (λ c. kid_of c.node)) at

-- ---- children with what is known of them

abbrev pub laid_known : KnownChild → Kind
laid_known known = known.facts.laid

-- the flow of what is known is what is known of the flow
pub known_flow : (laid : Kind) (children : List Child)
    → map known_child (flow_by laid_child laid children) ≡ flow_by laid_known laid (map known_child children)
known_flow laid children = flow_map known_child laid_known laid children

forgotten : (children : List Child) → map (λ known. known.child) (map known_child children) ≡ children
forgotten [] = refl
forgotten (child ∷ children) = ap (λ rest. child ∷ rest) (forgotten children)

-- the child at an index, where it is known
pub known_at : (children : List Child) (index : ℕ) (known : KnownChild) → slice_get (map known_child children) index ≡ Some known
    → (slice_get children index ≡ Some known.child) × (facts known.child.node ≡ known.facts)
known_at children index known at =
    let child : slice_get children index ≡ Some known.child =
    ap (λ list. slice_get list index) (sym (forgotten children))
    ∙ slice_get-map (λ (k : KnownChild). k.child) (map known_child children) index ∙ ap (option_map (λ k. k.child)) at in
    let same = sym (slice_get-map known_child children index ∙ ap (option_map known_child) child) ∙ at in
    (child, ap (λ (k : KnownChild). k.facts) (same_Some (known_child known.child) known same))
