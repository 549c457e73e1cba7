-- What a view of an element shows that has all its children in flow.
use Rattle.std.proofs.Common.{◌≡◌, ◌∙◌, refl, sym, ap, ℕ, zero, suc, ◌+◌, ◌<◌, arith, List, [], ◌∷◌, get_or, length, map, Some, slice_get}
use Rattle.std.proofs.lemmas.List.{length-map}
use Rattle.std.proofs.lemmas.Option.{none-some, same_Some, slice_get-map, slice_get_read}
use Rattle.std.specs.Option.{option_map}
use Rattle.math_tree.specs.declared.node.Node.{Node}
use Rattle.math_tree.specs.declared.node.Node.TheViews.{out-Node}
use Rattle.embellished.specs.Facts.{facts}
use Rattle.embellished.specs.Seen.{Child, HasKid, Kid, children_from, flow_children, flow_nodes, kid_of, seen_of}
use Rattle.embellished.specs.declared.facts.Facts.{Facts}
use Rattle.embellished.proofs.InFlow.{kids_are_nodes}
use Rattle.kept_results.specs.Looking.{own_facts}
use Rattle.kept_results.specs.Regular.{AllInFlow, IsShownBy}
use Rattle.kept_results.specs.declared.memo.Memo.{Memo}
use Rattle.kept_results.specs.declared.memo.Memo.TheViews.{out-Memo}

-- ---- items of a list

pub there_is : {A : Type 0} (xs : List A) (i : ℕ) → i < length xs → (x : A) × (slice_get xs i ≡ Some x)
there_is [] i w = absurd (omega (arith, w))
there_is (x ∷ xs) zero w = (x, refl)
there_is (x ∷ xs) (suc i) w = there_is xs i (omega (arith, w))

-- one that was read
pub read_at : {A : Type 0} (list xs : List A) (i : ℕ) (x : A) → list ≡ xs → i < length xs → x ≡ get_or list i x → slice_get xs i ≡ Some x
read_at list xs i x e w is = slice_get_read xs (length xs) i x refl w (is ∙ ap (λ (l : List _). get_or l i x) e)

-- ---- all children

nodes_from : (place : ℕ) (nodes : List Node) → map (λ child. child.node) (children_from place nodes) ≡ nodes
nodes_from place [] = refl
nodes_from place (node ∷ nodes) = ap (λ rest. node ∷ rest) (nodes_from (place + 1) nodes)

child_from : (place : ℕ) (nodes : List Node) (i : ℕ) (node : Node) → slice_get nodes i ≡ Some node
    → slice_get (children_from place nodes) i ≡ Some record { place = place + i; node = node }
child_from place [] i node h = absurd (none-some node h)
child_from place (x ∷ nodes) zero node h =
    let here : place ≡ place + 0 = omega arith in
    ap (λ (p : ℕ). Some record { place = p; node = x }) here ∙ ap (λ (n : Node). Some record { place = place + 0; node = n }) (same_Some x node h)
child_from place (x ∷ nodes) (suc i) node h =
    let there : place + 1 + i ≡ place + suc i = omega arith in
    child_from (place + 1) nodes i node h ∙ ap (λ (p : ℕ). Some record { place = p; node = node }) there

-- the child in flow at a place is the one there, where all are in flow
pub flow_at : (node : Node) (i : ℕ) (child : Node) → AllInFlow node → slice_get (out-Node node).children i ≡ Some child
    → slice_get (flow_children node) i ≡ Some record { place = i; node = child }
flow_at node i child all at =
    let same : 0 + i ≡ i = omega arith in
    ap (λ (l : List Child). slice_get l i) all ∙ child_from 0 (out-Node node).children i child at ∙ ap (λ (p : ℕ). Some record { place = p; node = child }) same

pub nodes_all : (node : Node) → AllInFlow node → flow_nodes node ≡ (out-Node node).children
nodes_all node all = ap (map (λ (c : Child). c.node)) all ∙ nodes_from 0 (out-Node node).children

pub kids_all : (node : Node) → AllInFlow node → (seen_of node).kids ≡ map kid_of (out-Node node).children
kids_all node all = kids_are_nodes node ∙ ap (map kid_of) (nodes_all node all)

pub as_many_kids : (node : Node) → AllInFlow node → length (seen_of node).kids ≡ length (out-Node node).children
as_many_kids node all = ap length (kids_all node all) ∙ length-map (out-Node node).children kid_of

pub head_seen : (node : Node) → (seen_of node).head ≡ (out-Node node).head
unfolding seen_of
head_seen node = refl

pub facts_seen : (node : Node) → (seen_of node).facts ≡ facts node
unfolding seen_of
facts_seen node = refl

-- ---- a child

module _ (memo : Memo) (node : Node) (h : IsShownBy memo node) (index : ℕ) (child : Node) (at : slice_get (out-Node node).children index ≡ Some child) where
  pub kid_at : (P : Kid → Type 0) → P (kid_of child) → HasKid (seen_of node) index P
  kid_at P holds = record {
    kid = kid_of child;
    at = ap (λ (l : List Kid). slice_get l index) (kids_all node h.all) ∙ slice_get-map kid_of (out-Node node).children index ∙ ap (option_map kid_of) at;
    holds = holds;
  }

  pub facts_at : (below : Memo) → slice_get (out-Memo memo).below index ≡ Some below → own_facts below ≡ facts child
  facts_at below there =
      same_Some (own_facts below) (facts child)
      (sym (slice_get-map own_facts (out-Memo memo).below index ∙ ap (option_map own_facts) there)
      ∙ ap (λ (l : List Facts). slice_get l index) h.kids
      ∙ slice_get-map facts (out-Node node).children index ∙ ap (option_map facts) at)
