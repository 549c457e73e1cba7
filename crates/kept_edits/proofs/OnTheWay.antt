-- What the elements on the way to a changed one are.
use Rattle.std.proofs.Common.{◌≡◌, ◌∙◌, refl, sym, ap, subst, ℕ, ◌+◌, ◌-◌, arith, false, List, [], ◌∷◌, ◌++◌, drop, get_or, length, length-append, map, set, take, Option, Some, slice_get}
use Rattle.std.proofs.lemmas.List.{map-set, take_all}
use Rattle.std.proofs.lemmas.Option.{get_or_from_slice_get, none-some, same_Some, slice_get_within}
use Rattle.std.specs.Option.{option_map_or}
use Rattle.splices.proofs.Places.{some_at}
use Rattle.splices.specs.Splicing.{spliced}
use Rattle.splices.specs.declared.splice.Splice.{Splice}
use Rattle.font_metrics.specs.Metrics.{MetricsValue}
use Rattle.math_tree.specs.Trees.{node as node_of}
use Rattle.math_tree.specs.declared.node.Node.{Node}
use Rattle.math_tree.specs.declared.node.Node.TheOpen.{Node-F}
use Rattle.math_tree.specs.declared.node.Node.TheViews.{out-Node, out-roll-Node}
use Rattle.tree_edits.specs.Edits.{head_of}
use Rattle.tree_edits.specs.Paths.{Fits, FitsAt, changed, changed_at, children_of}
use Rattle.tree_edits.specs.declared.change.Change.{Change}
use Rattle.embellished.specs.Facts.{facts, facts_over}
use Rattle.embellished.specs.declared.facts.Facts.{Facts}
use Rattle.embellished.proofs.Nodes.{facts_out}
use Rattle.kept_results.specs.Kept.{is_marked}
use Rattle.kept_results.specs.Looking.{own_facts}
use Rattle.kept_results.specs.declared.memo.Memo.{Memo}
use Rattle.kept_results.specs.declared.memo.Memo.TheViews.{out-Memo}
use Rattle.kept_results.proofs.Lists.{pushed, set_here, still_first}
use Rattle.kept_results.proofs.Turns.{facts_known}
use Rattle.kept_edits.specs.Changed.{seen_anew}
use Rattle.kept_edits.specs.Known.{BesideLaw, IsBeside, IsKnownOn}
use Rattle.kept_edits.specs.Laws.{IsSeenAsBefore, IsReadyFor, IsSame, KnownOn}
use Rattle.kept_edits.specs.declared.change.Renewal.{Renewal}
use Rattle.kept_edits.proofs.Alike.{map_same}
use Rattle.kept_edits.proofs.Changing.{AreReady, child_on, paired, paired_changed}
use Rattle.kept_edits.proofs.Lists.{mapped_same}

-- ---- one element more is known

still_on : (known more : List Renewal) (path : List ℕ) (node : Node) (memo : Memo) → KnownOn known path node memo → KnownOn (known ++ more) path node memo
still_on known more [] node memo h = still_first known more 0 (seen_anew (facts node)) h
still_on known more (place ∷ path) node memo h = (
  h.0,
  still_first known more (length (place ∷ path)) h.0 h.1,
  h.2,
  h.3,
  λ child kept at memo_at. still_on known more path child kept (h.4 child kept at memo_at),
)

pub known_here : (node : Node) (memo : Memo) (known before : List Renewal) (path : List ℕ) → length path ≡ 0 → before ≡ [] → known ≡ before ++ seen_anew (facts node) ∷ []
    → IsKnownOn path node memo known
known_here node memo known before [] z b e =
    let is : known ≡ seen_anew (facts node) ∷ [] = e ∙ ap (λ (l : List Renewal). l ++ seen_anew (facts node) ∷ []) b in
    record { on = ap (λ (l : List Renewal). slice_get l 0) is; as_many = ap length is }
known_here node memo known before (place ∷ path) z b e = absurd (omega (arith, z))

-- what an element on the way is, over what is known of the child there
pub record IsOwn (node : Node) (memo : Memo) (place : ℕ) (own : Renewal) : Type 0 where
  pub facts_are : own.facts ≡ facts node
  pub alike : (but : ℕ) → own.alike_but ≡ Some but → IsSeenAsBefore but place node memo

further_on : (node child : Node) (memo kept : Memo) (known before : List Renewal) (own : Renewal) (place : ℕ) (path : List ℕ) → slice_get (out-Node node).children place ≡ Some child
    → slice_get (out-Memo memo).below place ≡ Some kept → IsKnownOn path child kept before → IsOwn node memo place own → known ≡ before ++ own ∷ []
    → IsKnownOn (place ∷ path) node memo known
further_on node child memo kept known before own place path at memo_at h is e =
    let n : length before ≡ length (place ∷ path) = omega (arith, h.as_many) in
    record {
      on = (
        own,
        ap (λ (l : List Renewal). slice_get l (length (place ∷ path))) e ∙ ap (slice_get (before ++ own ∷ [])) (sym n) ∙ pushed before own,
        is.facts_are,
        is.alike,
        λ other beside there memo_there.
            subst (λ (c : Node). KnownOn known path c beside) (same_Some child other (sym at ∙ there))
            (subst (KnownOn known path child) (same_Some kept beside (sym memo_at ∙ memo_there))
            (subst (λ (l : List Renewal). KnownOn l path child kept) (sym e) (still_on before (own ∷ []) path child kept h.on))),
      );
      as_many = let a = h.as_many in let b = ap length e in let c = length-append before (own ∷ []) in omega (arith, a, b, c);
    }

abbrev rest_of : List ℕ → List ℕ
rest_of path = take (length path - 1) (drop 1 path)

split : (path : List ℕ) → (length path ≡ 0 → ⊥) → path ≡ get_or path 0 0 ∷ take (length path - 1) (drop 1 path)
split [] h = absurd (h refl)
split (place ∷ path) h = ap (λ (l : List ℕ). place ∷ l) (sym (take_all (length (place ∷ path) - 1) path (omega arith)))

pub known_further : (node child : Node) (memo kept : Memo) (known before : List Renewal) (own : Renewal) (path : List ℕ) → (length path ≡ 0 → ⊥)
    → slice_get (out-Node node).children (get_or path 0 0) ≡ Some child → slice_get (out-Memo memo).below (get_or path 0 0) ≡ Some kept
    → IsKnownOn (take (length path - 1) (drop 1 path)) child kept before → IsOwn node memo (get_or path 0 0) own
    → known ≡ before ++ own ∷ [] → IsKnownOn path node memo known
known_further node child memo kept known before own path some at memo_at h is e =
    subst (λ (p : List ℕ). IsKnownOn p node memo known) (sym (split path some)) (further_on node child memo kept known before own (get_or path 0 0) (rest_of path) at memo_at h is e)

-- that of an element of which layout may see something else
pub own_anew : (node : Node) (memo : Memo) (place : ℕ) → IsOwn node memo place (seen_anew (facts node))
own_anew node memo place = record { facts_are = refl; alike = λ but h. absurd (none-some but h) }

-- that of one of which it sees the same, but for the child on the way
pub own_alike : (node child : Node) (memo kept : Memo) (place : ℕ) (own : Renewal) → is_marked (out-Memo memo) ≡ false
    → slice_get (out-Node node).children place ≡ Some child → slice_get (out-Memo memo).below place ≡ Some kept
    → facts child ≡ own_facts kept → (facts child ≡ own_facts kept → facts node ≡ own_facts memo) → own.facts ≡ own_facts memo → own.alike_but ≡ Some place
    → IsOwn node memo place own
own_alike node child memo kept place own unmarked at memo_at same all is but_is =
    record {
      facts_are = is ∙ sym (all same);
      alike = λ but h. record {
        on_the_way = same_Some but place (sym h ∙ but_is);
        unmarked = unmarked;
        child_is = λ other beside there memo_there.
            ap facts (same_Some other child (sym there ∙ at)) ∙ same ∙ ap own_facts (same_Some kept beside (sym memo_at ∙ memo_there));
      };
    }

-- the child on the way
pub record IsBesideFurther (splice : Splice Memo) (path : List ℕ) (node : Node) (memo : Memo) : Type 0 where
  pub child : Node
  pub kept : Memo
  pub at : slice_get (out-Node node).children (get_or path 0 0) ≡ Some child
  pub memo_at : slice_get (out-Memo memo).below (get_or path 0 0) ≡ Some kept
  pub kids : set (map own_facts (out-Memo memo).below) (get_or path 0 0) (facts child) ≡ map facts (out-Node node).children
  pub same : facts child ≡ own_facts kept → facts node ≡ own_facts memo
  pub beside : IsBeside splice (take (length path - 1) (drop 1 path)) child kept

pub beside_further : (splice : Splice Memo) (path : List ℕ) (node : Node) (memo : Memo) → (length path ≡ 0 → ⊥) → IsBeside splice path node memo → IsBesideFurther splice path node memo
beside_further splice path node memo some h =
    let b = subst (λ (p : List ℕ). IsBeside splice p node memo) (split path some) h in
    record { child = b.0; kept = b.1; at = b.2; memo_at = b.3; kids = b.4; same = b.5; beside = b.6 }

pub beside_here : (splice : Splice Memo) (path : List ℕ) (node : Node) (memo : Memo) → length path ≡ 0 → IsBeside splice path node memo
    → map own_facts (spliced splice (out-Memo memo).below) ≡ map facts (out-Node node).children
beside_here splice [] node memo z h = h
beside_here splice (place ∷ path) node memo z h = absurd (omega (arith, z))

-- ---- what is known of the child on the way stands last

own_last : (known : List Renewal) (path : List ℕ) (node : Node) (memo : Memo) (d : Renewal) → KnownOn known path node memo → (get_or known (length path) d).facts ≡ facts node
own_last known [] node memo d h = ap (λ (own : Renewal). own.facts) (get_or_from_slice_get known 0 (seen_anew (facts node)) d h)
own_last known (place ∷ path) node memo d h = ap (λ (own : Renewal). own.facts) (get_or_from_slice_get known (length (place ∷ path)) h.0 d h.1) ∙ h.2

pub last_known : (known : List Renewal) (path : List ℕ) (child : Node) (kept : Memo) (d : Renewal) → (length path ≡ 0 → ⊥) → IsKnownOn (take (length path - 1) (drop 1 path)) child kept known
    → (get_or known (length path - 1) d).facts ≡ facts child
last_known known path child kept d some h =
    let n : length path ≡ length (rest_of path) + 1 = omega (arith, ap length (split path some)) in
    let m : length path - 1 ≡ length (rest_of path) = omega (arith, n) in
    ap (λ i. (get_or known i d).facts) m ∙ own_last known (rest_of path) child kept d h.on

-- the same, where the list was read
pub last_read : (list known : List Renewal) (path : List ℕ) (child other : Node) (kept : Memo) (d : Renewal) → (length path ≡ 0 → ⊥) → list ≡ known
    → IsKnownOn (take (length path - 1) (drop 1 path)) other kept known → child ≡ other → (get_or list (length path - 1) d).facts ≡ facts child
last_read list known path child other kept d some l h same =
    ap (λ (k : List Renewal). (get_or k (length path - 1) d).facts) l ∙ last_known known path other kept d some h ∙ ap facts (sym same)

-- the children of an element on the way are known, when that on the way is
pub kids_are : (kids : List Facts) (list known : List Renewal) (below : List Memo) (node child other : Node) (kept : Memo) (path : List ℕ) (d : Renewal) → (length path ≡ 0 → ⊥)
    → kids ≡ set (map own_facts below) (get_or path 0 0) (get_or list (length path - 1) d).facts → list ≡ known
    → IsKnownOn (take (length path - 1) (drop 1 path)) other kept known → child ≡ other
    → set (map own_facts below) (get_or path 0 0) (facts child) ≡ map facts (out-Node node).children → kids ≡ map facts (out-Node node).children
kids_are kids list known below node child other kept path d some e l h same all =
    e ∙ ap (set (map own_facts below) (get_or path 0 0)) (last_read list known path child other kept d some l h same) ∙ all

-- ---- memos that agree with the tree before

module _ (m : MetricsValue) where
  pairs_known : (nodes : List Node) (memos : List Memo) → AreReady m nodes memos → map own_facts memos ≡ map facts nodes
  pairs_known nodes memos h =
      mapped_same own_facts facts memos nodes h.as_many
      (λ i kept child a b. ((h.each i child kept b a).agrees.at [] child kept (refl, refl)).facts_are)

  abbrev after : Change → List ℕ → Node → Node
  after change path node = changed_at (changed change) path node

  beside_at : (path : List ℕ) (node : Node) (memo : Memo) (change : Change) (other : Splice Memo) → IsReadyFor m node memo → FitsAt change path node → IsSame m change other
      → IsBeside other path (after change path node) memo
  beside_at [] node memo change other h fits same =
      let fits_here = subst (Fits change) (sym (same_Some node fits.element fits.at)) fits.fits in
      pairs_known (children_of (changed change node)) (spliced other (out-Memo memo).below)
      (paired_changed m node (out-Memo memo).below change other fits_here same (paired m node memo h))
  beside_at (place ∷ path) node memo change other h fits same =
      let nodes : List Node = children_of node in
      let below : List Memo = (out-Memo memo).below in
      let pairs = paired m node memo h in
      let c = child_on m change place path (slice_get nodes place) fits.element fits.at fits.fits in
      let child : Node = c.0 in
      let l = pairs.as_many in
      let k = some_at below place (omega (arith, l, slice_get_within nodes place child c.1)) in
      let child' : Node = after change path child in
      let made : Node = node_of (head_of node) (set nodes place child') in
      let node_is : after change (place ∷ path) node ≡ made =
      ap (λ (o : Option Node). option_map_or (λ z. node_of (head_of node) (set nodes place (after change path z))) o node) c.1 in
      let out : out-Node made ≡ record { head = head_of node; children = set nodes place child' } = out-roll-Node record { head = head_of node; children = set nodes place child' } in
      let there : slice_get (out-Node made).children place ≡ Some child' =
      ap (λ (z : Node-F Node). slice_get z.children place) out ∙ set_here nodes place child' child c.1 in
      let kids : set (map own_facts below) place (facts child') ≡ map facts (out-Node made).children =
      ap (λ (f : List Facts). set f place (facts child')) (facts_known m node memo h.agrees) ∙ sym (map-set facts nodes place child')
      ∙ ap (λ (z : Node-F Node). map facts z.children) (sym out) in
      let child_own = (pairs.each place child k.0 c.1 k.1).agrees.at [] child k.0 (refl, refl) in
      let stays : facts child' ≡ own_facts k.0 → facts made ≡ own_facts memo = λ e.
      facts_out made ∙ ap (λ (z : Node-F Node). facts_over z.head (map facts z.children)) out
      ∙ ap (facts_over (head_of node)) (map_same facts nodes place child child' c.1 (e ∙ child_own.facts_are))
      ∙ sym (facts_out node) ∙ sym (h.agrees.at [] node memo (refl, refl)).facts_are in
      let rest = beside_at path child k.0 change other (pairs.each place child k.0 c.1 k.1) c.2 same in
      subst (λ (n : Node). IsBeside other (place ∷ path) n memo) (sym node_is) (child', k.0, there, k.1, kids, stays, rest)

pub beside_law : BesideLaw
beside_law m node memo change other path h fits same = beside_at m path node memo change other h fits same
