-- Memos agree with a tree again when the same is changed in both.
use Rattle.std.proofs.Common.{◌≡◌, ◌∙◌, inl, inr, refl, sym, ap, subst, ℕ, zero, suc, ◌<◌, ◌≤◌, arith, true, false, true≢false, List, [], ◌∷◌, get_or, insert, length, length-set, map, remove, set, Option, Some, None, slice_get}
use Rattle.std.proofs.lemmas.Option.{get_or_from_slice_get, none-some, same_Some, slice_get-map, slice_get_within}
use Rattle.std.specs.List.{AllByRecursion}
use Rattle.std.specs.Option.{option_and_then, option_map, option_map_or}
use Rattle.splices.proofs.Alike.{Paired, paired_set, paired_spliced}
use Rattle.splices.proofs.Places.{some_at}
use Rattle.splices.specs.Splicing.{spliced}
use Rattle.splices.specs.declared.splice.Splice.{Splice}
use Rattle.font_metrics.specs.Metrics.{MetricsValue}
use Rattle.math_tree.specs.Trees.{node as node_of}
use Rattle.math_tree.specs.declared.node.Head.{Head}
use Rattle.math_tree.specs.declared.node.Node.{Node}
use Rattle.math_tree.specs.declared.node.Node.TheOpen.{Node-F}
use Rattle.math_tree.specs.declared.node.Node.TheViews.{out-Node, out-roll-Node}
use Rattle.tree_edits.specs.Edits.{head_of}
use Rattle.tree_edits.proofs.Children.{children_changed, fits_children}
use Rattle.tree_edits.specs.Paths.{Fits, FitsAt, changed, changed_at, children_of, node_at, splice_of}
use Rattle.tree_edits.specs.declared.change.Change.{Change}
use Rattle.embellished.specs.Facts.{facts}
use Rattle.kept_results.specs.Ends.{all_undone, stripped}
use Rattle.kept_results.specs.Kept.{AreApart, IsMemoOf, StaysBut, is_fresh, is_live}
use Rattle.kept_results.specs.Looking.{own_facts}
use Rattle.kept_results.specs.declared.memo.Entry.{Entry}
use Rattle.kept_results.specs.declared.memo.Memo.{Memo}
use Rattle.kept_results.specs.declared.memo.Memo.TheOpen.{Memo-F}
use Rattle.kept_results.specs.declared.memo.Memo.TheViews.{out-Memo, out-roll-Memo, roll-Memo}
use Rattle.kept_results.proofs.Agreement.{agrees_child, agrees_made}
use Rattle.kept_results.proofs.Counts.{stripped_out, stripped_roll}
use Rattle.kept_results.proofs.Tidying.{none_each, none_made}
use Rattle.kept_results.proofs.Lists.{set_here}
use Rattle.kept_edits.specs.Changed.{changed_memo, renewed, renewed_on, seen_anew, with_below}
use Rattle.kept_edits.specs.Laws.{ChangeLaw, IsReadyFor, IsSame, KnownOn}
use Rattle.kept_edits.specs.declared.change.Renewal.{Renewal}
use Rattle.kept_edits.proofs.Alike.{stay_but}
use Rattle.kept_edits.proofs.Lists.{same_all}

-- ---- no entry is fresh

abbrev pub NoneFresh : List Entry → Type 0
NoneFresh entries = AllByRecursion (λ entry. is_fresh entry ≡ false) entries

pub none_fresh : (entries : List Entry) → all_undone entries ≡ entries → NoneFresh entries
none_fresh entries h = none_each entries (none_made entries h)

pub no_live : (entries : List Entry) (place : ℕ) (entry : Entry) → NoneFresh entries → slice_get entries place ≡ Some entry → is_live true entry ≡ true → ⊥
no_live [] place entry h at live = none-some entry at
no_live (x ∷ entries) zero entry h at live = true≢false (sym live ∙ ap is_fresh (sym (same_Some x entry at)) ∙ h.0)
no_live (x ∷ entries) (suc place) entry h at live = no_live entries place entry h.1 at live

none_apart : (entries : List Entry) → NoneFresh entries → AreApart true entries
none_apart [] h = tt
none_apart (x ∷ entries) h = (λ live. absurd (true≢false (sym live ∙ h.0)), none_apart entries h.1)

-- ---- a memo without fresh entries

abbrev stripped_parts : Memo → Memo-F Memo
stripped_parts memo = record {
  former = (out-Memo memo).former;
  facts = (out-Memo memo).facts;
  entries = all_undone (out-Memo memo).entries;
  below = map stripped (out-Memo memo).below;
}

parts_plain : (memo : Memo) → stripped memo ≡ memo → stripped_parts memo ≡ out-Memo memo
parts_plain memo h = sym (out-roll-Memo (stripped_parts memo)) ∙ ap out-Memo (sym (stripped_out memo) ∙ h)

pub entries_plain : (memo : Memo) → stripped memo ≡ memo → all_undone (out-Memo memo).entries ≡ (out-Memo memo).entries
entries_plain memo h = ap (λ (l : Memo-F Memo). l.entries) (parts_plain memo h)

below_plain : (memo : Memo) (place : ℕ) (kept : Memo) → stripped memo ≡ memo → slice_get (out-Memo memo).below place ≡ Some kept → stripped kept ≡ kept
below_plain memo place kept h at =
    same_Some (stripped kept) kept
    (sym (slice_get-map stripped (out-Memo memo).below place ∙ ap (option_map stripped) at)
    ∙ ap (λ (l : Memo-F Memo). slice_get l.below place) (parts_plain memo h) ∙ at)

-- ---- a marked memo

abbrev pub marked : Memo → Renewal → List Memo → Memo-F Memo
marked memo own below = record {
  former = Some record { facts = own_facts memo; alike_but = own.alike_but };
  facts = own.facts;
  entries = (out-Memo memo).entries;
  below = below;
}

pub marked_is : (memo : Memo) (own : Renewal) (below : List Memo) → with_below (renewed own memo) below ≡ roll-Memo (marked memo own below)
marked_is memo own below =
    ap (λ (l : Memo-F Memo). roll-Memo record { former = l.former; facts = l.facts; entries = l.entries; below = below })
    (out-roll-Memo (marked memo own (out-Memo memo).below))

-- ---- children and their memos

module _ (m : MetricsValue) where
  -- memos that are ready for the elements at their places
  abbrev pub AreReady : List Node → List Memo → Type 0
  AreReady nodes memos = Paired (IsReadyFor m) nodes memos

  pub paired : (node : Node) (memo : Memo) → IsReadyFor m node memo → AreReady (children_of node) (out-Memo memo).below
  paired node memo h = record {
    as_many = (h.agrees.at [] node memo (refl, refl)).as_many;
    each = λ i child kept a b. record { agrees = agrees_child m node memo i child kept h.agrees a b; plain = below_plain memo i kept h.plain b };
  }

  -- the children of an element that is made of parts
  of_parts : (head : Head) (nodes : List Node) (memos : List Memo) → AreReady nodes memos → AreReady (children_of (node_of head nodes)) memos
  of_parts head nodes memos h = subst (λ (l : Node-F Node). AreReady l.children memos) (sym (out-roll-Node record { head = head; children = nodes })) h

  -- they are so again when both are spliced
  pub paired_changed : (node : Node) (memos : List Memo) (change : Change) (other : Splice Memo) → Fits change node → IsSame m change other → AreReady (children_of node) memos
      → AreReady (children_of (changed change node)) (spliced other memos)
  paired_changed node memos change other fits same h =
      subst (λ (nodes : List Node). AreReady nodes (spliced other memos)) (sym (children_changed change node))
      (paired_spliced (IsReadyFor m) (children_of node) memos h (splice_of change) other (fits_children change node fits) same)

  -- ---- where it agrees

  -- its regular entries stay but for a child
  abbrev StayBut : Node → Memo → List Memo → ℕ → Type 0
  StayBut node memo below but = (i : ℕ) (entry : Entry) → slice_get (out-Memo memo).entries i ≡ Some entry → entry.regular ≡ true → StaysBut m node below but entry

  marked_ready : (node : Node) (memo : Memo) (own : Renewal) (below : List Memo) → stripped memo ≡ memo → own.facts ≡ facts node
      → ((but : ℕ) → own.alike_but ≡ Some but → StayBut node memo below but)
      → AreReady (children_of node) below → IsReadyFor m node (with_below (renewed own memo) below)
  marked_ready node memo own below h is alike pairs =
      let layer : Memo-F Memo = marked memo own below in
      let none = none_fresh (out-Memo memo).entries (entries_plain memo h) in
      let here : IsMemoOf m node layer = record {
        facts_are = is;
        as_many = pairs.as_many;
        sound = λ entry has. absurd (no_live (out-Memo memo).entries has.place entry none has.at has.live);
        apart = none_apart (out-Memo memo).entries none;
        stays = λ but is_alike i entry at older regular. alike but is_alike i entry at regular;
      } in
      let agrees = agrees_made m node layer here (λ i child kept a b. (pairs.each i child kept a b).agrees) in
      let all : map stripped below ≡ below = same_all stripped below (λ i kept at.
      let l = pairs.as_many in
      let there = some_at (children_of node) i (omega (arith, slice_get_within below i kept at, l)) in
      (pairs.each i there.0 kept there.1 at).plain) in
      let plain : stripped (roll-Memo layer) ≡ roll-Memo layer =
      stripped_roll layer ∙ (λ i. roll-Memo record { former = layer.former; facts = own.facts; entries = entries_plain memo h i; below = all i }) in
      subst (IsReadyFor m node) (sym (marked_is memo own below)) record { agrees = agrees; plain = plain }

  -- ---- at the end of a path

  abbrev pub after : Change → List ℕ → Node → Node
  after change path node = changed_at (changed change) path node

  pub child_on : (change : Change) (place : ℕ) (path : List ℕ) (found : Option Node) (element : Node) → option_and_then (node_at path) found ≡ Some element → Fits change element
      → (child : Node) × (found ≡ Some child) × FitsAt change path child
  child_on change place path None element at fits = absurd (none-some element at)
  child_on change place path (Some child) element at fits = (child, refl, record { element = element; at = at; fits = fits })

  own_at : (known : List Renewal) (n : ℕ) (own d : Renewal) → slice_get known n ≡ Some own → get_or known n d ≡ own
  own_at known n own d h = get_or_from_slice_get known n own d h

  change_at : (path : List ℕ) (node : Node) (memo : Memo) (change : Change) (other : Splice Memo) (known : List Renewal) → IsReadyFor m node memo → FitsAt change path node
      → IsSame m change other → KnownOn known path (after change path node) memo → IsReadyFor m (after change path node) (changed_memo other known path memo)
  change_at [] node memo change other known h fits same is =
      let fits_here = subst (Fits change) (sym (same_Some node fits.element fits.at)) fits.fits in
      let own_is = own_at known 0 (seen_anew (facts (changed change node))) (seen_anew (own_facts memo)) is in
      marked_ready (changed change node) memo (get_or known 0 (seen_anew (own_facts memo))) (spliced other (out-Memo memo).below) h.plain
      (ap (λ (own : Renewal). own.facts) own_is)
      (λ but alike. absurd (none-some but (ap (λ (own : Renewal). own.alike_but) (sym own_is) ∙ alike)))
      (paired_changed node (out-Memo memo).below change other fits_here same (paired node memo h))
  change_at (place ∷ path) node memo change other known h fits same is =
      let nodes : List Node = children_of node in
      let below : List Memo = (out-Memo memo).below in
      let pairs = paired node memo h in
      let c = child_on change place path (slice_get nodes place) fits.element fits.at fits.fits in
      let child : Node = c.0 in
      let l = pairs.as_many in
      let k = some_at below place (omega (arith, l, slice_get_within nodes place child c.1)) in
      let kept : Memo = k.0 in
      let child' : Node = after change path child in
      let kept' : Memo = changed_memo other known path kept in
      let made : Node = node_of (head_of node) (set nodes place child') in
      let node_is : after change (place ∷ path) node ≡ made =
      ap (λ (o : Option Node). option_map_or (λ z. node_of (head_of node) (set nodes place (after change path z))) o node) c.1 in
      let memo_is : changed_memo other known (place ∷ path) memo ≡ with_below (renewed_on known (place ∷ path) memo) (set below place kept') =
      ap (λ (o : Option Memo). with_below (renewed_on known (place ∷ path) memo) (option_map_or (λ z. set below place (changed_memo other known path z)) o below)) k.1 in
      let known_made = subst (λ (n : Node). KnownOn known (place ∷ path) n memo) node_is is in
      let there : slice_get (out-Node made).children place ≡ Some child' =
      ap (λ (z : Node-F Node). slice_get z.children place) (out-roll-Node record { head = head_of node; children = set nodes place child' }) ∙ set_here nodes place child' child c.1 in
      let ready_child = pairs.each place child kept c.1 k.1 in
      let ready = change_at path child kept change other known ready_child c.2 same (known_made.4 child' kept there k.1) in
      let own_is = own_at known (length (place ∷ path)) known_made.0 (seen_anew (own_facts memo)) known_made.1 in
      let alike : (but : ℕ) → known_made.0.alike_but ≡ Some but → StayBut made memo (set below place kept') but = λ but is_alike.
      let a = known_made.3 but is_alike in
      let same : facts child' ≡ facts child = a.child_is child' kept there k.1 ∙ (ready_child.agrees.at [] child kept (refl, refl)).facts_are in
      subst (StayBut made memo (set below place kept')) (sym a.on_the_way) (stay_but m node memo place child child' kept' h a.unmarked c.1 same) in
      let whole = marked_ready made memo (get_or known (length (place ∷ path)) (seen_anew (own_facts memo))) (set below place kept') h.plain
      (ap (λ (own : Renewal). own.facts) own_is ∙ known_made.2)
      (λ but x. alike but (ap (λ (own : Renewal). own.alike_but) (sym own_is) ∙ x))
      (of_parts (head_of node) (set nodes place child') (set below place kept') (paired_set (IsReadyFor m) nodes below pairs place child' kept' ready)) in
      subst (λ (n : Node). IsReadyFor m n (changed_memo other known (place ∷ path) memo)) (sym node_is)
      (subst (IsReadyFor m made) (sym memo_is) whole)

pub change_law : ChangeLaw
change_law m node memo change other path known h fits same is = change_at m path node memo change other known h fits same is
