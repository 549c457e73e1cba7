-- The runs of kept layouts have those of a changed memo too: what is marked keeps older entries alone.
use Rattle.std.proofs.Common.{◌≡◌, ◌∙◌, refl, sym, ap, subst, ℕ, zero, suc, arith, List, [], ◌∷◌, get_or, length, map, set, Option, Some, None, slice_get}
use Rattle.std.proofs.lemmas.Option.{none-some, same_Some, slice_get_within}
use Rattle.std.specs.List.{AllByRecursion}
use Rattle.std.specs.Option.{option_map_or}
use Rattle.splices.proofs.Alike.{Paired, paired_set, paired_spliced}
use Rattle.splices.proofs.Places.{some_at}
use Rattle.splices.specs.Splicing.{IsAlike, spliced}
use Rattle.splices.specs.declared.splice.Splice.{Splice}
use Rattle.font_metrics.specs.Metrics.{MetricsValue}
use Rattle.math_tree.specs.Trees.{node as node_of}
use Rattle.math_tree.specs.declared.node.Head.{Head}
use Rattle.math_tree.specs.declared.node.Node.{Node}
use Rattle.math_tree.specs.declared.node.Node.TheOpen.{Node-F}
use Rattle.math_tree.specs.declared.node.Node.TheViews.{out-Node, out-roll-Node}
use Rattle.math_tree.proofs.Nodes.{by_children}
use Rattle.tree_edits.specs.Edits.{head_of}
use Rattle.tree_edits.proofs.Children.{children_changed, fits_children}
use Rattle.tree_edits.specs.Paths.{Fits, FitsAt, changed, children_of, splice_of}
use Rattle.tree_edits.specs.declared.change.Change.{Change}
use Rattle.embellished.specs.Facts.{facts_over}
use Rattle.outcome_cells.specs.Store.{Runs}
use Rattle.kept_results.specs.Backed.{HaveOwnRuns, IsBacked}
use Rattle.kept_results.specs.Ends.{stripped}
use Rattle.kept_results.specs.Kept.{Agrees, Holds, HoldsIn}
use Rattle.kept_results.specs.Looking.{own_facts}
use Rattle.kept_results.specs.declared.memo.Entry.{Entry}
use Rattle.kept_results.specs.declared.memo.Memo.{Memo}
use Rattle.kept_results.specs.declared.memo.Memo.TheOpen.{Memo-F}
use Rattle.kept_results.specs.declared.memo.Memo.TheViews.{out-Memo, out-roll-Memo}
use Rattle.kept_results.proofs.Backed.{backed_child, backed_made}
use Rattle.kept_edits.specs.Blank.{blank}
use Rattle.kept_edits.specs.Changed.{changed_memo, renewed, renewed_on, seen_anew, with_below}
use Rattle.kept_edits.specs.Laws.{BlankBackedLaw, ChangeBackedLaw, IsReadyFor}
use Rattle.kept_edits.specs.declared.change.Renewal.{Renewal}
use Rattle.kept_edits.proofs.Changing.{after, child_on, entries_plain, marked, marked_is, no_live, none_fresh, paired}
use Rattle.kept_edits.proofs.Unlaid.{blank_out}

module _ (m : MetricsValue) (runs : Runs) where
  -- ---- children and their memos

  abbrev AreBackedBy : List Node → List Memo → Type 0
  AreBackedBy nodes memos = Paired (IsBacked m runs) nodes memos

  paired_backed : (node : Node) (memo : Memo) → Agrees m node memo → IsBacked m runs node memo → AreBackedBy (children_of node) (out-Memo memo).below
  paired_backed node memo agrees h = record {
    as_many = (agrees.at [] node memo (refl, refl)).as_many;
    each = λ i child kept a b. backed_child m runs node memo i child kept h a b;
  }

  of_parts : (head : Head) (nodes : List Node) (memos : List Memo) → AreBackedBy nodes memos → AreBackedBy (children_of (node_of head nodes)) memos
  of_parts head nodes memos h = subst (λ (l : Node-F Node). AreBackedBy l.children memos) (sym (out-roll-Node record { head = head; children = nodes })) h

  paired_spliced_too : (node : Node) (memos : List Memo) (change : Change) (other : Splice Memo) → Fits change node → IsAlike (IsBacked m runs) (splice_of change) other
      → AreBackedBy (children_of node) memos → AreBackedBy (children_of (changed change node)) (spliced other memos)
  paired_spliced_too node memos change other fits same h =
      subst (λ (nodes : List Node). AreBackedBy nodes (spliced other memos)) (sym (children_changed change node))
      (paired_spliced (IsBacked m runs) (children_of node) memos h (splice_of change) other (fits_children change node fits) same)

  -- ---- at the end of a path

  marked_backed : (node : Node) (memo : Memo) (own : Renewal) (below : List Memo) → stripped memo ≡ memo → AreBackedBy (children_of node) below
      → IsBacked m runs node (with_below (renewed own memo) below)
  marked_backed node memo own below plain pairs =
      let none = none_fresh (out-Memo memo).entries (entries_plain memo plain) in
      subst (IsBacked m runs node) (sym (marked_is memo own below))
      (backed_made m runs node (marked memo own below) (λ entry has. absurd (no_live (out-Memo memo).entries has.place entry none has.at has.live))
      (λ i child kept a b. pairs.each i child kept a b))

  backed_at : (path : List ℕ) (node : Node) (memo : Memo) (change : Change) (other : Splice Memo) (known : List Renewal) → IsReadyFor m node memo → IsBacked m runs node memo
      → FitsAt change path node → IsAlike (IsBacked m runs) (splice_of change) other → IsBacked m runs (after m change path node) (changed_memo other known path memo)
  backed_at [] node memo change other known h backed fits same =
      let fits_here = subst (Fits change) (sym (same_Some node fits.element fits.at)) fits.fits in
      marked_backed (changed change node) memo (get_or known 0 (seen_anew (own_facts memo))) (spliced other (out-Memo memo).below) h.plain
      (paired_spliced_too node (out-Memo memo).below change other fits_here same (paired_backed node memo h.agrees backed))
  backed_at (place ∷ path) node memo change other known h backed fits same =
      let nodes : List Node = children_of node in
      let below : List Memo = (out-Memo memo).below in
      let ready = paired m node memo h in
      let pairs = paired_backed node memo h.agrees backed in
      let c = child_on m change place path (slice_get nodes place) fits.element fits.at fits.fits in
      let child : Node = c.0 in
      let l = pairs.as_many in
      let k = some_at below place (omega (arith, l, slice_get_within nodes place child c.1)) in
      let kept : Memo = k.0 in
      let child' : Node = after m change path child in
      let kept' : Memo = changed_memo other known path kept in
      let made : Node = node_of (head_of node) (set nodes place child') in
      let node_is : after m change (place ∷ path) node ≡ made =
      ap (λ (o : Option Node). option_map_or (λ z. node_of (head_of node) (set nodes place (after m change path z))) o node) c.1 in
      let memo_is : changed_memo other known (place ∷ path) memo ≡ with_below (renewed_on known (place ∷ path) memo) (set below place kept') =
      ap (λ (o : Option Memo). with_below (renewed_on known (place ∷ path) memo) (option_map_or (λ z. set below place (changed_memo other known path z)) o below)) k.1 in
      let there = backed_at path child kept change other known (ready.each place child kept c.1 k.1) (pairs.each place child kept c.1 k.1) c.2 same in
      let whole = marked_backed made memo (get_or known (length (place ∷ path)) (seen_anew (own_facts memo))) (set below place kept') h.plain
      (of_parts (head_of node) (set nodes place child') (set below place kept') (paired_set (IsBacked m runs) nodes below pairs place child' kept' there)) in
      subst (λ (n : Node). IsBacked m runs n (changed_memo other known (place ∷ path) memo)) (sym node_is)
      (subst (IsBacked m runs made) (sym memo_is) whole)

  -- ---- nothing kept

  abbrev IsBlankBacked : Node → Type 0
  IsBlankBacked node = IsBacked m runs node (blank node)

  each_backed : (nodes : List Node) (i : ℕ) (child : Node) (kept : Memo) → AllByRecursion IsBlankBacked nodes → slice_get nodes i ≡ Some child
      → slice_get (map blank nodes) i ≡ Some kept → IsBacked m runs child kept
  each_backed [] i child kept h a b = absurd (none-some child a)
  each_backed (node ∷ nodes) zero child kept h a b =
      subst (IsBacked m runs child) (same_Some (blank node) kept b) (subst (λ (n : Node). IsBacked m runs n (blank node)) (same_Some node child a) h.0)
  each_backed (node ∷ nodes) (suc i) child kept h a b = each_backed nodes i child kept h.1 a b

  blank_over_is : (node : Node) → AllByRecursion IsBlankBacked (out-Node node).children → IsBlankBacked node
  blank_over_is node h =
      let nodes : List Node = (out-Node node).children in
      let layer : Memo-F Memo = record { former = None; facts = facts_over (out-Node node).head (map own_facts (map blank nodes)); entries = []; below = map blank nodes } in
      subst (IsBacked m runs node) (sym (blank_out node))
      (backed_made m runs node layer (λ entry has. absurd (none-some entry has.at)) (λ i child kept a b. each_backed nodes i child kept h a b))

pub change_backed_law : ChangeBackedLaw
change_backed_law m runs node memo change other path known h backed fits same = backed_at m runs path node memo change other known h backed fits same

pub blank_backed_law : BlankBackedLaw
blank_backed_law m runs = by_children (IsBlankBacked m runs) (blank_over_is m runs)

-- ---- and no entry has a run

abbrev blank_layer : Node → Memo-F Memo
blank_layer node = record { former = None; facts = facts_over (out-Node node).head (map own_facts (map blank (out-Node node).children)); entries = []; below = map blank (out-Node node).children }

in_layer : (path : List ℕ) (node : Node) (entry : Entry) → Holds path (blank node) entry → HoldsIn path (blank_layer node) entry
in_layer path node entry held = subst (λ (l : Memo-F Memo). HoldsIn path l entry) (ap out-Memo (blank_out node) ∙ out-roll-Memo (blank_layer node)) held

kid_blank : (nodes : List Node) (place : ℕ) (below : Memo) → slice_get (map blank nodes) place ≡ Some below → (node : Node) × (below ≡ blank node)
kid_blank [] place below at = absurd (none-some below at)
kid_blank (node ∷ nodes) zero below at = (node, sym (same_Some (blank node) below at))
kid_blank (node ∷ nodes) (suc place) below at = kid_blank nodes place below at

pub none_held : (path : List ℕ) (node : Node) (entry : Entry) → Holds path (blank node) entry → ⊥
none_held [] node entry held = none-some entry (in_layer [] node entry held).at
none_held (place ∷ path) node entry held =
    let k = in_layer (place ∷ path) node entry held in
    let c = kid_blank (out-Node node).children place k.0 k.1 in
    none_held path c.0 entry (subst (λ (z : Memo). Holds path z entry) c.1 k.2)

pub blank_own_runs : (node : Node) → HaveOwnRuns (blank node)
blank_own_runs node = record { at = λ path other a b x y same. absurd (none_held path node a x) }
