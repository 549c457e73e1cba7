use Rattle.std.proofs.Common.{◌≡◌, ◌∙◌, sym, ap, subst, ℕ, ◌+◌, List, Some, is_some, length}
use Rattle.math_tree.specs.declared.node.Node.{Node}
use Rattle.tree_edits.specs.Paths.{node_at}
use Rattle.kept_edits.specs.Changed.{FitsMemo}
use Rattle.kept_edits.specs.Known.{IsBeside}
use Rattle.splices.specs.declared.splice.Splice.{Splice}
use Rattle.kept_results.specs.declared.memo.Memo.{Memo}
use Rattle.kept_edits.specs.Followed.{IsOfElement, IsOfWay}
use Rattle.kept_edits.specs.Rooms.{HasRoom}
use Rattle.kept_edits.specs.declared.way.Way.{Way}
use Rattle.kept_edits.proofs.Followed.{fits_change, has_place, has_room, is_beside, leads}
use Rattle.kept_edits.proofs.following.prepare.Goals as goal

found : (root element : Node) (way : Way) (path : List ℕ) → path ≡ way.path → node_at path root ≡ Some element → node_at way.path root ≡ Some element
found root element way path is at = sym (ap (λ (p : List ℕ). node_at p root) is) ∙ at

of_way : (root element : Node) (way : Way) (path : List ℕ) (splice : Splice Memo) → path ≡ way.path → node_at path root ≡ Some element → IsOfElement way.site element splice
    → IsOfWay root way splice
of_way root element way path splice is at h = record { element = element; at = found root element way path is at; is = h }

pub element_at-element-requires : goal.element_at-element-requires
element_at-element-requires c =
    ap is_some (ap (λ (p : List ℕ). node_at p c.args.root.now) c.as_slice-path.ensures ∙ leads c.args.root.now c.args.memo.now c.args.way.now c.requires)

pub memo_splice-requires : goal.memo_splice-requires
memo_splice-requires c =
    let element = c.element_at-element.result.now in
    has_place c.args.root.now c.args.memo.now c.args.way.now c.requires element (found c.args.root.now element c.args.way.now _ c.as_slice-path.ensures c.element_at-element.ensures)

pub known_on-requires-clause-fits : goal.known_on-requires-clause-fits
known_on-requires-clause-fits c =
    let splice = c.in_ok-splice.splice in
    let there = of_way c.args.root.now c.element_at-element.result.now c.args.way.now _ splice c.as_slice-path.ensures c.element_at-element.ensures (c.in_ok-splice.ensures {u = tt}) in
    subst (λ (p : List ℕ). FitsMemo splice p c.args.memo.now) (sym c.as_slice-path.ensures) (fits_change c.args.root.now c.args.memo.now c.args.way.now c.requires splice there)

pub known_on-requires-clause-beside : goal.known_on-requires-clause-beside
known_on-requires-clause-beside c =
    let splice = c.in_ok-splice.splice in
    let there = of_way c.args.root.now c.element_at-element.result.now c.args.way.now _ splice c.as_slice-path.ensures c.element_at-element.ensures (c.in_ok-splice.ensures {u = tt}) in
    subst (λ (p : List ℕ). IsBeside splice p c.args.root.now c.args.memo.now) (sym c.as_slice-path.ensures) (is_beside c.args.root.now c.args.memo.now c.args.way.now c.requires splice there)

pub returns-clause-room : goal.returns-clause-room
returns-clause-room c =
    let element = c.element_at-element.result.now in
    let at = found c.args.root.now element c.args.way.now _ c.as_slice-path.ensures c.element_at-element.ensures in
    subst (λ (n : ℕ). HasRoom n c.args.way.now.path c.args.memo.now) (sym (c.in_ok-room.ensures {u = tt} ∙ ap (λ (l : List Node). length l + 2) c.as_slice.ensures))
    (has_room c.args.root.now c.args.memo.now c.args.way.now c.requires element at)
