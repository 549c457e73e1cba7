use Rattle.std.proofs.Common.{◌≡◌, ◌∙◌, sym, ap, ℕ, List, Some, is_some}
use Rattle.math_tree.specs.declared.node.Node.{Node}
use Rattle.tree_edits.specs.Paths.{node_at}
use Rattle.kept_edits.specs.declared.way.Way.{Way}
use Rattle.kept_edits.proofs.Followed.{has_place, leads}
use Rattle.memo_tree.proofs.following.follow.Goals as goal

found : (root element : Node) (way : Way) (path : List ℕ) → path ≡ way.path → node_at path root ≡ Some element → node_at way.path root ≡ Some element
found root element way path is at = sym (ap (λ (p : List ℕ). node_at p root) is) ∙ at

pub element_at-element-requires : goal.element_at-element-requires
element_at-element-requires c =
    ap is_some (ap (λ (p : List ℕ). node_at p c.args.root.now) c.as_slice-path.ensures ∙ leads c.args.root.now c.args.memo.now c.args.way.now c.requires.before)

pub note_new-requires : goal.note_new-requires
note_new-requires c =
    let element = c.element_at-element.result.now in
    has_place c.args.root.now c.args.memo.now c.args.way.now c.requires.before element (found c.args.root.now element c.args.way.now _ c.as_slice-path.ensures c.element_at-element.ensures)
