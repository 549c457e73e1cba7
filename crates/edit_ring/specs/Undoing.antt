-- Many edits, undone again.
use Rattle.std.specs.Prelude.{◌≡◌, ℕ, zero, suc, ◌-◌, ◌≤◌, List, [], ◌∷◌, length, take, Option, Some}
use Rattle.std.specs.Option.{option_and_then}
use Rattle.math_tree.specs.declared.node.Node.{Node}
use Rattle.edit_ring.specs.Rings.{History, after_edit, after_redo, after_undo}

-- the history after accepted edits that gave these trees, one after another
abbrev pub after_edits : ℕ → List Node → History → History
after_edits depth [] history = history
after_edits depth (tree ∷ trees) history =
    after_edits depth trees (after_edit depth tree history)

abbrev pub after_undos : ℕ → History → Option History
after_undos zero history = Some history
after_undos (suc n) history = option_and_then after_undo (after_undos n history)

-- undoing n edits gives the tree of before them, for every n that the ring still holds; what was
-- held before them is held still, but for the oldest, and their trees can be made again
abbrev pub UndoLaw : Type 0
UndoLaw =
    (depth : ℕ) (tree : Node) (trees : List Node) (history : History) →
    length (tree ∷ trees) ≤ depth →
    after_undos (length (tree ∷ trees)) (after_edits depth (tree ∷ trees) history)
    ≡ Some (record {
      past = take (depth - length (tree ∷ trees)) history.past;
      present = history.present;
      future = tree ∷ trees;
    })

-- redoing is the way back from undoing, and undoing from redoing
abbrev pub WayBackLaw : Type 0
WayBackLaw =
    (before after : History) →
    (after_undo before ≡ Some after → after_redo after ≡ Some before)
    × (after_redo before ≡ Some after → after_undo after ≡ Some before)
