-- Edits that are undone again.
use Rattle.std.proofs.Common.{◌≡◌, ◌∙◌, sym, ap, refl, ℕ, zero, suc, ◌-◌, ◌≤◌, List, [], ◌∷◌, length, take, Some, arith}
use Rattle.std.proofs.lemmas.Option.{none-some, same_Some}
use Rattle.std.specs.Option.{option_and_then}
use Rattle.math_tree.specs.declared.node.Node.{Node}
use Rattle.edit_ring.specs.Rings.{History, after_edit, after_redo, after_undo, back_to, forth_to}
use Rattle.edit_ring.specs.Undoing.{UndoLaw, WayBackLaw, after_edits, after_undos}

take_of_take : {A : Type 0} (m n : ℕ) (xs : List A) → m ≤ n → take m (take n xs) ≡ take m xs
take_of_take zero n xs le = refl
take_of_take (suc m) zero xs le = absurd (omega (arith, le))
take_of_take (suc m) (suc n) [] le = refl
take_of_take (suc m) (suc n) (x ∷ xs) le = ap (◌∷◌ x) (take_of_take m n xs (omega (arith, le)))

-- the history after one more undo, where the past still has a tree
one_more : (left depth : ℕ) (tree : Node) (trees past : List Node) (present : Node) (less : ℕ)
    → left ≡ suc less → left ≤ depth
    → after_undo (record { past = take left (take depth (present ∷ past)); present = tree; future = trees })
    ≡ Some (record { past = take less past; present = present; future = tree ∷ trees })
one_more left depth tree trees past present less is le =
    ap (λ (p : List Node). back_to p (record { past = p; present = tree; future = trees }))
    (take_of_take left depth (present ∷ past) le ∙ ap (λ n. take n (present ∷ past)) is)

undo_all : (depth : ℕ) (tree : Node) (trees : List Node) (history : History) → suc (length trees) ≤ depth
    → after_undos (suc (length trees)) (after_edits depth trees (after_edit depth tree history)) ≡ Some (record {
      past = take (depth - suc (length trees)) history.past;
      present = history.present;
      future = tree ∷ trees;
    })
undo_all depth tree [] history le =
    ap (λ (p : List Node). back_to p (record { past = p; present = tree; future = [] }))
    (ap (λ n. take n (history.present ∷ history.past)) (let is : depth ≡ suc (depth - 1) = omega (arith, le) in is))
undo_all depth tree (next ∷ trees) history le =
    ap (option_and_then after_undo) (undo_all depth next trees (after_edit depth tree history) (omega (arith, le)))
    ∙ one_more (depth - suc (length trees)) depth tree (next ∷ trees) history.past history.present (depth - suc (suc (length trees)))
    (omega (arith, le)) (omega arith)

pub undo_law : UndoLaw
undo_law depth tree trees history le = undo_all depth tree trees history le

undone_back : (past : List Node) (present : Node) (future : List Node) (after : History)
    → back_to past (record { past = past; present = present; future = future }) ≡ Some after
    → after_redo after ≡ Some (record { past = past; present = present; future = future })
undone_back [] present future after h = absurd (none-some after h)
undone_back (tree ∷ past) present future after h = ap after_redo (sym (same_Some _ after h))

redone_back : (past : List Node) (present : Node) (future : List Node) (after : History)
    → forth_to future (record { past = past; present = present; future = future }) ≡ Some after
    → after_undo after ≡ Some (record { past = past; present = present; future = future })
redone_back past present [] after h = absurd (none-some after h)
redone_back past present (tree ∷ future) after h = ap after_undo (sym (same_Some _ after h))

pub way_back_law : WayBackLaw
way_back_law before after =
    (undone_back before.past before.present before.future after, redone_back before.past before.present before.future after)
