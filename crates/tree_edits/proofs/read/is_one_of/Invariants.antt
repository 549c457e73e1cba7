use Rattle.std.proofs.Common.{◌≡◌, drop}
use Rattle.std.specs.List.{list_any}
use Rattle.std.specs.Str.{bytes_eq}
use Rattle.tree_edits.proofs.read.is_one_of.Given as goal

-- none of those so far is the word
abbrev pub invariant-loop-one : goal.invariant-loop-one
invariant-loop-one l =
    list_any (λ k. bytes_eq k.now l.word) l.known ≡ list_any (λ k. bytes_eq k.now l.word) (drop l.one-index l.known)
