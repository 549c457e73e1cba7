use Rattle.std.proofs.Common.{◌≡◌, drop}
use Rattle.std.specs.List.{find}
use Rattle.std.specs.Str.{bytes_eq}
use Rattle.math_tree.proofs.kind.kind_among.Given as goal

-- none of the rows so far has the name
abbrev pub invariant-loop-known : goal.invariant-loop-known
invariant-loop-known l =
    find (λ row. bytes_eq row.0.now l.name) l.rows ≡ find (λ row. bytes_eq row.0.now l.name) (drop l.known-index l.rows)
