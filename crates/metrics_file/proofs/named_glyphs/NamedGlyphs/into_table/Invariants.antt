use Rattle.std.proofs.Common.{◌≡◌, ◌++◌}
use Rattle.metrics_file.specs.NamedGlyphs.{named_glyphs}
use Rattle.metrics_file.proofs.named_glyphs.NamedGlyphs.into_table.Given as goal

-- the glyphs so far and those that are left are all of them
abbrev pub invariant-loop-name : goal.invariant-loop-name
invariant-loop-name l = l.table ++ named_glyphs l.name-iterator ≡ l.fn.self
