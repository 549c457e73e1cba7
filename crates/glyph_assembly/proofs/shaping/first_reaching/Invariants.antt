use Rattle.std.proofs.Common.{◌≡◌, take, None}
use Rattle.std.specs.List.{find}
use Rattle.glyph_assembly.specs.Shaping.{reaches}
use Rattle.glyph_assembly.proofs.shaping.first_reaching.Given as goal

-- none of the variants so far reaches the target
abbrev pub invariant-loop-variant : goal.invariant-loop-variant
invariant-loop-variant l =
    find (reaches l.metrics l.size l.target) (take l.variant-index l.variants) ≡ None
