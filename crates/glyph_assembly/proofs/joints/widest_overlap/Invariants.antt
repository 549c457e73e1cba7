use Rattle.std.proofs.Common.{◌≡◌, ◌≤◌, ◌^◌, take, fold, IfSome}
use Rattle.glyph_assembly.proofs.Rows.{empty, with_part}
use Rattle.glyph_assembly.proofs.joints.widest_overlap.Given as goal

-- the row of the parts so far
abbrev pub invariant-loop-part : goal.invariant-loop-part
invariant-loop-part l = record {
  chain : l.chain ≡ fold (with_part l.metrics l.size l.count) empty (take l.part-index l.parts);
  small : IfSome l.chain.widest (λ widest. widest ≤ 2 ^ 32);
}
