use Rattle.std.proofs.Common.{◌≡◌, ◌^◌, take, fold, map}
use Rattle.std.specs.Int.{int_max}
use Rattle.fixed_units.specs.Numbers.{IsWithin}
use Rattle.glyph_assembly.specs.Pieces.{measure_of}
use Rattle.glyph_assembly.proofs.assembly.largest.Given as goal

-- the largest so far
abbrev pub invariant-loop-part : goal.invariant-loop-part
invariant-loop-part l = record {
  most : l.most ≡ fold int_max l.initial.most (map (measure_of l.measure l.metrics l.size) (take l.part-index l.others));
  within : IsWithin (2 ^ 32) l.most;
}
