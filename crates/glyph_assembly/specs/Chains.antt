-- A row of pieces, one after the other, as the code goes along it.
use Rattle.std.specs.Prelude.{ℕ, zero, suc, min, Option, Some, None}
use Rattle.glyph_assembly.specs.declared.joints.Chain.{Chain}

abbrev pub narrower : Option ℕ → ℕ → ℕ
narrower None joint = joint
narrower (Some widest) joint = min widest joint

-- the widest overlap after one more joint, if there is one
abbrev pub narrowed : Option ℕ → Option ℕ → ℕ → Option ℕ
narrowed None widest start = widest
narrowed (Some before) widest start = Some (narrower widest (min before start))

-- a row with one piece behind it
abbrev pub followed : Chain → ℕ → ℕ → Chain
followed chain start end = record { end = Some end; widest = narrowed chain.end chain.widest start }

-- and with so many of them
abbrev pub repeated : Chain → ℕ → ℕ → ℕ → Chain
repeated chain start end zero = chain
repeated chain start end (suc n) = repeated (followed chain start end) start end n
