-- Steps of a definition that may give nothing.
use Rattle.std.specs.Prelude.{Bool, true, false, Option, Some, None}

-- the second step, where the first gave a value
infixl 10 ◌>>=◌
abbrev pub ◌>>=◌ : {A B : Type 0} → Option A → (A → Option B) → Option B
None >>= f = None
Some x >>= f = f x

infixl 10 ◌>>◌
abbrev pub ◌>>◌ : {A B : Type 0} → Option A → Option B → Option B
None >> y = None
Some x >> y = y

-- a step that gives something where the test holds
abbrev pub only_if : Bool → Option (Unit {0})
only_if true = Some tt
only_if false = None
