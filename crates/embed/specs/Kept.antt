-- What a handle keeps before and after a call.
use Rattle.std.specs.Prelude.{Option, Some, None}

-- something is kept, and is so
abbrev pub Keeps : {T : Type 0} → Option T → (T → Type 0) → Type 0
Keeps None Is = ⊥
Keeps (Some value) Is = Is value

-- something was kept and is kept, and came to be so
abbrev pub Becomes : {T : Type 0} → Option T → Option T → (T → T → Type 0) → Type 0
Becomes (Some old) (Some new) Came = Came old new
Becomes old new Came = ⊥
