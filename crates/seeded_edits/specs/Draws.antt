-- Numbers that follow from a seed: a linear congruential generator whose state has 64 bits.
use Rattle.std.specs.Prelude.{ℕ, ◌+◌, ◌*◌, ◌/◌, ◌%◌, ◌^◌}

-- the state after a draw
unfoldable pub next_state : ℕ → ℕ
next_state state = (state * 6364136223846793005 + 1442695040888963407) % 2 ^ 64

-- the number below n that a state gives: its 31 upper bits, divided by n with remainder
unfoldable pub number_in : ℕ → ℕ → ℕ
number_in n state = (state / 2 ^ 33) % n

-- a draw below n: the number is that of the state after it
abbrev pub drawn : ℕ → ℕ → ℕ
drawn n state = number_in n (next_state state)
