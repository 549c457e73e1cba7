-- A product and a sum that wrap are the sum of both, wrapped once.
use Rattle.std.proofs.Common.{◌≡◌, ℕ, ◌+◌, ◌*◌, ◌%◌, ◌^◌}
use Rattle.std.proofs.Math.Nat.{mod-add-mod}
use Rattle.seeded_edits.specs.Draws.{next_state}

pub wrapped_state : (state : ℕ) → (state * 6364136223846793005 % 2 ^ 64 + 1442695040888963407) % 2 ^ 64 ≡ next_state state
unfolding next_state
wrapped_state state = mod-add-mod (state * 6364136223846793005) (2 ^ 64) 1442695040888963407
