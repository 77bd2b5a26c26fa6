-- The rule of the table of rounds, for a test that is computed over all of its entries at once.
use Rattle.std.specs.Prelude.{ℕ, ◌+◌, Bool, ◌||◌, ◌==◌, nat_lt}
use Rattle.plans.specs.Schedules.{rounds}

-- row i is for gear i + 2, column j for t = j + 2; no run has t below its gear
abbrev pub is_rounds : ℕ → ℕ → ℕ → Bool
is_rounds i j x = nat_lt j i || x == rounds (j + 2) (i + 2)
