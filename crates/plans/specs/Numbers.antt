-- Which numbers a rack can be opened with: each test tells that a number is wrong.
use Rattle.std.specs.Prelude.{ℕ, ◌+◌, ◌*◌, Bool, cond, not, ◌&&◌, ◌||◌, ◌==◌, nat_lt}
use Rattle.places.specs.Numbers.{units_wrong, source_wrong}

-- gear 1, or above 3
abbrev pub gear_wrong : ℕ → Bool
gear_wrong gear = gear == 1 || nat_lt 3 gear

-- t is how many loose units the rack stands. In gear 0: below 1, above 3, or n below 3t + 1; in any other gear: below the gear, above 5, or n below 4t + 1
abbrev pub tolerance_wrong : ℕ → ℕ → ℕ → Bool
tolerance_wrong n t gear = cond (gear == 0)
    (nat_lt t 1 || (nat_lt 3 t || nat_lt n (3 * t + 1)))
    (nat_lt t gear || (nat_lt 5 t || nat_lt n (4 * t + 1)))

-- none of the four is wrong
abbrev pub opens : ℕ → ℕ → ℕ → ℕ → Bool
opens n t gear source = not (units_wrong n) && (not (gear_wrong gear) && (not (tolerance_wrong n t gear) && not (source_wrong n source)))
