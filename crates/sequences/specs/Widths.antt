-- How many sequences a level has.
use Rattle.std.specs.Prelude.{ℕ, zero, suc, ◌-◌, ◌*◌}

-- the product (n - 1) (n - 2) .. (n - d): each step down the tree leaves one absent unit fewer
abbrev pub falling : ℕ → ℕ → ℕ
falling n zero = 1
falling n (suc d) = falling n d * (n - suc d)

-- the width of level k of a rack with n units: 1 at level 1, and n - k times the width of level k at level k + 1
abbrev pub width : ℕ → ℕ → ℕ
width n k = falling n (k - 1)
