-- How a sequence is kept.
use Rattle.std.specs.Prelude.{ℕ, ◌-◌, List, ◌++◌, length, replicate}

-- the units, and 0 in each entry after them
abbrev pub four_entries : List ℕ → List ℕ
four_entries units = units ++ replicate (4 - length units) 0
