-- Which numbers a rack of units can have.
use Rattle.std.specs.Prelude.{ℕ, Bool, ◌&&◌, ◌||◌, nat_le, nat_lt}

-- n outside 4 to 21
abbrev pub units_wrong : ℕ → Bool
units_wrong n = nat_lt n 4 || nat_lt 21 n

-- the source is not one of the n units
abbrev pub source_wrong : ℕ → ℕ → Bool
source_wrong n source = nat_le n source

-- a tree of h levels has level k
abbrev pub has_level : ℕ → ℕ → Bool
has_level h k = nat_le 1 k && nat_le k h
