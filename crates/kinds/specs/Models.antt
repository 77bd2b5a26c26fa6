-- What a kind of value is.
use Rattle.std.specs.Prelude.{◌≡◌, ℕ, ◌^◌, ◌<◌, Bool, Some, Option, ◌==◌}

-- The meaning of a kind: the code of each value, the ground value, and the value that a number reads as, if it is a code.
pub record KindModel (K : Type 0) : Type 0 where
  pub code_of : K → ℕ
  pub base : K
  pub value_of : ℕ → Option K

-- The law of a kind: codes lie below 2^31, a value's code reads as that value, and a number that reads as a value is its code.
pub record Lawful {K : Type 0} (m : KindModel K) : Type 0 where
  pub below : (v : K) → m.code_of v < 2 ^ 31
  pub reads : (v : K) → m.value_of (m.code_of v) ≡ Some v
  pub coded : (c : ℕ) (v : K) → m.value_of c ≡ Some v → m.code_of v ≡ c

-- Two values are the same when their codes are equal.
abbrev pub same_value : {K : Type 0} → KindModel K → K → K → Bool
same_value m x y = m.code_of x == m.code_of y
