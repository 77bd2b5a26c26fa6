-- Rights and their codes.
use Rattle.std.specs.Prelude.{ℕ, ◌+◌, ◌-◌, cond, Some, Option, ◌==◌}
use Rattle.std.specs.Option.{option_map}
use Rattle.kinds.specs.Models.{KindModel}
use Rattle.kinds.specs.Ranges.{provided, between}
use Rattle.kinds.specs.declared.right.Minutes.{Minutes}
use Rattle.kinds.specs.declared.right.Right.{Right}
use Rattle.kinds.specs.declared.right.Right.TheVariants.{Withdrawn, Watch, Operate}

-- m minutes, for m from 1 to 60.
abbrev pub minutes_of : ℕ → Option Minutes
minutes_of m = provided (between 1 60 m) (λ ok. record { count = m; ok = ok })

-- The code of a right.
abbrev pub right_code : Right → ℕ
right_code Withdrawn = 0
right_code Watch = 1
right_code (Operate m) = m.count + 1

-- The right that a number reads as.
abbrev pub right_of : ℕ → Option Right
right_of c = cond (c == 0) (Some Withdrawn) (cond (c == 1) (Some Watch) (option_map Operate (minutes_of (c - 1))))

-- Rights as a kind: withdrawn is the ground value.
abbrev pub right_model : KindModel Right
right_model = record { code_of = right_code; base = Withdrawn; value_of = right_of }
