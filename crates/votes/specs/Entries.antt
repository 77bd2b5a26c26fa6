-- The entries of a vote: each is a value, or open.
use Rattle.std.specs.Prelude.{ℕ, Bool, false, List, [], ◌∷◌, Some, None, count_by, Option}
use Rattle.kinds.specs.Models.{KindModel, same_value}

-- The values among the entries, in order; open entries are left out.
abbrev pub values : {K : Type 0} → List (Option K) → List K
values [] = []
values (None ∷ entries) = values entries
values (Some x ∷ entries) = x ∷ values entries

-- Whether an entry supports x: it is a value with the code of x. An open entry supports nothing.
abbrev pub supports : {K : Type 0} → KindModel K → K → Option K → Bool
supports m x None = false
supports m x (Some y) = same_value m y x

-- How many entries support x.
abbrev pub support : {K : Type 0} → KindModel K → K → List (Option K) → ℕ
support m x entries = count_by (supports m x) entries
