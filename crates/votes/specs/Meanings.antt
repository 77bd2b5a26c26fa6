-- What majority and threshold answer.
use Rattle.std.specs.Prelude.{ℕ, ◌+◌, ◌*◌, Bool, cond, List, [], ◌∷◌, length, Some, None, filter, Option, nat_le, nat_lt}
use Rattle.std.specs.Option.{unwrap_or}
use Rattle.masks.specs.Lists.{every}
use Rattle.kinds.specs.Models.{KindModel, same_value}
use Rattle.votes.specs.Entries.{values, support}
use Rattle.votes.specs.Laws.{Answer}

-- The value that each of a list is: nothing for an empty list, or for one with two different values.
abbrev pub only : {K : Type 0} → KindModel K → List K → Option K
only m [] = None
only m (x ∷ xs) = cond (every (same_value m x) xs) (Some x) None

-- Whether x is in more than half of the entries.
abbrev pub in_most : {K : Type 0} → KindModel K → List (Option K) → K → Bool
in_most m entries x = nat_lt (length entries) (2 * support m x entries)

-- Whether x has at least so many of the entries.
abbrev pub enough : {K : Type 0} → KindModel K → List (Option K) → ℕ → K → Bool
enough m entries least x = nat_le least (support m x entries)

-- Majority: the value in more than half of the entries, else ground.
abbrev pub majority : {K : Type 0} → KindModel K → Answer K
majority m entries t = Some (unwrap_or (only m (filter (in_most m entries) (values entries))) m.base)

-- Threshold: the only value with at least t + 1 entries, else open.
abbrev pub threshold : {K : Type 0} → KindModel K → Answer K
threshold m entries t = only m (filter (enough m entries (t + 1)) (values entries))
