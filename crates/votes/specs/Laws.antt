-- What a vote answers, and the laws that a vote keeps.
use Rattle.std.specs.Prelude.{◌≡◌, ℕ, ◌+◌, ◌*◌, ◌<◌, ◌≤◌, List, length, Some, Option}
use Rattle.kinds.specs.Models.{KindModel}
use Rattle.votes.specs.Entries.{support}

-- The meaning of a vote: the one answer, a value or open, that belongs to entries and t.
abbrev pub Answer : Type 0 → Type 0
Answer K = List (Option K) → ℕ → Option K

-- First law: if there are at least 2t + 1 entries and all but at most t are one value, that value is the answer.
abbrev pub FirstLaw : {K : Type 0} → KindModel K → Answer K → Type 0
FirstLaw {K} m answer =
    (entries : List (Option K)) (t : ℕ) (x : K)
    → 2 * t + 1 ≤ length entries → length entries ≤ support m x entries + t → answer entries t ≡ Some x

-- Majority law: a value in more than half of the entries is the answer.
abbrev pub MajorityLaw : {K : Type 0} → KindModel K → Answer K → Type 0
MajorityLaw {K} m answer =
    (entries : List (Option K)) (t : ℕ) (x : K)
    → length entries < 2 * support m x entries → answer entries t ≡ Some x
