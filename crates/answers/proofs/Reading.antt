-- Reading codes as entries, one after another.
use Rattle.std.proofs.Common.{List, ◌++◌, Ok, Err, ℕ, Option, Result}

-- entries read before those that are still to be read
abbrev pub before : {K : Type 0} → List (Option K) → Result (List (Option K)) ℕ → Result (List (Option K)) ℕ
before es (Ok rest) = Ok (es ++ rest)
before es (Err c) = Err c
