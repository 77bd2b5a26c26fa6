-- Reading word after word: the first flaw from the left is told. ws are the words of a line.
use Rattle.std.specs.Prelude.{ℕ, suc, ◌-◌, ◌<◌, ◌≤◌, cond, List, [], ◌∷◌, length, drop, Ok, Err, Result, nat_lt, slice_index_or}
use Rattle.fields.specs.declared.forms.Misread.{Misread}
use Rattle.fields.specs.declared.forms.Misread.TheVariants.{TooFew, TooMany}
use Rattle.words.specs.Words.{Word}

-- goes on with what was read, unless a flaw was met
abbrev pub and_then : {A B : Type 0} → Result A Misread → (A → Result B Misread) → Result B Misread
and_then (Ok a) next = next a
and_then (Err m) next = Err m

-- there are as many words
abbrev pub exactly : ℕ → List Word → Result (Unit {0}) Misread
exactly count ws = cond (nat_lt (length ws) count) (Err TooFew) (cond (nat_lt count (length ws)) (Err TooMany) (Ok tt))

-- there are as many words, or more
abbrev pub at_least : ℕ → List Word → Result (Unit {0}) Misread
at_least count ws = cond (nat_lt (length ws) count) (Err TooFew) (Ok tt)

-- word i, from 1
abbrev pub word : List Word → ℕ → Word
word ws i = slice_index_or ws (i - 1) []

-- word i is there
abbrev pub Present : {A : Type 0} → List A → ℕ → Type 0
Present ws i = (0 < i) × (i ≤ length ws)

-- word i, read by a rule such as `number`
abbrev pub at : {A : Type 0} → (ℕ → Word → Result A Misread) → List Word → ℕ → Result A Misread
at rule ws i = rule i (word ws i)

-- words one after another, the first of which has number i, each read by the rule
abbrev pub each : {A : Type 0} → (ℕ → Word → Result A Misread) → ℕ → List Word → Result (List A) Misread
each rule i [] = Ok []
each rule i (w ∷ ws) = and_then (rule i w) λ x. and_then (each rule (suc i) ws) λ xs. Ok (x ∷ xs)

-- word i and those after it, each read by the rule
abbrev pub from : {A : Type 0} → (ℕ → Word → Result A Misread) → List Word → ℕ → Result (List A) Misread
from rule ws i = each rule i (drop (i - 1) ws)
