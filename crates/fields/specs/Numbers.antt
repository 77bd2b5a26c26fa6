-- A word as a number, or what is wrong with it. i is the number of the word in its line.
use Rattle.std.specs.Prelude.{ℕ, ◌+◌, ◌-◌, ◌*◌, Bool, cond, not, ◌&&◌, length, drop, ℤ, pos, neg_ℤ, Some, None, Ok, Err, fold, Option, Result, ◌==◌, nat_le, nat_lt, slice_index}
use Rattle.fields.specs.declared.forms.Misread.{Misread}
use Rattle.fields.specs.declared.forms.Misread.TheVariants.{NotNumber, Negative, TooLarge}
use Rattle.masks.specs.Lists.{every}
use Rattle.fields.specs.Names.{says}
use Rattle.fields.specs.Steps.{and_then}
use Rattle.words.specs.Words.{Word}

-- the digits `0` to `9` are the bytes 48 to 57
abbrev pub digit : ℕ → Bool
digit b = nat_le 48 b && nat_le b 57

-- one or more digits, and nothing else
abbrev pub digits : Word → Bool
digits w = not (length w == 0) && every digit w

-- the number that digits write
abbrev pub value : Word → ℕ
value w = fold (λ n b. n * 10 + (b - 48)) 0 w

-- a minus, byte 45, and then digits
abbrev pub negative : Word → Bool
negative w = slice_index w 0 == 45 && digits (drop 1 w)

-- a number is digits, and at most 4294967295
unfoldable pub number : ℕ → Word → Result ℕ Misread
number i w =
    cond (negative w) (Err (Negative i))
    (cond (not (digits w)) (Err (NotNumber i))
    (cond (nat_lt 4294967295 (value w)) (Err (TooLarge i))
    (Ok (value w))))

-- the level of a trigger is a number from -2147483648 to 2147483647
abbrev pub level : ℕ → Word → Result ℤ Misread
level i w =
    cond (negative w)
    (cond (nat_lt 2147483648 (value (drop 1 w))) (Err (TooLarge i))
    (Ok (neg_ℤ (pos (value (drop 1 w))))))
    (cond (not (digits w)) (Err (NotNumber i))
    (cond (nat_lt 2147483647 (value w)) (Err (TooLarge i))
    (Ok (pos (value w)))))

-- an entry of a vote is a code, or `-` for an open one
abbrev pub entry : ℕ → Word → Result (Option ℕ) Misread
entry i w = cond (says w "-") (Ok None) (and_then (number i w) λ c. Ok (Some c))
