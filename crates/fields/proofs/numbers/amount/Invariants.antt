use Rattle.std.proofs.Common.{◌≡◌, min, take, drop}
use Rattle.masks.specs.Lists.{every}
use Rattle.fields.specs.Numbers.{digit, value}
use Rattle.fields.proofs.numbers.amount.Given as goal

abbrev pub invariant-loop-byte : goal.invariant-loop-byte
invariant-loop-byte l =
    (every digit (drop l.byte-index l.word) ≡ every digit l.word) × (l.total ≡ min (value (take l.byte-index l.word)) 4294967296)
