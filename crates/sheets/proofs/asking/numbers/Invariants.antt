use Rattle.std.proofs.Common.{◌≡◌, ◌+◌, length, take}
use Rattle.fields.specs.Numbers.{number}
use Rattle.sheets.proofs.Rows.{Sofar}
use Rattle.sheets.proofs.asking.numbers.Given as goal

abbrev pub invariant-loop-k : goal.invariant-loop-k
invariant-loop-k g l = (length l.slot-items ≡ g.row.K) × Sofar number l.words 2 (take l.k l.slot-items) (l.k + 2)
