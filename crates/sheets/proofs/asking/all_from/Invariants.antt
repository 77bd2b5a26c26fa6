use Rattle.std.proofs.Common.{◌+◌, length, vec_items}
use Rattle.sheets.proofs.Rows.{Sofar}
use Rattle.sheets.proofs.asking.all_from.Given as goal

abbrev pub invariant-loop-i : goal.invariant-loop-i
invariant-loop-i g l = Sofar g.T.Field.reads l.words l.first (vec_items l.all) (l.first + length l.yielded)
