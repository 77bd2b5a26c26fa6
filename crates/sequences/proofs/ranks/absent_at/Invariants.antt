use Rattle.std.proofs.Common.{◌≡◌, ◌≤◌, length}
use Rattle.sequences.specs.Units.{free}
use Rattle.sequences.proofs.ranks.absent_at.Given as goal

abbrev pub invariant-loop-x : goal.invariant-loop-x
invariant-loop-x l = (l.seen ≡ length (free l.mask l.x)) × (l.seen ≤ l.j)
