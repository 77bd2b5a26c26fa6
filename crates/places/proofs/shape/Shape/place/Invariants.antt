use Rattle.std.proofs.Common.{◌+◌}
use Rattle.places.proofs.Walking.{Come}
use Rattle.places.proofs.shape.Shape.place.Given as goal

abbrev pub invariant-loop-k : goal.invariant-loop-k
invariant-loop-k l = Come l.self l.units (l.k + 1) l.seen l.place
