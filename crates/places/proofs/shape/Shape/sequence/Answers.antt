use Rattle.std.proofs.Common.{sym}
use Rattle.places.proofs.Places.{there, found_back}
use Rattle.places.proofs.shape.Shape.sequence.Goals as goal

pub sequence_at-requires-clause-low : goal.sequence_at-requires-clause-low
sequence_at-requires-clause-low c = (there c.args.self c.args.level c.args.place (sym c.if-not-has_place.ensures)).2

pub returns-clause-back : goal.returns-clause-back
returns-clause-back c = found_back c.args.self c.args.level c.args.place _ (sym c.if-not-has_place.ensures) c.sequence_at.ensures.units
