use Rattle.std.proofs.Common.{sym, arith}
use Rattle.places.proofs.Places.{there, back}
use Rattle.places.proofs.shape.Shape.way_back.Goals as goal

pub last_at-last-requires-clause-low : goal.last_at-last-requires-clause-low
last_at-last-requires-clause-low c = (there c.args.self c.args.level c.args.place (sym c.if-not-has_place.ensures)).2

pub returns : goal.returns
returns c =
    back c.args.self c.args.level c.args.place c.last_at-last.result (omega arith) (sym c.if-not-has_place.ensures) c.last_at-last.ensures
