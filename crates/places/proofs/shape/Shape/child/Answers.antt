use Rattle.std.proofs.Common.{sym, arith}
use Rattle.places.proofs.Places.{there, few, child, child_stands, left_out}
use Rattle.places.proofs.shape.Shape.child.Goals as goal

pub units_at-units-requires-clause-low : goal.units_at-units-requires-clause-low
units_at-units-requires-clause-low c = (there c.args.self c.args.level c.args.place (sym c.if-not-has_place.ensures)).2

pub nth_absent-requires : goal.nth_absent-requires
nth_absent-requires c = omega (
  arith,
  left_out c.args.self c.args.level c.args.place c.units_at-units.result (sym c.if-not-has_place.ensures) c.units_at-units.ensures,
)

pub overflow_mul-result : goal.overflow_mul-result
overflow_mul-result c = omega (arith, few c.args.self c.args.level c.args.place (sym c.if-not-has_place.ensures))

pub overflow_add-result : goal.overflow_add-result
overflow_add-result c = omega (arith, few c.args.self c.args.level c.args.place (sym c.if-not-has_place.ensures))

pub returns : goal.returns
returns c =
    let is_there = sym c.if-not-has_place.ensures in
    record {
      value = child c.args.self c.args.level c.args.place c.args.j c.units_at-units.result c.nth_absent.result is_there (omega arith) (omega arith) c.units_at-units.ensures c.nth_absent.ensures;
      stands = child_stands c.args.self c.args.level c.args.place c.args.j c.units_at-units.result c.nth_absent.result is_there (omega arith) (omega arith) c.units_at-units.ensures c.nth_absent.ensures;
    }
