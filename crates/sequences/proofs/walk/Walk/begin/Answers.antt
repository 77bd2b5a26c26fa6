use Rattle.std.proofs.Common.{◌≡◌, ◌+◌, ◌-◌, ◌<◌, ap, ◌∙◌, arith}
use Rattle.masks.proofs.Members.{unit_in}
use Rattle.sequences.specs.Widths.{falling}
use Rattle.sequences.proofs.Bounds.{wide, some_wide}
use Rattle.sequences.proofs.walk.Walk.begin.Goals as goal

-- the width that the table has, counted by the depth
wide_is : (c : goal.After-width-left) → c.width-left.result ≡ falling c.args.level.units.n c.args.level.depth
wide_is c = let e : c.args.level.depth + 1 - 1 ≡ c.args.level.depth = omega arith in c.width-left.ensures.value ∙ ap (falling c.args.level.units.n) e

-- and that some are there
some_there : (c : goal.After-width-left) → 0 < falling c.args.level.units.n c.args.level.depth
some_there c = some_wide c.args.level.units.n c.args.level.depth (omega (arith, c.args.level.units.least, c.args.level.deep))

pub overflow_sub-left : goal.overflow_sub-left
overflow_sub-left c = omega (arith, wide_is c, some_there c)

pub first_under-requires-clause-low : goal.first_under-requires-clause-low
first_under-requires-clause-low c =
    let level = c.args.level in
    omega (
      arith,
      wide level.units.n level.source (level.depth - 1) (unit_in level.units.n level.source level.within),
      some_wide level.units.n (level.depth - 1) (omega (arith, level.units.least, level.deep)),
    )

pub first_under-requires-clause-rest : goal.first_under-requires-clause-rest
first_under-requires-clause-rest c =
    let level = c.args.level in
    omega (arith, wide level.units.n level.source level.depth (unit_in level.units.n level.source level.within), wide_is c, some_there c)
