use Rattle.std.proofs.Common.{arith}
use Rattle.std.proofs.lemmas.Option.{MatchOption-at_some}
use Rattle.masks.proofs.Members.{unit_in}
use Rattle.sequences.proofs.Fans.{fan_is, arrived}
use Rattle.sequences.proofs.Free.{is_there}
use Rattle.sequences.proofs.walk.steps.first_under.Goals as goal

pub unwrap-last-requires : goal.unwrap-last-requires
unwrap-last-requires c =
    let level = c.args.level in
    let is = unit_in level.units.n level.source level.within in
    is_there c.absent_from.result _ _ c.absent_from.ensures
    (λ none. omega (arith, none, fan_is level.units.n level.source is level.depth c.args.parent c.units_at-above.result c.requires.below c.requires.low c.units_at-above.ensures, level.units.least, level.deep))

pub invariant_of-result : goal.invariant_of-result
invariant_of-result c =
    let level = c.args.level in
    let n = level.units.n in
    let above = c.units_at-above.result in
    let is = unit_in n level.source level.within in
    let first = MatchOption-at_some _ _ c.unwrap-last.result c.unwrap-last.ensures c.absent_from.ensures in
    record {
      on = arrived n level.source is level.depth c.args.parent above c.requires.below c.requires.low c.units_at-above.ensures c.args.place c.unwrap-last.result first.0 first.1
          (omega (arith, c.requires.first, first.2)) c.with.result c.args.left (omega (arith, first.0, level.units.most)) c.with.ensures.value c.requires.rest;
    }
