use Rattle.std.proofs.Common.{◌*◌, sym, refl, ap, ◌∙◌}
use Rattle.plans.proofs.Blocks.{due_last, due_full}
use Rattle.plans.proofs.Numbers.{plan_gear}
use Rattle.plans.proofs.plan.Plan.conversion_due.Goals as goal

pub returns-then-round-rounds : goal.returns-then-round-rounds
returns-then-round-rounds c =
    let a = plan_gear c.args.self c.if-self-eq0.false in
    sym (due_last c.args.self.t c.args.self.gear a.0 a.2 c.args.round c.rounds.result _ c.rounds.ensures refl c.if-round-rounds.true)

pub returns : goal.returns
returns c =
    let a = plan_gear c.args.self c.if-self-eq0.false in
    let full = ap (λ x. x * c.args.self.gear) c.full_blocks.ensures.value in
    c.ends_full_block.ensures
    ∙ sym (due_full c.args.self.t c.args.self.gear a.0 a.2 c.args.round c.rounds.result _ c.rounds.ensures full c.if-round-rounds.false)
