use Rattle.plans.proofs.Numbers.{plan_range, plan_height}
use Rattle.plans.proofs.plan.Plan.shape.Goals as goal

pub invariant_of-result : goal.invariant_of-result
invariant_of-result c =
    let range = plan_range c.args.self in
    let high = plan_height c.args.self c.levels.result c.levels.ensures in
    record { least = range.0; most = range.1; within = range.2; some = high.0; few = high.1 }
