use Rattle.std.proofs.Common.{arith}
use Rattle.sequences.proofs.Fans.{few, few_parents, moved, parent_done, next_parent}
use Rattle.sequences.proofs.walk.Walk.following.Goals as goal

pub overflow_add-place : goal.overflow_add-place
overflow_add-place c = omega (arith, few c.args.self c.if-self-eq0.false)

pub overflow_add-self-in_default : goal.overflow_add-self-in_default
overflow_add-self-in_default c = omega (arith, few_parents c.args.self c.if-self-eq0.false)

pub first_under-requires-clause-low : goal.first_under-requires-clause-low
first_under-requires-clause-low c = next_parent c.args.self c.if-self-eq0.false c.in_default.ensures

pub first_under-requires-clause-first : goal.first_under-requires-clause-first
first_under-requires-clause-first c = parent_done c.args.self c.if-self-eq0.false c.in_default.ensures

pub invariant_of-result : goal.invariant_of-result
invariant_of-result c = record { on = moved c.args.self c.if-self-eq0.false c.in-Some.last c.in-Some.ensures.2 c.in-Some.ensures.0 c.in-Some.ensures.1 c.with.result c.with.ensures.value }
