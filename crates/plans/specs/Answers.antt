-- What the making of a plan answers, granted or refused.
use Rattle.std.specs.Prelude.{ℕ, cond, Ok, Err, Result}
use Rattle.places.specs.Numbers.{units_wrong, source_wrong}
use Rattle.plans.specs.declared.fault.PlanFault.{PlanFault}
use Rattle.plans.specs.declared.fault.PlanFault.TheVariants.{Units, Gear, Tolerance, Source}
use Rattle.plans.specs.declared.plan.Plan.{Plan}
use Rattle.plans.specs.Numbers.{gear_wrong, tolerance_wrong}

-- the numbers of a plan: n, t, gear and source
abbrev pub plan_parts : Plan → ℕ × ℕ × ℕ × ℕ
plan_parts plan = (plan.n, plan.t, plan.gear, plan.source)

-- which numbers a rack can be opened with, and which refusal comes first
abbrev pub plan_answer : ℕ → ℕ → ℕ → ℕ → Result (ℕ × ℕ × ℕ × ℕ) PlanFault
plan_answer n t gear source =
    cond (units_wrong n) (Err Units)
    (cond (gear_wrong gear) (Err Gear)
    (cond (tolerance_wrong n t gear) (Err Tolerance)
    (cond (source_wrong n source) (Err Source)
    (Ok (n, t, gear, source)))))
