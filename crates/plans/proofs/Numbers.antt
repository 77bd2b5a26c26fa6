-- What the type of a plan gives.
use Rattle.std.proofs.Common.{◌≡◌, ℕ, ◌+◌, ◌*◌, ◌<◌, ◌≤◌, false, not, ◌||◌, eqb, ltb, ◌⊎◌, sym, ◌∙◌, inl, inr, ⊎_elim, arith}
use Rattle.std.proofs.lemmas.Bool.{and_parts, or_parts, not-true, eqb-true, eqb-false, ltb-false, leb-false, cond-true, cond-false, cases_Bool, eq-eqb, ne_eqb}
use Rattle.places.specs.Numbers.{units_wrong, source_wrong}
use Rattle.plans.specs.Numbers.{gear_wrong, tolerance_wrong}
use Rattle.plans.specs.Schedules.{height}
use Rattle.plans.specs.declared.plan.Plan.{Plan}

-- gear 0 stands at most 3 loose units, a third of the others; the other gears at most 5, a quarter of the others
abbrev pub Allowed : ℕ → ℕ → ℕ → Type 0
Allowed n t gear = ((gear ≡ 0) × (1 ≤ t) × (t ≤ 3) × (3 * t + 1 ≤ n)) ⊎ ((2 ≤ gear) × (gear ≤ 3) × (gear ≤ t) × (t ≤ 5) × (4 * t + 1 ≤ n))

allowed : (n t gear : ℕ) → gear_wrong gear ≡ false → tolerance_wrong n t gear ≡ false → Allowed n t gear
allowed n t gear g w =
    let low = ltb t 1 || (ltb 3 t || ltb n (3 * t + 1)) in
    let other = ltb t gear || (ltb 5 t || ltb n (4 * t + 1)) in
    let gears = or_parts (eqb gear 1) (ltb 3 gear) g in
    ⊎_elim
    (λ z. let a = or_parts (ltb t 1) (ltb 3 t || ltb n (3 * t + 1)) (sym (cond-true (eqb gear 0) low other z) ∙ w) in
    let b = or_parts (ltb 3 t) (ltb n (3 * t + 1)) a.1 in
    inl (eqb-true gear 0 z, ltb-false t 1 a.0, ltb-false 3 t b.0, ltb-false n (3 * t + 1) b.1))
    (λ z. let a = or_parts (ltb t gear) (ltb 5 t || ltb n (4 * t + 1)) (sym (cond-false (eqb gear 0) low other z) ∙ w) in
    let b = or_parts (ltb 5 t) (ltb n (4 * t + 1)) a.1 in
    let not_zero = eqb-false gear 0 z in
    let not_one = eqb-false gear 1 gears.0 in
    inr (omega arith, ltb-false 3 gear gears.1, ltb-false t gear a.0, ltb-false 5 t b.0, ltb-false n (4 * t + 1) b.1))
    (cases_Bool (eqb gear 0))

pub plan_range : (plan : Plan) → (4 ≤ plan.n) × (plan.n ≤ 21) × (plan.source < plan.n)
plan_range plan =
    let a = and_parts (not (units_wrong plan.n)) _ plan.ok in
    let b = and_parts (not (gear_wrong plan.gear)) _ a.1 in
    let c = and_parts (not (tolerance_wrong plan.n plan.t plan.gear)) _ b.1 in
    let u = or_parts (ltb plan.n 4) (ltb 21 plan.n) (not-true (units_wrong plan.n) a.0) in
    (ltb-false plan.n 4 u.0, ltb-false 21 plan.n u.1, leb-false plan.n plan.source (not-true (source_wrong plan.n plan.source) c.1))

pub plan_allowed : (plan : Plan) → Allowed plan.n plan.t plan.gear
plan_allowed plan =
    let a = and_parts (not (units_wrong plan.n)) _ plan.ok in
    let b = and_parts (not (gear_wrong plan.gear)) _ a.1 in
    let c = and_parts (not (tolerance_wrong plan.n plan.t plan.gear)) _ b.1 in
    allowed plan.n plan.t plan.gear (not-true _ b.0) (not-true _ c.0)

-- trees have 2 to 4 levels
pub plan_height : (plan : Plan) (levels : ℕ) → levels ≡ height plan.t plan.gear → (1 ≤ levels) × (levels ≤ 4)
plan_height plan levels e = ⊎_elim
    (λ a. let h = e ∙ cond-true (eqb plan.gear 0) (plan.t + 1) (plan.gear + 1) (eq-eqb plan.gear 0 a.0) in (omega (arith, a.2), omega (arith, a.2)))
    (λ a. let h = e ∙ cond-false (eqb plan.gear 0) (plan.t + 1) (plan.gear + 1) (ne_eqb plan.gear 0 (λ z. omega (arith, a.0))) in (omega (arith, a.1), omega (arith, a.1)))
    (plan_allowed plan)

pub plan_gear : (plan : Plan) → (plan.gear ≡ 0 → ⊥) → (2 ≤ plan.gear) × (plan.gear ≤ 3) × (plan.gear ≤ plan.t) × (plan.t ≤ 5)
plan_gear plan other = ⊎_elim (λ a. absurd (other a.0)) (λ a. (a.0, a.1, a.2, a.3)) (plan_allowed plan)
