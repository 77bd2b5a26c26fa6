use Rattle.std.proofs.Common.{◌≡◌, ◌∷◌, take, sym, ap, ◌∙◌, subst, arith, rules}
use Rattle.std.proofs.Output.{has_written_append, has_written_of_eq}
use Rattle.std.specs.Fmt.{HasWritten, decimal}
use Rattle.std.specs.List.{flat_map}
use Rattle.std.proofs.lemmas.List.{take_all}
use Rattle.plans.specs.Schedules.{blocks}
use Rattle.plans.proofs.Texts.{few_blocks, text_more, text_done}
use Rattle.plans.proofs.printing.BlocksDisplay.fmt.Goals as goal
use Rattle.plans.proofs.printing.BlocksDisplay.fmt.Goals.{in-Some+in_ok-write, in_default}

pub loop-i-preserved : goal.loop-i-preserved
loop-i-preserved g c =
    let plan = c.args.self.now.plan in
    let bs = blocks plan.t plan.gear in
    λ plain. elim c.match-block.branch [
      | in-Some+in_ok-write w ↦
          has_written_of_eq _ _ _ _ _ (text_more (λ block. 32 ∷ decimal block) bs c.loop-i.i w.in-Some.block (sym c.block.ensures ∙ w.in-Some.is)) (has_written_append _ _ _ _ _ _ (c.loop-i.invariant plain) (search rules))
      | in_default w ↦
          has_written_of_eq _ _ _ _ _ (text_done (λ block. 32 ∷ decimal block) bs c.loop-i.i (sym c.block.ensures ∙ w.in_default.is)) (subst (λ f. HasWritten g.W.Write.write_str_gives c.args.f.now (flat_map (λ block. 32 ∷ decimal block) (take c.loop-i.i bs)) f) (sym w.f-is) (c.loop-i.invariant plain))
    ]

pub returns-clause-writes : goal.returns-clause-writes
returns-clause-writes g c =
    let plan = c.args.self.now.plan in
    let all : take c.loop-i.i (blocks plan.t plan.gear) ≡ blocks plan.t plan.gear = take_all c.loop-i.i (blocks plan.t plan.gear) (omega (arith, few_blocks plan.t plan.gear)) in
    λ plain _. has_written_of_eq _ _ _ _ _ (ap (flat_map (λ block. 32 ∷ decimal block)) all) (c.loop-i.invariant plain)
