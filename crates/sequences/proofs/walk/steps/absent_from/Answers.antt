use Rattle.std.proofs.Common.{◌≡◌, true, false, rules, tests}
use Rattle.std.proofs.lemmas.Iterator.{first_from_Range}
use Rattle.masks.specs.Masks.{holds}
use Rattle.sequences.proofs.Free.{first_absent}
use Rattle.sequences.proofs.walk.steps.absent_from.Goals as goal

pub returns : goal.returns
returns c =
    first_absent c.args.mask c.args.n c.args.x c.find.result c.requires
    (first_from_Range _ _ _ c.find.result (λ y. holds c.args.mask y ≡ false) (λ y. holds c.args.mask y ≡ true) c.find.ensures.ran (λ x q k. search (rules, tests)) (λ x q k. search (rules, tests)))
