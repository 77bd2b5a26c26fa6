use Rattle.std.proofs.Common.{sym, ◌∙◌, arith}
use Rattle.std.proofs.lemmas.Bool.{le-ltb}
use Rattle.masks.proofs.Bits.{high_bit}
use Rattle.masks.proofs.has.Goals as goal

pub returns-else-unit-lt-BITS : goal.returns-else-unit-lt-BITS
returns-else-unit-lt-BITS c =
    le-ltb c.args.unit 32 (omega arith) ∙ sym (high_bit 32 c.args.mask c.args.unit c.ranges.mask.fits (omega arith))
