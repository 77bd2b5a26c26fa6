use Rattle.std.proofs.Common.{refl}
use Rattle.masks.proofs.Bits.{or_holds}
use Rattle.masks.proofs.join.Goals as goal

pub returns : goal.returns
returns c = record { value = refl; units = or_holds c.args.a c.args.b }
