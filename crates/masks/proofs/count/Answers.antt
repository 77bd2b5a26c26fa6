use Rattle.masks.proofs.Bits.{size_ones}
use Rattle.masks.proofs.count.Goals as goal

pub returns : goal.returns
returns c = size_ones c.args.mask c.ranges.mask.fits
