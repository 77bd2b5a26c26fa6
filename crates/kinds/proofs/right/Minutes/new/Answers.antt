use Rattle.std.proofs.Common.{sym}
use Rattle.kinds.specs.RightCodes.{minutes_in}
use Rattle.kinds.proofs.right.Minutes.new.Goals as goal

pub returns : goal.returns
returns c = sym (minutes_in _)
