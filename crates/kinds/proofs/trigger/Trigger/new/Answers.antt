use Rattle.std.proofs.Common.{sym, refl, arith}
use borrow.Author.Differences.{ints}
use Rattle.kinds.specs.TriggerCodes.{from_parts}
use Rattle.kinds.proofs.trigger.Trigger.new.Goals as goal

pub returns : goal.returns
returns c = sym (from_parts _ _ _ _ refl refl (omega (arith, ints)))
