use Rattle.std.proofs.Common.{◌≡◌, ℕ, ℤ, ◌∙◌, arith}
use borrow.Author.Differences.{ints}
use Rattle.kinds.specs.declared.trigger.Slope.{Slope}
use Rattle.kinds.specs.Triggers.{trigger_from}
use Rattle.kinds.proofs.trigger.coding.TriggerKind.read.Goals as goal

equal_parts : (channel : ℕ) (s z : Slope) (k l : ℤ) → s ≡ z → k ≡ l → trigger_from channel s k ≡ trigger_from channel z l
equal_parts channel s z k l e f = cc

pub returns : goal.returns
returns c = c.new.ensures ∙ equal_parts _ _ _ _ _ c.of-slope.ensures (omega (arith, ints))
