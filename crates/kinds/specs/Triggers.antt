-- Triggers and their codes.
use Rattle.std.specs.Prelude.{ℕ, ◌+◌, ◌-◌, ◌*◌, ◌/◌, ◌%◌, cond, ℤ, pos, negsuc, ◌+ℤ◌, ◌-ℤ◌, Option, ◌==◌, unsigned_abs}
use Rattle.std.proofs.Math.Logic.Dec
use Rattle.std.proofs.Common.{lit≤}
use Rattle.std.specs.Int.Signed.{le_z_yes}
use Rattle.kinds.specs.Models.{KindModel}
use Rattle.kinds.specs.Ranges.{provided, between, between_ℤ}
use Rattle.kinds.specs.declared.trigger.Slope.{Slope}
use Rattle.kinds.specs.declared.trigger.Slope.TheVariants.{Rising, Falling}
use Rattle.kinds.specs.declared.trigger.Trigger.{Trigger}

-- The number of a slope.
abbrev pub slope_code : Slope → ℕ
slope_code Rising = 0
slope_code Falling = 1

-- The slope with a number, which is 0 or 1.
abbrev pub slope_of : ℕ → Slope
slope_of s = cond (s == 0) Rising Falling

-- The trigger with these parts, for a channel from 1 to 4 and a level from -2048 to 2047.
abbrev pub trigger_from : ℕ → Slope → ℤ → Option Trigger
trigger_from channel slope level =
    provided (Dec.and (between 1 4 channel) (between_ℤ (negsuc 2047) (pos 2047) level))
    (λ ok. record { channel = channel; slope = slope; level = level; ok = ok })

-- The code of a trigger. Its level plus 2048 is not negative, so that `unsigned_abs` is that sum.
abbrev pub trigger_code : Trigger → ℕ
trigger_code t = ((t.channel - 1) * 2 + slope_code t.slope) * 4096 + unsigned_abs (t.level +ℤ pos 2048)

-- The trigger that a number reads as: 4096 levels to a slope, two slopes to a channel.
abbrev pub trigger_of : ℕ → Option Trigger
trigger_of c = trigger_from (c / 8192 + 1) (slope_of (c / 4096 % 2)) (pos (c % 4096) -ℤ pos 2048)

-- Channel 1, rising, level 0.
abbrev pub ground_trigger : Trigger
ground_trigger = record { channel = 1; slope = Rising; level = pos 0; ok = ((lit≤ tt, lit≤ tt), (le_z_yes tt, le_z_yes tt)) }

-- Triggers as a kind.
abbrev pub trigger_model : KindModel Trigger
trigger_model = record { code_of = trigger_code; base = ground_trigger; value_of = trigger_of }
