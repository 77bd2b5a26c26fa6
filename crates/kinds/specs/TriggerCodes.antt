-- Codes of triggers lie below 2^31 and read back.
use Rattle.std.specs.Prelude.{◌≡◌, ℕ, ◌+◌, ◌/◌, ◌%◌, ◌^◌, ◌<◌, ℤ, pos, negsuc, ◌-ℤ◌, Some, refl}
use Rattle.std.proofs.Common.{sym, ap, ◌∙◌, arith}
use Rattle.std.proofs.Math.Logic.Dec
use Rattle.std.proofs.lemmas.Int.{ints}
use denote.Struct.Props.{props}
use Rattle.std.proofs.lemmas.Bool.Decides.{nat_tests}
use Rattle.kinds.specs.declared.trigger.Slope.{Slope}
use Rattle.kinds.specs.declared.trigger.Slope.TheVariants.{Rising, Falling}
use Rattle.kinds.specs.declared.trigger.Trigger.{Trigger}
use Rattle.kinds.specs.Models.{Lawful}
use Rattle.kinds.specs.Ranges.{between, between_ℤ}
use Rattle.kinds.specs.Triggers.{slope_code, slope_of, trigger_from, trigger_code, trigger_of, trigger_model}
use Rattle.kinds.specs.RangeFacts.{provided_in, provided_some}

-- a trigger is what is made of its parts
pub from_parts : (t : Trigger) (channel : ℕ) (slope : Slope) (level : ℤ) → channel ≡ t.channel → slope ≡ t.slope → level ≡ t.level → trigger_from channel slope level ≡ Some t
from_parts t channel slope level e f g =
    rw (e, f, g)
    (provided_in _ (Dec.and (between 1 4 t.channel) (between_ℤ (negsuc 2047) (pos 2047) t.level)) (hlevel props) t.ok)

-- triggers with equal parts are equal
pub same_parts : (a b : Trigger) → a.channel ≡ b.channel → a.slope ≡ b.slope → a.level ≡ b.level → a ≡ b
same_parts a b e f g =
    let left = from_parts a a.channel a.slope a.level refl refl refl in
    let right = from_parts b a.channel a.slope a.level e f g in
    cc

slope_bit : (s : Slope) → slope_code s < 2
slope_bit Rising = omega arith
slope_bit Falling = omega arith

slope_reads : (s : Slope) → slope_of (slope_code s) ≡ s
slope_reads Rising = refl
slope_reads Falling = refl

slope_coded : (s : ℕ) → s < 2 → slope_code (slope_of s) ≡ s
slope_coded s h = grind (arith, nat_tests)

trigger_below : (t : Trigger) → trigger_code t < 2 ^ 31
trigger_below t = omega (arith, ints, slope_bit t.slope, t.ok.0.1, t.ok.1.0, t.ok.1.1)

trigger_reads : (t : Trigger) → trigger_of (trigger_code t) ≡ Some t
trigger_reads t =
    let low = t.ok.0.0 in
    let bit = slope_bit t.slope in
    let s : trigger_code t / 4096 % 2 ≡ slope_code t.slope = omega (arith, ints, t.ok.1.0, t.ok.1.1) in
    from_parts t _ _ _
    (omega (arith, ints, t.ok.1.0, t.ok.1.1))
    (ap slope_of s ∙ slope_reads t.slope)
    (omega (arith, ints, t.ok.1.0, t.ok.1.1))

trigger_coded : (c : ℕ) (t : Trigger) → trigger_of c ≡ Some t → trigger_code t ≡ c
trigger_coded c t e =
    let p = provided_some _ (Dec.and (between 1 4 (c / 8192 + 1)) (between_ℤ (negsuc 2047) (pos 2047) (pos (c % 4096) -ℤ pos 2048))) t e in
    let s = slope_coded (c / 4096 % 2) (omega arith) in
    sym (ap trigger_code p.1) ∙ omega (arith, ints)

pub trigger_lawful : Lawful trigger_model
trigger_lawful = record { below = trigger_below; reads = trigger_reads; coded = trigger_coded }
