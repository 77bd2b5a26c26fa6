use Rattle.std.proofs.Common.{◌≡◌, ◌^◌, ◌<◌, ◌≤◌, ltb, leb, sym, ◌∙◌, arith, pow_mono}
use Rattle.std.proofs.lemmas.Bool.{le-leb, lt-ltb}
use Rattle.masks.proofs.Bits.{within_number, shr_none}
use Rattle.masks.proofs.all_below.Goals as goal

pub returns-then-n-ge-BITS : goal.returns-then-n-ge-BITS
returns-then-n-ge-BITS c =
    let m = c.args.mask in
    let n = c.args.n in
    let h : 32 ≤ n = omega arith in
    let p : 2 ^ 32 ≤ 2 ^ n = pow_mono h in
    let low : m < 2 ^ 32 = c.ranges.mask.fits in
    let e : leb 32 n ≡ ltb m (2 ^ n) = le-leb 32 n h ∙ sym (lt-ltb m (2 ^ n) (omega arith)) in
    record { value = e ∙ sym (within_number m n low); number = e }

pub returns-else-n-ge-BITS : goal.returns-else-n-ge-BITS
returns-else-n-ge-BITS c =
    let m = c.args.mask in
    let n = c.args.n in
    record { value = shr_none m n ∙ sym (within_number m n c.ranges.mask.fits); number = shr_none m n }
