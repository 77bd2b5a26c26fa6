use Rattle.std.proofs.Common.{◌≡◌, ◌*◌, ◌%◌, ◌^◌, ap, ◌∙◌, arith}
use lib.Bits.{bit_or}
use Rattle.std.proofs.lemmas.Nat.{one_shl}
use Rattle.std.proofs.lemmas.Bool.{lt-ltb, le-ltb}
use Rattle.masks.specs.Masks.{holds, joined_by}
use Rattle.masks.proofs.Bits.{bit_with}
use Rattle.masks.proofs.with.Goals as goal

pub returns-then-unit-lt-BITS : goal.returns-then-unit-lt-BITS
returns-then-unit-lt-BITS c =
    let m = c.args.mask in
    let u = c.args.unit in
    let e : bit_or m (1 * 2 ^ u % 4294967296) ≡ joined_by m u = rw (lt-ltb u 32 (omega arith)) (ap (bit_or m) (one_shl u 32 (omega arith))) in
    record { value = e; units = λ i. ap (λ k. holds k i) e ∙ bit_with m u i }

pub returns-else-unit-lt-BITS : goal.returns-else-unit-lt-BITS
returns-else-unit-lt-BITS c =
    let m = c.args.mask in
    let u = c.args.unit in
    let e : m ≡ joined_by m u = rw (le-ltb u 32 (omega arith)) in
    record { value = e; units = λ i. ap (λ k. holds k i) e ∙ bit_with m u i }
