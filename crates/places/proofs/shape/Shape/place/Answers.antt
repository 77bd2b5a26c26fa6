use Rattle.std.proofs.Common.{◌+◌, ◌-◌, ◌<◌, ◌≡◌, length, take, drop, get_or, sym, inl, inr, arith}
use Rattle.sequences.proofs.Free.{free_few}
use Rattle.places.proofs.Walking.{after_first, not_begun, begun_parts, not_next, come_next, next_few, all_places}
use Rattle.places.proofs.shape.Shape.place.Goals as goal
use Rattle.places.proofs.shape.Shape.place.Goals.{then-unit-self-via-then-unit-self, then-unit-self-via-else-unit-self+then-has}

pub returns-then-not-begins-clause-value : goal.returns-then-not-begins-clause-value
returns-then-not-begins-clause-value c = not_begun c.args.self c.args.units.now (sym c.if-not-begins.ensures)

pub returns-then-unit-self-clause-value : goal.returns-then-unit-self-clause-value
returns-then-unit-self-clause-value c =
    let us = c.args.units.now in
    let k = c.loop-k.k in
    let l : k + 1 < length us = omega (arith, c.loop-k-test.true) in
    let refused = not_next c.args.self us (k + 1) _ c.loop-k.seen (omega arith) l (after_first us k) c.loop-k.invariant.1 in
    elim c.then-unit-self.branch [
      | then-unit-self-via-then-unit-self w ↦ refused (inl w.if-unit-self.true)
      | then-unit-self-via-else-unit-self+then-has w ↦ refused (inr (sym w.if-has.ensures))
    ]

pub overflow_mul-place : goal.overflow_mul-place
overflow_mul-place c =
    let us = c.args.units.now in
    let k = c.loop-k.k in
    let l : k + 1 < length us = omega (arith, c.loop-k-test.true) in
    let parts = begun_parts c.args.self us (sym c.if-not-begins.ensures) in
    omega (arith, next_few c.args.self us (k + 1) c.loop-k.place (omega arith) (omega (arith, l)) parts.1 c.loop-k.invariant.0 c.loop-k.invariant.2)

pub overflow_add-place : goal.overflow_add-place
overflow_add-place c =
    let us = c.args.units.now in
    let k = c.loop-k.k in
    let l : k + 1 < length us = omega (arith, c.loop-k-test.true) in
    let parts = begun_parts c.args.self us (sym c.if-not-begins.ensures) in
    omega (
      arith,
      next_few c.args.self us (k + 1) c.loop-k.place (omega arith) (omega (arith, l)) parts.1 c.loop-k.invariant.0 c.loop-k.invariant.2,
      free_few c.loop-k.seen (get_or (take (length us - 1) (drop 1 us)) k 0),
    )

pub loop-k-preserved : goal.loop-k-preserved
loop-k-preserved c =
    let us = c.args.units.now in
    let k = c.loop-k.k in
    let l : k + 1 < length us = omega (arith, c.loop-k-test.true) in
    come_next c.args.self us (k + 1) _ c.loop-k.seen (omega arith) l (after_first us k) c.loop-k.invariant.1 c.loop-k.place c.absent_below.result c.with-seen-in-loop-k.result c.if-unit-self.false (sym c.if-has.ensures) c.loop-k.invariant.0 c.loop-k.invariant.2 c.absent_below.ensures c.with-seen-in-loop-k.ensures.value

pub returns : goal.returns
returns c =
    let us = c.args.units.now in
    let begun = sym c.if-not-begins.ensures in
    let parts = begun_parts c.args.self us begun in
    let all : c.loop-k.k + 1 ≡ length us = omega (arith, c.loop-k.auto.k-end, c.loop-k-test.false, parts.0) in
    let found = all_places c.args.self us (c.loop-k.k + 1) c.loop-k.place all begun c.loop-k.invariant.0 c.loop-k.invariant.2 in
    record { value = found.0; back = found.1; bound = found.2 }
