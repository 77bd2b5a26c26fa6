use Rattle.std.proofs.Common.{◌≡◌, ◌+◌, ◌<◌, not, ltb, length, get_or, Some, sym, ap, ◌∙◌, arith}
use Rattle.std.proofs.lemmas.List.Sums.{count_by-le-length}
use Rattle.std.proofs.lemmas.Option.{slice_get-get_or, slice_get_past}
use Rattle.masks.proofs.Counting.{num}
use Rattle.sequences.specs.Units.{free}
use Rattle.sequences.proofs.Free.{free_more, free_few, free_rank, free_at}
use Rattle.sequences.proofs.ranks.absent_at.Goals as goal
use Rattle.sequences.proofs.ranks.absent_at.Goals.{then-not-has+else-seen-j, else-not-has}

pub returns-then-seen-j : goal.returns-then-seen-j
returns-then-seen-j c =
    let m = c.args.mask in
    let n = c.args.n in
    let x = c.loop-x.x in
    let out = sym c.if-not-has.ensures in
    let is_j : length (free m x) ≡ c.args.j = sym c.loop-x.invariant.0 ∙ c.if-seen-j.true in
    let low : c.args.j < length (free m n) =
    omega (arith, is_j, free_more m x, ap (λ b. num (not b)) out, free_rank m n (x + 1) (omega (arith, c.loop-x-test.true)), count_by-le-length (λ u. ltb u (x + 1)) (free m n)) in
    sym (slice_get-get_or (free m n) c.args.j 0 low ∙ ap Some (ap (λ k. get_or (free m n) k 0) (sym is_j) ∙ sym (free_at m n x c.loop-x-test.true out)))

pub overflow_add-seen : goal.overflow_add-seen
overflow_add-seen c = omega (arith, free_few c.args.mask c.loop-x.x, c.loop-x.invariant.0)

pub loop-x-preserved : goal.loop-x-preserved
loop-x-preserved c =
    let more = free_more c.args.mask c.loop-x.x in
    elim c.if-not-has.branch [
      | then-not-has+else-seen-j w ↦ (omega (arith, w.seen-is, more, c.loop-x.invariant.0, ap (λ b. num (not b)) (sym w.if-not-has.ensures)), omega (arith, w.seen-is, w.if-seen-j.false, c.loop-x.invariant.1))
      | else-not-has w ↦ (omega (arith, w.seen-is, more, c.loop-x.invariant.0, ap (λ b. num (not b)) (sym w.if-not-has.ensures)), omega (arith, w.seen-is, c.loop-x.invariant.1))
    ]

pub returns : goal.returns
returns c =
    let all : c.loop-x.x ≡ c.args.n = omega arith in
    sym (slice_get_past (free c.args.mask c.args.n) c.args.j (omega (arith, c.loop-x.invariant, ap (λ y. length (free c.args.mask y)) all)))
