-- The children of a sequence, in the order of their places.
use Rattle.std.proofs.Common.{◌≡◌, ℕ, suc, ◌+◌, ◌-◌, ◌*◌, ◌/◌, ◌%◌, ◌^◌, ◌<◌, ◌≤◌, false, not, ltb, [], length, get_or, sym, ap, ◌∙◌, subst, ⊎_elim, mul-le-mul_right, arith}
use lib.Bits.{bit_or}
use Rattle.std.proofs.lemmas.Nat.{div-mul-add, mod-mul-add}
use Rattle.std.proofs.lemmas.Bool.{not_from_false, cases_lt, cond-true, lt-ltb}
use Rattle.masks.specs.Lists.{In, units}
use Rattle.masks.specs.Masks.{holds, joined_by}
use Rattle.masks.proofs.Counting.{num}
use Rattle.masks.proofs.Members.{kept_in, unit_in, get_or_in}
use Rattle.sequences.specs.Sequences.{sequences, last_of}
use Rattle.sequences.specs.Units.{Shows, free}
use Rattle.sequences.specs.Walks.{Under, On}
use Rattle.sequences.specs.declared.walk.Walk.{Walk}
use Rattle.sequences.proofs.Bounds.{level_most}
use Rattle.sequences.proofs.Free.{free_more, free_rank, free_at, free_absent, place_shows, place_splits}
use Rattle.sequences.proofs.Index.{rank, fans, children_count}

-- a level has n - k sequences for each one of the level above
pub fanned : (n s : ℕ) → In s (units n) → (k : ℕ) → 0 < k → length (sequences n s k) ≡ length (sequences n s (k - 1)) * (n - k)
fanned n s is k pos =
    let e : suc (k - 1) ≡ k = omega arith in
    subst (λ j. length (sequences n s j) ≡ length (sequences n s (k - 1)) * (n - j)) e (fans n s (k - 1) is)

module _ (n s : ℕ) (is : In s (units n)) (k parent above : ℕ) (pos : 0 < k) (lp : parent < length (sequences n s (k - 1))) (shows : Shows above (get_or (sequences n s (k - 1)) parent [])) where
  pub fan_is : length (free above n) ≡ n - k
  fan_is =
      let e : suc (k - 1) ≡ k = omega arith in
      ap length (free_absent above n (get_or (sequences n s (k - 1)) parent []) shows) ∙ (children_count n s (k - 1) (get_or (sequences n s (k - 1)) parent []) is (get_or_in (sequences n s (k - 1)) parent [] lp) ∙ ap (λ j. n - j) e)

  -- the child that ends in x
  module _ (i x : ℕ) (lx : x < n) (out : holds above x ≡ false) (e : i ≡ parent * (n - k) + length (free above x)) where
    pub seat : Under n s k i parent above x
    seat = record { low = lp; shows = shows; unit = lx; out = out; rank = e }

    lr : length (free above x) < n - k
    lr =
        let q = λ (y : ℕ). not (holds above y) in
        let r = rank q 0 n x 0 (kept_in q (units n) x (unit_in n x lx) (not_from_false (holds above x) out)) in
        omega (arith, r.0, free_rank above n x (omega arith), fan_is)

    pub seat_below : i < length (sequences n s k)
    seat_below = omega (arith, lr, fanned n s is k pos, mul-le-mul_right (n - k) lp)

    quotient : i / (n - k) ≡ parent
    quotient = ap (λ y. y / (n - k)) e ∙ div-mul-add parent (n - k) (length (free above x)) lr

    above_shows : Shows above (get_or (sequences n s (k - 1)) (i / (n - k)) [])
    above_shows = subst (λ y. Shows above (get_or (sequences n s (k - 1)) y [])) (sym quotient) shows

    number : x ≡ get_or (free above n) (i % (n - k)) 0
    number = free_at above n x lx out ∙ ap (λ y. get_or (free above n) y 0) (sym (ap (λ y. y % (n - k)) e ∙ mod-mul-add parent (n - k) (length (free above x)) lr))

    pub seat_shows : (m : ℕ) → m ≡ bit_or above (2 ^ x) → Shows m (get_or (sequences n s k) i [])
    seat_shows m em = place_shows n s is k i above x m pos seat_below above_shows number em

    pub seat_ends : last_of (get_or (sequences n s k) i []) ≡ x
    seat_ends = ap last_of (place_splits n s is k i above x pos seat_below above_shows number)

    -- how many of the parent's children come up to it
    pub seat_more : i + 1 ≡ parent * (n - k) + length (free above (x + 1))
    seat_more = omega (arith, e, free_more above x, ap (λ b. num (not b)) out)

    -- a walk that has come to it
    pub arrived : (units left : ℕ) → x < 32 → units ≡ joined_by above x → i + 1 + left ≡ length (sequences n s k)
        → On n s k i left units x parent above
    arrived units left fits eu rest = record {
      rest = rest;
      shows = seat_shows units (eu ∙ cond-true (ltb x 32) _ _ (lt-ltb x 32 fits));
      ends = seat_ends;
      under = λ _. seat;
    }

-- a walk that has places left is not at the root, and its place lies under its parent's
module _ (walk : Walk) (more : walk.left ≡ 0 → ⊥) where
  abbrev pub n : ℕ
  n = walk.level.units.n

  abbrev pub s : ℕ
  s = walk.level.source

  abbrev pub d : ℕ
  d = walk.level.depth

  is : In s (units n)
  is = unit_in n s walk.level.within

  pub off_root : 0 < d
  off_root = ⊎_elim (λ (p : 0 < d). p) (λ (z : d ≤ 0). let e : d ≡ 0 = omega arith in absurd (more (omega (arith, walk.on.rest, ap (λ k. length (sequences n s k)) e)))) (cases_lt 0 d)

  pub below : Under n s d walk.place walk.parent walk.above walk.last
  below = walk.on.under off_root

  pub few : walk.place + 1 + walk.left ≤ 6840
  few = omega (arith, walk.on.rest, level_most n s d is walk.level.units.most walk.level.deep)

  pub few_parents : walk.parent < 6840
  few_parents = omega (arith, below.low, level_most n s (d - 1) is walk.level.units.most (omega (arith, walk.level.deep)))

  -- the unit after the last one, among those that the parent leaves out
  module _ (next : ℕ) (rank : length (free walk.above next) ≡ length (free walk.above (walk.last + 1))) where
    next_rank : walk.place + 1 ≡ walk.parent * (n - d) + length (free walk.above next)
    next_rank = omega (arith, rank, seat_more n s is d walk.parent walk.above off_root below.low below.shows walk.place walk.last below.unit below.out below.rank)

    pub moved : (lx : next < n) → holds walk.above next ≡ false → (m : ℕ) → m ≡ joined_by walk.above next → On n s d (walk.place + 1) (walk.left - 1) m next walk.parent walk.above
    moved lx out m e = arrived n s is d walk.parent walk.above off_root below.low below.shows (walk.place + 1) next lx out next_rank m (walk.left - 1) (omega (arith, walk.level.units.most)) e (omega (arith, walk.on.rest, more))

  -- the parent leaves out none after the last one
  module _ (none : length (free walk.above n) ≡ length (free walk.above (walk.last + 1))) where
    pub parent_done : walk.place + 1 ≡ (walk.parent + 1) * (n - d)
    parent_done = omega (arith, next_rank n none, fan_is n s is d walk.parent walk.above off_root below.low below.shows)

    pub next_parent : walk.parent + 1 < length (sequences n s (d - 1))
    next_parent = ⊎_elim (λ (l : walk.parent + 1 < length (sequences n s (d - 1))). l)
        (λ (g : length (sequences n s (d - 1)) ≤ walk.parent + 1). absurd (omega (arith, mul-le-mul_right (n - d) g, fanned n s is d off_root, parent_done, walk.on.rest, more_is)))
        (cases_lt (walk.parent + 1) (length (sequences n s (d - 1))))
      where
        more_is : 0 < walk.left
        more_is = ⊎_elim (λ (p : 0 < walk.left). p) (λ (z : walk.left ≤ 0). absurd (more (omega arith))) (cases_lt 0 walk.left)
