-- The units that a mask leaves out, and the mask of a sequence.
use Rattle.std.proofs.Common.{◌≡◌, ℕ, zero, suc, ◌+◌, ◌-◌, ◌*◌, ◌/◌, ◌%◌, ◌^◌, ◌<◌, ◌≤◌, Bool, true, false, cond, not, ◌||◌, eqb, ltb, List, [], ◌∷◌, length, get_or, MatchOption, Option, None, Some, count_by, filter, sym, refl, ap, ◌∙◌, subst, ap₂, add-one, one-add, ⊎_elim, arith, pow_pos}
use lib.Bits.{bit_or}
use lib.Count.{ones, ones_step, ones_cat, ones-le}
use Rattle.std.specs.List.{range_with_len}
use Rattle.std.specs.Option.{IsSome}
use Rattle.std.proofs.Math.Bool.{or_comm}
use Rattle.std.proofs.Math.Path.{fun_ext}
use Rattle.std.proofs.lemmas.List.Sums.{length-filter, count_by-le-length}
use Rattle.std.proofs.lemmas.Nat.{mod-pow-add, mod_below}
use Rattle.std.proofs.lemmas.List.FromFn.{length-range_with_len}
use Rattle.std.proofs.lemmas.Bool.{cases_lt, lt-ltb, not_from_false}
use Rattle.std.proofs.lemmas.Bool.Decides.{nat_tests}
use Rattle.masks.specs.Lists.{In, units}
use Rattle.masks.specs.Masks.{holds}
use Rattle.masks.proofs.Bits.{one_bit, bit_joined}
use Rattle.masks.proofs.Counting.{num, count_cons, count_more}
use Rattle.masks.proofs.Members.{in_kept, kept_in, counting_in, in_counting, get_or_in}
use Rattle.sequences.specs.Sequences.{among, absent, sequences}
use Rattle.sequences.specs.Units.{Shows, free}
use Rattle.sequences.proofs.Index.{none_below, rank, level_digit}

pub free_more : (m x : ℕ) → length (free m (x + 1)) ≡ length (free m x) + num (not (holds m x))
free_more m x =
    let q = λ (y : ℕ). not (holds m y) in
    omega (arith, length-filter q (units (x + 1)), length-filter q (units x), count_more q x)

pub free_few : (m x : ℕ) → length (free m x) ≤ x
free_few m x = omega (arith, length-filter (λ y. not (holds m y)) (units x), count_by-le-length (λ y. not (holds m y)) (units x), length-range_with_len 0 x)

-- of what passes, as much is below a + m as is kept of the first m
rank_low : (q : ℕ → Bool) (a n m : ℕ) → m ≤ n → count_by (λ u. ltb u (a + m)) (filter q (range_with_len a n)) ≡ length (filter q (range_with_len a m))
rank_low q a n zero l = none_below q a n (a + 0) (omega arith)
rank_low q a zero (suc m) l = absurd (omega arith)
rank_low q a (suc n) (suc m) l =
    let e : a + 1 + m ≡ a + suc m = omega arith in
    let ih = ap (λ w. count_by (λ u. ltb u w) (filter q (range_with_len (a + 1) n))) (sym e) ∙ rank_low q (a + 1) n m (omega arith) in
    let xs = filter q (range_with_len (a + 1) n) in
    let ys = filter q (range_with_len (a + 1) m) in
    both (q a) xs ys (omega (arith, count_cons (λ u. ltb u (a + suc m)) a xs, ap num (lt-ltb a (a + suc m) (omega arith)))) ih
  where
    both : (b : Bool) (xs ys : List ℕ) → count_by (λ u. ltb u (a + suc m)) (a ∷ xs) ≡ suc (count_by (λ u. ltb u (a + suc m)) xs)
        → count_by (λ u. ltb u (a + suc m)) xs ≡ length ys → count_by (λ u. ltb u (a + suc m)) (cond b (a ∷ xs) xs) ≡ length (cond b (a ∷ ys) ys)
    both true xs ys f g = omega arith
    both false xs ys f g = g

-- the units below w that the mask leaves out
pub free_rank : (m n w : ℕ) → w ≤ n → count_by (λ u. ltb u w) (free m n) ≡ length (free m w)
free_rank m n w l = let z : 0 + w ≡ w = omega arith in ap (λ y. count_by (λ u. ltb u y) (free m n)) (sym z) ∙ rank_low (λ y. not (holds m y)) 0 n w l

pub free_at : (m n x : ℕ) → x < n → holds m x ≡ false → x ≡ get_or (free m n) (length (free m x)) 0
free_at m n x l out =
    let q = λ (y : ℕ). not (holds m y) in
    let r = rank q 0 n x 0 (kept_in q (units n) x (counting_in 0 n x (omega arith) (omega arith)) (not_from_false (holds m x) out)) in
    sym (ap (λ k. get_or (free m n) k 0) (sym (free_rank m n x (omega arith))) ∙ r.1)

pub free_absent : (m n : ℕ) (α : List ℕ) → Shows m α → free m n ≡ absent n α
free_absent m n α shows = ap (λ test. filter test (units n)) (fun_ext (λ x. ap not (shows x)))

pub root_shows : (m s : ℕ) → m ≡ 2 ^ s → Shows m (s ∷ [])
root_shows m s e u = ap (λ x. holds x u) e ∙ (one_bit s u ∙ grind (arith, nat_tests))

eqb_swap : (a b : ℕ) → eqb a b ≡ eqb b a
eqb_swap a b = grind (arith, nat_tests)

pub child_shows : (m w : ℕ) (β : List ℕ) → Shows m β → Shows (bit_or m (2 ^ w)) (w ∷ β)
child_shows m w β shows u = bit_joined m w u ∙ (ap₂ (λ a b. a || b) (shows u) (eqb_swap w u) ∙ or_comm (among β u) (eqb u w))

module _ (n s : ℕ) (is : In s (units n)) where
  -- the parent's place, and the number of the child
  pub parent_place : (k i : ℕ) → 0 < k → i < length (sequences n s k) → i / (n - k) < length (sequences n s (k - 1))
  parent_place zero i p l = absurd (omega arith)
  parent_place (suc k) i p l = let e : suc k - 1 ≡ k = omega arith in subst (λ j. i / (n - suc k) < length (sequences n s j)) (sym e) (level_digit n s is k i l).0

  pub child_number : (k i m : ℕ) → 0 < k → i < length (sequences n s k) → Shows m (get_or (sequences n s (k - 1)) (i / (n - k)) []) → i % (n - k) < length (free m n)
  child_number zero i m p l shows = absurd (omega arith)
  child_number (suc k) i m p l shows =
      let e : suc k - 1 ≡ k = omega arith in
      let β = get_or (sequences n s k) (i / (n - suc k)) [] in
      let sh : Shows m β = subst (λ j. Shows m (get_or (sequences n s j) (i / (n - suc k)) [])) e shows in
      omega (arith, (level_digit n s is k i l).1, ap length (free_absent m n β sh))

-- where the mask holds all from x up to y, it leaves out as many below either
free_same : (m x y : ℕ) → x ≤ y → ((k : ℕ) → x ≤ k → k < y → holds m k ≡ true) → length (free m y) ≡ length (free m x)
free_same m x zero l all = let e : 0 ≡ x = omega arith in ap (λ k. length (free m k)) e
free_same m x (suc y) l all = ⊎_elim
    (λ (p : y < x). let e : suc y ≡ x = omega arith in ap (λ k. length (free m k)) e)
    (λ (p : x ≤ y). omega (arith, ap (λ k. length (free m k)) (add-one y), free_more m y, ap (λ b. num (not b)) (all y p (omega arith)), free_same m x y p (λ k a b. all k a (omega arith))))
    (cases_lt y x)

-- the first unit from x on that the mask leaves out, by the first one that passes the test
pub first_absent : (m n x : ℕ) (found : Option ℕ) → x ≤ n
    → MatchOption found ((k : ℕ) → x ≤ k → k < n → holds m k ≡ true) (λ y. (x ≤ y) × (y < n) × (holds m y ≡ false) × ((k : ℕ) → x ≤ k → k < y → holds m k ≡ true))
    → MatchOption found (length (free m n) ≡ length (free m x)) (λ y. (y < n) × (holds m y ≡ false) × (length (free m y) ≡ length (free m x)))
first_absent m n x None l all = free_same m x n l all
first_absent m n x (Some y) l first = (first.1, first.2, free_same m x y first.0 first.3)

pub is_there : (found : Option ℕ) (A : Type 0) (B : ℕ → Type 0) → MatchOption found A B → (A → ⊥) → IsSome found
is_there None A B none never = absurd (never none)
is_there (Some x) A B some never = refl

pub free_below : (m n j : ℕ) → j < length (free m n) → get_or (free m n) j 0 < n
free_below m n j l =
    let q = λ (y : ℕ). not (holds m y) in
    let i = in_counting 0 n (get_or (free m n) j 0) (in_kept q (units n) (get_or (free m n) j 0) (get_or_in (free m n) j 0 l)).0 in
    omega arith

-- the sequence at a place ends in the unit of its number among those that its parent leaves out
pub place_splits : (n s : ℕ) (is : In s (units n)) (k i m w : ℕ) → 0 < k → i < length (sequences n s k) → Shows m (get_or (sequences n s (k - 1)) (i / (n - k)) [])
    → w ≡ get_or (free m n) (i % (n - k)) 0 → get_or (sequences n s k) i [] ≡ w ∷ get_or (sequences n s (k - 1)) (i / (n - k)) []
place_splits n s is zero i m w p l shows is_w = absurd (omega arith)
place_splits n s is (suc k) i m w p l shows is_w =
    let e : suc k - 1 ≡ k = omega arith in
    let β = get_or (sequences n s k) (i / (n - suc k)) [] in
    let sh : Shows m β = subst (λ j. Shows m (get_or (sequences n s j) (i / (n - suc k)) [])) e shows in
    let ew : w ≡ get_or (absent n β) (i % (n - suc k)) 0 = is_w ∙ ap (λ xs. get_or xs (i % (n - suc k)) 0) (free_absent m n β sh) in
    subst (λ j. get_or (sequences n s (suc k)) i [] ≡ w ∷ get_or (sequences n s j) (i / (n - suc k)) []) (sym e) ((level_digit n s is k i l).2 ∙ ap (λ x. x ∷ β) (sym ew))

pub place_shows : (n s : ℕ) (is : In s (units n)) (k i m w r : ℕ) → 0 < k → i < length (sequences n s k) → Shows m (get_or (sequences n s (k - 1)) (i / (n - k)) [])
    → w ≡ get_or (free m n) (i % (n - k)) 0 → r ≡ bit_or m (2 ^ w) → Shows r (get_or (sequences n s k) i [])
place_shows n s is k i m w r p l shows is_w is_r =
    let β = get_or (sequences n s (k - 1)) (i / (n - k)) [] in
    subst (λ γ. Shows r γ) (sym (place_splits n s is k i m w p l shows is_w)) (subst (λ x. Shows x (w ∷ β)) (sym is_r) (child_shows m w β shows))

bit : (b : ℕ) → b < 2 → num (not (eqb b 1)) + ones b ≡ 1
bit zero l = omega (arith, ones-le 0 0 (omega arith))
bit (suc zero) l = omega (arith, ones_step 1, ones-le 0 0 (omega arith))
bit (suc (suc b)) l = absurd (omega arith)

pub free_ones : (m x : ℕ) → length (free m x) + ones (m % 2 ^ x) ≡ x
free_ones m zero = let e : m % 1 ≡ 0 = omega arith in omega (arith, ap ones e, ones-le 0 0 (omega arith))
free_ones m (suc x) =
    let b = m / 2 ^ x % 2 in
    let e : m % 2 ^ suc x ≡ b * 2 ^ x + m % 2 ^ x = ap (λ k. m % 2 ^ k) (sym (one-add x)) ∙ mod-pow-add m 1 x in
    let f : ones (m % 2 ^ suc x) ≡ ones b + ones (m % 2 ^ x) = ap ones e ∙ ones_cat x b (m % 2 ^ x) (mod_below m (2 ^ x) (pow_pos x)) in
    let lb : b < 2 = mod_below (m / 2 ^ x) 2 (omega arith) in
    omega (arith, ap (λ y. length (free m y)) (add-one x), free_more m x, free_ones m x, f, bit b lb)
