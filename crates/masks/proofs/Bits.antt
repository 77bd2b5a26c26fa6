-- The bits of a mask: of a joined mask, past the top, counted, and all below a bound.
use Rattle.std.proofs.Common.{◌≡◌, ℕ, zero, suc, ◌+◌, ◌-◌, ◌*◌, ◌/◌, ◌%◌, ◌^◌, ◌<◌, ◌≤◌, max, Bool, true, false, not, ◌&&◌, ◌||◌, eqb, ltb, count_by, sym, refl, ap, ◌∙◌, ⊎_elim, pow-suc, zero-mul, add-one, one-add, arith, pow_pos, pow_mono}
use native.Mathlib.Nat.{div-eq_of_lt}
use lib.Bits.{bit_or, or_step, or_shr}
use lib.Count.{ones, ones_step, ones_cat, ones-le}
use Rattle.std.proofs.lemmas.Nat.{shr-shr, shr_split, mod-pow-add, mod_below, div_below, le-div}
use Rattle.std.proofs.lemmas.Bool.{cases_Bool, cases_lt, ne_eqb, eq-eqb, lt-ltb, le-ltb, ltb-true, or_cases, not-true, not_from_false, or_left, or_right, both_ways}
use Rattle.std.proofs.lemmas.Bool.Decides.{nat_tests}
use Rattle.masks.specs.Lists.{units}
use Rattle.masks.specs.Masks.{holds, joined_by, size, within}
use Rattle.masks.proofs.Counting.{num, count_more}
use Rattle.masks.proofs.Members.{every_has, every_from, counting_in}

-- no bit past the top is set
pub high_bit : (k m i : ℕ) → m < 2 ^ k → k ≤ i → holds m i ≡ false
high_bit k m i low past =
    let p : 2 ^ k ≤ 2 ^ i = pow_mono past in
    let z : m / 2 ^ i ≡ 0 = div-eq_of_lt (omega arith) in
    rw z

bit_of_or : (x y : ℕ) → x < 2 → y < 2 → eqb (max x y) 1 ≡ (eqb x 1 || eqb y 1)
bit_of_or zero zero p q = refl
bit_of_or zero (suc zero) p q = refl
bit_of_or (suc zero) zero p q = refl
bit_of_or (suc zero) (suc zero) p q = refl
bit_of_or zero (suc (suc y)) p q = absurd (omega arith)
bit_of_or (suc zero) (suc (suc y)) p q = absurd (omega arith)
bit_of_or (suc (suc x)) y p q = absurd (omega arith)

-- a bit of two masks joined
pub or_holds : (a b i : ℕ) → holds (bit_or a b) i ≡ (holds a i || holds b i)
or_holds a b i =
    let odd : bit_or (a / 2 ^ i) (b / 2 ^ i) % 2 ≡ max (a / 2 ^ i % 2) (b / 2 ^ i % 2) = omega (arith, or_step (a / 2 ^ i) (b / 2 ^ i)) in
    rw (or_shr a b i, odd) (bit_of_or (a / 2 ^ i % 2) (b / 2 ^ i % 2) (omega arith) (omega arith))

-- the bits of the upper part
up : (m i : ℕ) → holds m (suc i) ≡ holds (m / 2) i
up m i =
    let e : m / 2 ^ suc i ≡ m / 2 / 2 ^ i = ap (λ k. m / 2 ^ k) (sym (one-add i)) ∙ sym (shr-shr m 1 i) in
    ap (λ k. eqb (k % 2) 1) e

no_bit : (j : ℕ) → holds 0 j ≡ false
no_bit j = let e : 0 / 2 ^ j ≡ 0 = omega (arith, shr_split 0 j, pow_pos j) in ap (λ k. eqb (k % 2) 1) e

-- the mask of one unit
pub one_bit : (i j : ℕ) → holds (2 ^ i) j ≡ eqb i j
one_bit zero zero = refl
one_bit zero (suc j) = up 1 j ∙ (no_bit j ∙ sym (ne_eqb 0 (suc j) (λ e. omega arith)))
one_bit (suc i) zero =
    let t = pow-suc 2 i in
    let r : 2 ^ suc i / 1 % 2 ≡ 0 = omega arith in
    ap (λ k. eqb k 1) r ∙ sym (ne_eqb (suc i) 0 (λ e. omega arith))
one_bit (suc i) (suc j) =
    let t = pow-suc 2 i in
    let h : 2 ^ suc i / 2 ≡ 2 ^ i = omega arith in
    up (2 ^ suc i) j ∙ (ap (λ k. holds k j) h ∙ (one_bit i j ∙ grind (arith, nat_tests)))

-- a mask with one unit more
pub bit_joined : (m u i : ℕ) → holds (bit_or m (2 ^ u)) i ≡ (holds m i || eqb u i)
bit_joined m u i = or_holds m (2 ^ u) i ∙ ap (λ b. holds m i || b) (one_bit u i)

or_none : (b c : Bool) → b ≡ (b || (false && c))
or_none true c = refl
or_none false c = refl

pub bit_with : (m u i : ℕ) → holds (joined_by m u) i ≡ (holds m i || (ltb u 32 && eqb u i))
bit_with m u i = ⊎_elim
    (λ t. rw t (bit_joined m u i))
    (λ f. rw f (or_none (holds m i) (eqb u i)))
    (cases_Bool (ltb u 32))

-- the ones of a mask are its units
one : (b : ℕ) → b < 2 → num (eqb b 1) ≡ ones b
one zero l = omega (arith, ones-le 0 0 (omega arith))
one (suc zero) l = omega (arith, ones_step 1, ones-le 0 0 (omega arith))
one (suc (suc b)) l = absurd (omega arith)

pub ones_counted : (m n : ℕ) → count_by (holds m) (units n) ≡ ones (m % 2 ^ n)
ones_counted m zero = let e : m % 1 ≡ 0 = omega arith in omega (arith, ap ones e, ones-le 0 0 (omega arith))
ones_counted m (suc n) =
    let b = m / 2 ^ n % 2 in
    let e : m % 2 ^ suc n ≡ b * 2 ^ n + m % 2 ^ n = ap (λ k. m % 2 ^ k) (sym (one-add n)) ∙ mod-pow-add m 1 n in
    let f : ones (m % 2 ^ suc n) ≡ ones b + ones (m % 2 ^ n) = ap ones e ∙ ones_cat n b (m % 2 ^ n) (mod_below m (2 ^ n) (pow_pos n)) in
    omega (arith, ap (λ k. count_by (holds m) (units k)) (add-one n), count_more (holds m) n, ones_counted m n, f, one b (mod_below (m / 2 ^ n) 2 (omega arith)))

pub size_ones : (m : ℕ) → m < 2 ^ 32 → ones m ≡ size m
unfolding size
size_ones m low = let e : m % 2 ^ 32 ≡ m = omega arith in sym (ones_counted m 32 ∙ ap ones e)

-- a mask below 2 ^ n has no unit from n on, and any other has one
top_bit : (k n m : ℕ) → m < 2 ^ (n + k) → ((i : ℕ) → n ≤ i → i < n + k → holds m i ≡ false) → m < 2 ^ n
top_bit zero n m low none = let e : n + 0 ≡ n = omega arith in rw e at low
top_bit (suc k) n m low none =
    let e : n + suc k ≡ suc (n + k) = omega arith in
    let p = pow-suc 2 (n + k) in
    let l : m < 2 ^ suc (n + k) = rw e at low in
    let q : m / 2 ^ (n + k) < 2 = div_below m (2 ^ (n + k)) 2 (pow_pos (n + k)) (omega arith) in
    let z : m / 2 ^ (n + k) ≡ 0 = ⊎_elim
    (λ h. absurd (both_ways (holds m (n + k)) (none (n + k) (omega arith) (omega arith)) (h)))
    (λ h. zero_of (m / 2 ^ (n + k)) q h) (cases_Bool (holds m (n + k))) in
    let s : m / 2 ^ (n + k) * 2 ^ (n + k) + m % 2 ^ (n + k) ≡ m = shr_split m (n + k) in
    let t : m / 2 ^ (n + k) * 2 ^ (n + k) ≡ 0 = ap (λ x. x * 2 ^ (n + k)) z ∙ zero-mul (2 ^ (n + k)) in
    let r = mod_below m (2 ^ (n + k)) (pow_pos (n + k)) in
    top_bit k n m (omega arith) (λ i a b. none i a (omega arith))
  where
    zero_of : (x : ℕ) → x < 2 → eqb (x % 2) 1 ≡ false → x ≡ 0
    zero_of zero l f = refl
    zero_of (suc zero) l f = absurd (both_ways true f refl)
    zero_of (suc (suc x)) l f = absurd (omega arith)

pub within_low : (m n : ℕ) → m < 2 ^ n → within m n ≡ true
unfolding within
within_low m n low = every_from (λ i. not (holds m i) || ltb i n) (units 32) (λ i _. ⊎_elim
    (λ l. or_right (not (holds m i)) (ltb i n) (lt-ltb i n l))
    (λ l. or_left (not (holds m i)) (ltb i n) (not_from_false (holds m i) (high_bit n m i low l)))
    (cases_lt i n))

within_top : (m n k : ℕ) → n + k ≡ 32 → m < 2 ^ 32 → within m n ≡ true → m < 2 ^ n
unfolding within
within_top m n k e low t = top_bit k n m (rw e low) (λ i a b.
    ⊎_elim (λ h. not-true (holds m i) h) (λ h. absurd (omega (arith, ltb-true i n h)))
    (or_cases (not (holds m i)) (ltb i n) (every_has (λ i. not (holds m i) || ltb i n) (units 32) i t (counting_in 0 32 i (omega arith) (omega arith)))))

-- so for a mask of 32 bits the test on its units is one on numbers
pub within_number : (m n : ℕ) → m < 2 ^ 32 → within m n ≡ ltb m (2 ^ n)
within_number m n low = ⊎_elim
    (λ l. within_low m n l ∙ sym (lt-ltb m (2 ^ n) l))
    (λ l. ⊎_elim
    (λ t. absurd (omega (arith, within_top m n (32 - n) (omega (arith, few l)) low t)))
    (λ f. f ∙ sym (le-ltb m (2 ^ n) l))
    (cases_Bool (within m n)))
    (cases_lt m (2 ^ n))
  where
    few : 2 ^ n ≤ m → n < 32
    few l = ⊎_elim (λ h. h) (λ h. let p : 2 ^ 32 ≤ 2 ^ n = pow_mono h in absurd (omega arith)) (cases_lt n 32)

-- nothing is left of a mask shifted by n where it is below 2 ^ n
pub shr_none : (m n : ℕ) → eqb (m / 2 ^ n) 0 ≡ ltb m (2 ^ n)
shr_none m n = ⊎_elim
    (λ l. let z : m / 2 ^ n ≡ 0 = div-eq_of_lt l in eq-eqb (m / 2 ^ n) 0 z ∙ sym (lt-ltb m (2 ^ n) l))
    (λ l. let one : 1 ≤ m / 2 ^ n = le-div 1 m (2 ^ n) (pow_pos n) (omega arith) in ne_eqb (m / 2 ^ n) 0 (λ e. omega arith) ∙ sym (le-ltb m (2 ^ n) l))
    (cases_lt m (2 ^ n))
