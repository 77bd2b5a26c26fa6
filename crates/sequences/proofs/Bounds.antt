-- How large levels and trees are.
use Rattle.std.proofs.Common.{◌≡◌, ℕ, zero, suc, ◌+◌, ◌-◌, ◌*◌, ◌<◌, ◌≤◌, map, length, sum, sym, refl, ap, ◌∙◌, add-one, arith}
use Rattle.std.specs.List.{range_with_len}
use Rattle.std.proofs.lemmas.List.FromFn.{sum_by-map-range_with_len_more}
use Rattle.std.proofs.lemmas.Nat.{mul-le}
use Rattle.masks.specs.Lists.{In, units}
use Rattle.sequences.specs.Sequences.{sequences}
use Rattle.sequences.specs.Sizes.{tree_size}
use Rattle.sequences.specs.Widths.{falling, width}
use Rattle.sequences.proofs.Index.{fans}

pub wide : (n s d : ℕ) → In s (units n) → length (sequences n s d) ≡ falling n d
wide n s zero is = refl
wide n s (suc d) is = fans n s d is ∙ ap (λ w. w * (n - suc d)) (wide n s d is)

-- no level is empty
pub some_wide : (n d : ℕ) → d < n → 0 < falling n d
some_wide n zero l = omega arith
some_wide n (suc d) l = omega (arith, mul-le 1 1 (falling n d) (n - suc d) (some_wide n d (omega arith)) (omega arith))

falling_more : (n m d : ℕ) → n ≤ m → falling n d ≤ falling m d
falling_more n m zero l = omega arith
falling_more n m (suc d) l = mul-le (falling n d) (n - suc d) (falling m d) (m - suc d) (falling_more n m d l) (omega arith)

pub size_more : (n m h : ℕ) → n ≤ m → tree_size n h ≤ tree_size m h
size_more n m zero l = omega arith
size_more n m (suc h) l = omega (arith, size_more n m h l, falling_more n m h l)

widest : (d : ℕ) → d ≤ 3 → falling 21 d ≤ 6840
widest zero l = omega arith
widest (suc zero) l = omega arith
widest (suc (suc zero)) l = omega arith
widest (suc (suc (suc zero))) l = omega arith
widest (suc (suc (suc (suc d)))) l = absurd (omega arith)

pub width_most : (n d : ℕ) → n ≤ 21 → d ≤ 3 → falling n d ≤ 6840
width_most n d l k = omega (arith, falling_more n 21 d l, widest d k)

pub level_most : (n s d : ℕ) → In s (units n) → n ≤ 21 → d ≤ 3 → length (sequences n s d) ≤ 6840
level_most n s d is l k = omega (arith, wide n s d is, width_most n d l k)

largest : (h : ℕ) → h ≤ 4 → tree_size 21 h ≤ 7241
largest zero l = omega arith
largest (suc zero) l = omega arith
largest (suc (suc zero)) l = omega arith
largest (suc (suc (suc zero))) l = omega arith
largest (suc (suc (suc (suc zero)))) l = omega arith
largest (suc (suc (suc (suc (suc h))))) l = absurd (omega arith)

pub size_most : (n h : ℕ) → n ≤ 21 → h ≤ 4 → tree_size n h ≤ 7241
size_most n h l k = omega (arith, size_more n 21 h l, largest h k)

-- a tree is its levels together
pub size_sum : (n h : ℕ) → sum (map (width n) (range_with_len 1 h)) ≡ tree_size n h
size_sum n zero = refl
size_sum n (suc h) =
    let e : h + 1 - 1 ≡ h = omega arith in
    ap (λ k. sum (map (width n) (range_with_len 1 k))) (sym (add-one h))
    ∙ omega (arith, sum_by-map-range_with_len_more (λ x. x) (width n) 1 h (h + 1) (omega arith), size_sum n h, ap (falling n) e)
