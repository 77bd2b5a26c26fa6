-- The blocks of a run: where each ends, and which stands at an index.
use Rattle.std.proofs.Common.{◌≡◌, ℕ, zero, suc, ◌+◌, ◌-◌, ◌*◌, ◌%◌, ◌<◌, ◌≤◌, Bool, true, false, ◌&&◌, ◌||◌, eqb, ltb, leb, ◌⊎◌, List, [], ◌∷◌, ◌++◌, replicate, Some, None, sum, sym, refl, ap, ◌∙◌, ap₂, ⊎_elim, mod-eq_of_lt, arith}
use native.Mathlib.Nat.{mod_self, add-mod_right, mul-mod_left}
use Rattle.std.specs.List.{slice_get}
use Rattle.std.proofs.Math.Bool.{or_comm, or_assoc}
use Rattle.std.proofs.lemmas.List.Folds.{sum_by-replicate}
use Rattle.std.proofs.lemmas.List.Sums.{sum_by-append}
use Rattle.std.proofs.lemmas.Nat.{mul-le, le-div}
use Rattle.std.proofs.lemmas.Bool.{cases_Bool, cases_order, cond-true, cond-false, ne_eqb, eq-eqb, eqb-true, eqb-false, lt-ltb, le-ltb, le-leb, and_left, and_right, and_from, or_left, cases_lt}
use Rattle.std.proofs.lemmas.Bool.Decides.{nat_tests}
use Rattle.masks.specs.Lists.{some}
use Rattle.plans.specs.Schedules.{full_blocks, short_block, blocks, rounds, block_ends, due_after}

-- k ends one of x blocks of b rounds that follow on round r
abbrev pub ends_full : ℕ → ℕ → ℕ → ℕ → Bool
ends_full b x r k = ltb r k && (leb k (r + x * b) && eqb ((k - r) % b) 0)

-- one block more at the front
ends_more : (b x r k : ℕ) → 0 < b → (eqb k (r + b) || ends_full b x (r + b) k) ≡ ends_full b (suc x) r k
ends_more b x r k pos =
    let s : r + suc x * b ≡ r + b + x * b = omega arith in
    ⊎_elim
    (λ e. let d : k - r ≡ b = omega arith in
    let z : (k - r) % b ≡ 0 = ap (λ y. y % b) d ∙ mod_self b in
    let l : ltb r k ≡ true = lt-ltb r k (omega arith) in
    let m : leb k (r + suc x * b) ≡ true = le-leb k (r + suc x * b) (omega arith) in
    let q : eqb k (r + b) ≡ true = eq-eqb k (r + b) e in
    rw (q, l, m, z))
    (⊎_elim
    (λ lt. let q : eqb k (r + b) ≡ false = ne_eqb k (r + b) (λ e. omega arith) in
    let l : ltb (r + b) k ≡ false = le-ltb (r + b) k (omega arith) in
    rw (q, l) (sym (before b (suc x) r k lt)))
    (λ gt. let d : k - r ≡ k - (r + b) + b = omega arith in
    let z : (k - r) % b ≡ (k - (r + b)) % b = ap (λ y. y % b) d ∙ add-mod_right (k - (r + b)) b in
    let q : eqb k (r + b) ≡ false = ne_eqb k (r + b) (λ e. omega arith) in
    let l : ltb (r + b) k ≡ true = lt-ltb (r + b) k gt in
    let m : ltb r k ≡ true = lt-ltb r k (omega arith) in
    rw (q, l, m, z, s)))
    (cases_order k (r + b))
  where
    -- none ends before the first is over
    before : (b x r k : ℕ) → k < r + b → ends_full b x r k ≡ false
    before b x r k lt = ⊎_elim
        (λ l. let p : k - r < b = omega arith in
        let z : (k - r) % b ≡ k - r = mod-eq_of_lt p in
        let n : eqb ((k - r) % b) 0 ≡ false = ne_eqb ((k - r) % b) 0 (λ e. omega arith) in
        and_right (ltb r k) _ (and_right (leb k (r + x * b)) _ n))
        (λ l. and_left (ltb r k) _ (le-ltb r k l))
        (cases_lt r k)

ends_full_lem : (b x r k : ℕ) (rest : List ℕ) → 0 < b
    → some (λ end. eqb k end) (block_ends r (replicate x b ++ rest)) ≡ (ends_full b x r k || some (λ end. eqb k end) (block_ends (r + x * b) rest))
ends_full_lem b zero r k rest pos =
    let e : r + 0 * b ≡ r = omega arith in
    let none : ends_full b zero r k ≡ false = grind (arith, nat_tests) in
    sym (ap₂ (λ p q. p || some (λ end. eqb k end) (block_ends q rest)) none e)
ends_full_lem b (suc x) r k rest pos =
    let e : r + b + x * b ≡ r + suc x * b = omega arith in
    ap (λ p. eqb k (r + b) || p) (ends_full_lem b x (r + b) k rest pos)
    ∙ (sym (or_assoc (eqb k (r + b)) (ends_full b x (r + b) k) _)
    ∙ ap₂ (λ p q. p || some (λ end. eqb k end) (block_ends q rest)) (ends_more b x r k pos) e)

module _ (t b : ℕ) (least : 2 ≤ b) (low : b ≤ t) where
  parted : blocks t b ≡ replicate (full_blocks t b) b ++ short_block t b
  parted = cond-false (eqb b 0) _ _ (ne_eqb b 0 (λ e. omega arith))

  sum_full : (x : ℕ) (rest : List ℕ) → sum (replicate x b ++ rest) ≡ x * b + sum rest
  sum_full x rest = sum_by-append (λ y. y) (replicate x b) rest ∙ ap (λ k. k + sum rest) (sum_by-replicate (λ y. y) x b)

  rounds_full : rounds t b ≡ 1 + (full_blocks t b * b + sum (short_block t b))
  rounds_full = ap (λ bs. 1 + sum bs) parted ∙ ap (λ k. 1 + k) (sum_full (full_blocks t b) (short_block t b))

  -- a conversion is due at the end of the run and at the end of each full block
  pub due_is : (k : ℕ) → due_after t b k ≡ (eqb k (rounds t b) || ends_full b (full_blocks t b) 1 k)
  due_is k =
      let x = full_blocks t b in
      let one : 1 ≤ x = le-div 1 (t - 1) (b - 1) (omega arith) (omega arith) in
      ap (λ bs. some (λ end. eqb k end) (block_ends 1 bs)) parted
      ∙ (ends_full_lem b x 1 k (short_block t b) (omega arith)
      ∙ ⊎_elim
      (λ z. let short : short_block t b ≡ [] = cond-true (eqb ((t - 1) % (b - 1)) 0) _ _ z in
      let all : rounds t b ≡ 1 + x * b = rounds_full ∙ (ap (λ bs. 1 + (x * b + sum bs)) short ∙ omega arith) in
      ap (λ bs. ends_full b x 1 k || some (λ end. eqb k end) (block_ends (1 + x * b) bs)) short
      ∙ (or_comm (ends_full b x 1 k) false ∙ (last x k one ∙ ap (λ r. eqb k r || ends_full b x 1 k) (sym all))))
      (λ z. let short : short_block t b ≡ (t - x * (b - 1)) ∷ [] = cond-false (eqb ((t - 1) % (b - 1)) 0) _ _ z in
      let all : rounds t b ≡ 1 + x * b + (t - x * (b - 1)) = rounds_full ∙ (ap (λ bs. 1 + (x * b + sum bs)) short ∙ omega arith) in
      ap (λ bs. ends_full b x 1 k || some (λ end. eqb k end) (block_ends (1 + x * b) bs)) short
      ∙ (ap (λ r. ends_full b x 1 k || (eqb k r || false)) (sym all) ∙ (or_comm (ends_full b x 1 k) (eqb k (rounds t b) || false) ∙ ap (λ last. last || ends_full b x 1 k) (or_comm (eqb k (rounds t b)) false))))
      (cases_Bool (eqb ((t - 1) % (b - 1)) 0)))
    where
      -- the end of the last full block is the end of a full block
      last : (x k : ℕ) → 1 ≤ x → ends_full b x 1 k ≡ (eqb k (1 + x * b) || ends_full b x 1 k)
      last x k one = ⊎_elim
          (λ e. let is = eqb-true k (1 + x * b) e in
          let at_least : 1 * b ≤ x * b = mul-le 1 b x b one (omega arith) in
          let d : k - 1 ≡ x * b = omega arith in
          let z : (k - 1) % b ≡ 0 = ap (λ y. y % b) d ∙ mul-mod_left x b in
          and_from (ltb 1 k) _ (lt-ltb 1 k (omega arith)) (and_from (leb k (1 + x * b)) _ (le-leb k (1 + x * b) (omega arith)) (eq-eqb ((k - 1) % b) 0 z))
          ∙ sym (or_left (eqb k (1 + x * b)) (ends_full b x 1 k) e))
          (λ f. sym (ap (λ p. p || ends_full b x 1 k) f))
          (cases_Bool (eqb k (1 + x * b)))

  -- as the code finds it: at the end of the run, or else by the rounds of the full blocks
  module _ (k all full : ℕ) (is_all : all ≡ rounds t b) (is_full : full ≡ full_blocks t b * b) where
    pub due_last : k ≡ all → due_after t b k ≡ true
    due_last e = due_is k ∙ or_left (eqb k (rounds t b)) _ (eq-eqb k (rounds t b) (e ∙ is_all))

    pub due_full : (k ≡ all → ⊥) → due_after t b k ≡ (ltb 1 k && (leb k (1 + full) && eqb ((k - 1) % b) 0))
    due_full other =
        due_is k ∙ ap₂ (λ p f. p || (ltb 1 k && (leb k (1 + f) && eqb ((k - 1) % b) 0))) (ne_eqb k (rounds t b) (λ e. other (e ∙ sym is_all))) (sym is_full)

  nth_full : (x i : ℕ) (rest : List ℕ) → i < x → slice_get (replicate x b ++ rest) i ≡ Some b
  nth_full zero i rest l = absurd (omega arith)
  nth_full (suc x) zero rest l = refl
  nth_full (suc x) (suc i) rest l = nth_full x i rest (omega arith)

  nth_rest : (x i : ℕ) (rest : List ℕ) → slice_get (replicate x b ++ rest) (x + i) ≡ slice_get rest i
  nth_rest zero i rest = let e : 0 + i ≡ i = omega arith in ap (slice_get rest) e
  nth_rest (suc x) i rest = let e : suc x + i ≡ suc (x + i) = omega arith in ap (slice_get (b ∷ (replicate x b ++ rest))) e ∙ nth_rest x i rest

  -- the block at an index
  module _ (i full : ℕ) (is_full : full ≡ full_blocks t b) where
    pub block_full : i < full → slice_get (blocks t b) i ≡ Some b
    block_full l = ap (λ bs. slice_get bs i) parted ∙ nth_full (full_blocks t b) i (short_block t b) (omega arith)

    past : full ≤ i → slice_get (blocks t b) i ≡ slice_get (short_block t b) (i - full)
    past l =
        let e : full_blocks t b + (i - full) ≡ i = omega arith in
        ap (λ bs. slice_get bs i) parted ∙ (ap (slice_get (replicate (full_blocks t b) b ++ short_block t b)) (sym e) ∙ nth_rest (full_blocks t b) (i - full) (short_block t b))

    pub block_short : i ≡ full → ((t - 1) % (b - 1) ≡ 0 → ⊥) → slice_get (blocks t b) i ≡ Some (t - full * (b - 1))
    block_short e z =
        let none : i - full ≡ 0 = omega arith in
        past (omega arith) ∙ (ap₂ slice_get (cond-false (eqb ((t - 1) % (b - 1)) 0) _ _ (ne_eqb ((t - 1) % (b - 1)) 0 z)) none ∙ ap (λ x. Some (t - x * (b - 1))) (sym is_full))

    pub block_none : full ≤ i → ((t - 1) % (b - 1) ≡ 0) ⊎ (i ≡ full → ⊥) → slice_get (blocks t b) i ≡ None
    block_none l why = past l ∙ ⊎_elim
        (λ z. ap (λ bs. slice_get bs (i - full)) (cond-true (eqb ((t - 1) % (b - 1)) 0) _ _ z))
        (λ z. ap (λ bs. slice_get bs (i - full)) (cond-false (eqb ((t - 1) % (b - 1)) 0) _ _ z)
        ∙ single (t - full_blocks t b * (b - 1)) (i - full) (⊎_elim (λ y. absurd (eqb-false ((t - 1) % (b - 1)) 0 z y)) (λ y. omega (arith, cases_order i full)) why))
        (cases_Bool (eqb ((t - 1) % (b - 1)) 0))
      where
        single : (x j : ℕ) → 0 < j → slice_get (x ∷ []) j ≡ None
        single x zero l = absurd (omega arith)
        single x (suc j) l = refl
