-- The place of a sequence is its index in its level, and the sequence at a place by its parent's.
use Rattle.std.proofs.Common.{◌≡◌, ℕ, zero, suc, ◌+◌, ◌-◌, ◌*◌, ◌/◌, ◌%◌, ◌<◌, ◌≤◌, Bool, true, not, ltb, List, [], ◌∷◌, ◌++◌, map, length, get_or, count_by, filter, sym, refl, ap, ◌∙◌, ap₂, inl, inr, ⊎_elim, mul-le-mul_right, arith}
use Rattle.std.specs.List.{range_with_len, flat_map}
use Rattle.std.proofs.lemmas.List.{length-map, length-append, get_or_append_left, get_or-append_right, get_or-map}
use Rattle.std.proofs.lemmas.List.Sums.{length-filter}
use Rattle.std.proofs.lemmas.List.FromFn.{length-range_with_len}
use Rattle.std.proofs.lemmas.Nat.{div-add-mod', div_below, mod_below}
use Rattle.std.proofs.lemmas.Bool.{cond_both, cases_lt, both_ways, not-true, lt-ltb, le-ltb}
use Rattle.masks.specs.Lists.{In, units}
use Rattle.masks.proofs.Counting.{num, count_cons, count_apart, count_all}
use Rattle.masks.proofs.Members.{in_kept, get_or_in}
use Rattle.sequences.specs.Sequences.{among, absent, sequences, place}
use Rattle.sequences.proofs.Levels.{level_cons, level_root, level_length, level_distinct, absent_many}

-- pieces of one length
module _ {X Y : Type 0} (f : X → List Y) (m : ℕ) where
  pub length_joined : (xs : List X) → ((x : X) → In x xs → length (f x) ≡ m) → length (flat_map f xs) ≡ length xs * m
  length_joined [] h = omega arith
  length_joined (x ∷ xs) h = omega (arith, length-append (f x) (flat_map f xs), h x (inl refl), length_joined xs (λ y i. h y (inr i)))

  pub get_or_joined : (xs : List X) (i j : ℕ) (d : Y) (e : X) → ((x : X) → In x xs → length (f x) ≡ m) → i < length xs → j < m → get_or (flat_map f xs) (i * m + j) d ≡ get_or (f (get_or xs i e)) j d
  get_or_joined [] i j d e h l k = absurd (omega arith)
  get_or_joined (x ∷ xs) zero j d e h l k =
      let z : 0 * m + j ≡ j = omega arith in
      ap (λ y. get_or (f x ++ flat_map f xs) y d) z ∙ get_or_append_left (f x) (flat_map f xs) d j (omega (arith, h x (inl refl)))
  get_or_joined (x ∷ xs) (suc i) j d e h l k =
      let z : (suc i * m + j) - m ≡ i * m + j = omega arith in
      get_or-append_right (f x) (flat_map f xs) m (suc i * m + j) d (h x (inl refl)) (omega arith)
      ∙ (ap (λ y. get_or (flat_map f xs) y d) z ∙ get_or_joined xs i j d e (λ y k. h y (inr k)) (omega arith) k)

-- an element of a rising list stands behind those below it
pub in_from : (a n w : ℕ) → In w (range_with_len a n) → a ≤ w
in_from a zero w i = elim i [ ]
in_from a (suc n) w i = ⊎_elim (λ e. omega arith) (λ j. omega (arith, in_from (a + 1) n w j)) i

pub none_below : (q : ℕ → Bool) (a n w : ℕ) → w ≤ a → count_by (λ u. ltb u w) (filter q (range_with_len a n)) ≡ 0
none_below q a zero w l = refl
none_below q a (suc n) w l =
    let ih = none_below q (a + 1) n w (omega arith) in
    cond_both (q a) (a ∷ filter q (range_with_len (a + 1) n)) (filter q (range_with_len (a + 1) n)) (λ ys. count_by (λ u. ltb u w) ys ≡ 0)
    (λ _. omega (arith, count_cons (λ u. ltb u w) a (filter q (range_with_len (a + 1) n)), ap num (le-ltb a w l)))
    (λ _. ih)

pub rank : (q : ℕ → Bool) (a n w d : ℕ) → In w (filter q (range_with_len a n))
    → (count_by (λ u. ltb u w) (filter q (range_with_len a n)) < length (filter q (range_with_len a n))) × (get_or (filter q (range_with_len a n)) (count_by (λ u. ltb u w) (filter q (range_with_len a n))) d ≡ w)
rank q a zero w d i = elim i [ ]
rank q a (suc n) w d i =
    let xs = filter q (range_with_len (a + 1) n) in
    let ih = rank q (a + 1) n w d in
    cond_both (q a) (a ∷ xs) xs (λ ys. In w ys → (count_by (λ u. ltb u w) ys < length ys) × (get_or ys (count_by (λ u. ltb u w) ys) d ≡ w))
    (λ _ i. ⊎_elim
    (λ e. let z : count_by (λ u. ltb u w) (a ∷ xs) ≡ 0 = omega (arith, count_cons (λ u. ltb u w) a xs, ap num (le-ltb a w (omega arith)), none_below q (a + 1) n w (omega arith)) in
    (omega arith, ap (λ k. get_or (a ∷ xs) k d) z ∙ sym e))
    (λ j. let r = ih j in
    let lo = in_from (a + 1) n w (in_kept q (range_with_len (a + 1) n) w j).0 in
    let z : count_by (λ u. ltb u w) (a ∷ xs) ≡ suc (count_by (λ u. ltb u w) xs) = omega (arith, count_cons (λ u. ltb u w) a xs, ap num (lt-ltb a w (omega arith))) in
    (omega (arith, r.0), ap (λ k. get_or (a ∷ xs) k d) z ∙ r.1))
    i)
    (λ _ i. ih i) i

-- a sequence of level k has n - k - 1 children
pub children_count : (n s k : ℕ) (α : List ℕ) → In s (units n) → In α (sequences n s k) → length (absent n α) ≡ n - suc k
children_count n s k α is i = omega (
  arith,
  absent_many n α,
  level_length n s k α i,
  level_distinct n s k α is i,
  length-filter (λ w. not (among α w)) (units n),
  length-range_with_len 0 n,
  count_all (units n),
  count_apart (λ w. not (among α w)) (among α) (λ w. true) (units n) (λ _ _. refl) (λ _ _. refl) (λ w e f. both_ways (among α w) (not-true (among α w) e) f),
)

pub fans : (n s k : ℕ) → In s (units n) → length (sequences n s (suc k)) ≡ length (sequences n s k) * (n - suc k)
fans n s k is = length_joined (λ α. map (λ w. w ∷ α) (absent n α)) (n - suc k) (sequences n s k) (λ α i. length-map (absent n α) (λ w. w ∷ α) ∙ children_count n s k α is i)

-- the place finds the sequence
pub place_at : (n s k : ℕ) (α : List ℕ) → In s (units n) → In α (sequences n s k) → (place n α < length (sequences n s k)) × (get_or (sequences n s k) (place n α) [] ≡ α)
place_at n s k [] is i = absurd (omega (arith, level_length n s k [] i))
place_at n s zero (w ∷ []) is i = (omega arith, let h = level_root n s w [] i in ap (λ u. u ∷ []) (sym h.0))
place_at n s zero (w ∷ (u ∷ α)) is i = absurd (omega (arith, level_length n s zero (w ∷ (u ∷ α)) i))
place_at n s (suc k) (w ∷ []) is i = absurd (omega (arith, level_length n s (suc k) (w ∷ []) i))
place_at n s (suc k) (w ∷ (u ∷ α)) is i =
    let β = u ∷ α in
    let h = level_cons n s k w β i in
    let ih = place_at n s k β is h.0 in
    let m = children_count n s k β is h.0 in
    let l = level_length n s k β h.0 in
    let xs = absent n β in
    let c = n - suc k in
    let rk = rank (λ x. not (among β x)) 0 n w 0 h.1 in
    let j = count_by (λ x. ltb x w) xs in
    let at : place n (w ∷ β) ≡ place n β * c + j = ap (λ x. place n β * (n - x) + j) l in
    let piece = λ (γ : List ℕ). map (λ x. x ∷ γ) (absent n γ) in (
      omega (arith, at, rk.0, m, fans n s k is, mul-le-mul_right c ih.0),
      ap (λ x. get_or (sequences n s (suc k)) x []) at
          ∙ (get_or_joined piece c (sequences n s k) (place n β) j [] [] (λ γ iγ. length-map (absent n γ) (λ x. x ∷ γ) ∙ children_count n s k γ is iγ) ih.0 (omega (arith, rk.0, m))
          ∙ (ap (λ γ. get_or (piece γ) j []) ih.1 ∙ (get_or-map (λ x. x ∷ β) xs j 0 [] rk.0 ∙ ap (λ x. x ∷ β) rk.1))),
    )

-- so sequences of one level have different places
pub place_apart : (n s k : ℕ) (α β : List ℕ) → In s (units n) → In α (sequences n s k) → In β (sequences n s k) → place n α ≡ place n β → α ≡ β
place_apart n s k α β is i j e = sym (place_at n s k α is i).1 ∙ (ap (λ x. get_or (sequences n s k) x []) e ∙ (place_at n s k β is j).1)

-- in a rising list an element has as many below it as stand before it
pub rank_back : (q : ℕ → Bool) (a n r : ℕ) → r < length (filter q (range_with_len a n)) → count_by (λ u. ltb u (get_or (filter q (range_with_len a n)) r 0)) (filter q (range_with_len a n)) ≡ r
rank_back q a zero r l = absurd (omega arith)
rank_back q a (suc n) zero l =
    let xs = filter q (range_with_len (a + 1) n) in
    cond_both (q a) (a ∷ xs) xs (λ ys. 0 < length ys → count_by (λ u. ltb u (get_or ys 0 0)) ys ≡ 0)
    (λ _ _. omega (arith, count_cons (λ u. ltb u a) a xs, ap num (le-ltb a a (omega arith)), none_below q (a + 1) n a (omega arith)))
    (λ _ l. rank_back q (a + 1) n zero l) l
rank_back q a (suc n) (suc r) l =
    let xs = filter q (range_with_len (a + 1) n) in
    cond_both (q a) (a ∷ xs) xs (λ ys. suc r < length ys → count_by (λ u. ltb u (get_or ys (suc r) 0)) ys ≡ suc r)
    (λ _ l. let w = get_or xs r 0 in
    let lo = in_from (a + 1) n w (in_kept q (range_with_len (a + 1) n) w (get_or_in xs r 0 (omega arith))).0 in
    omega (arith, count_cons (λ u. ltb u w) a xs, ap num (lt-ltb a w (omega arith)), rank_back q (a + 1) n r (omega arith)))
    (λ _ l. rank_back q (a + 1) n (suc r) l) l

pub place_cons : (n w : ℕ) (β : List ℕ) → 0 < length β → place n (w ∷ β) ≡ place n β * (n - length β) + count_by (λ x. ltb x w) (absent n β)
place_cons n w [] l = absurd (omega arith)
place_cons n w (u ∷ α) l = refl

module _ (n s : ℕ) (is : In s (units n)) where
  -- the sequence at place i, by the one at its parent's place
  pub level_digit : (k i : ℕ) → i < length (sequences n s (suc k))
      → (i / (n - suc k) < length (sequences n s k))
      × (i % (n - suc k) < length (absent n (get_or (sequences n s k) (i / (n - suc k)) [])))
      × (get_or (sequences n s (suc k)) i [] ≡ get_or (absent n (get_or (sequences n s k) (i / (n - suc k)) [])) (i % (n - suc k)) 0 ∷ get_or (sequences n s k) (i / (n - suc k)) [])
  level_digit k i l =
      let c = n - suc k in
      let w = fans n s k is in
      let pos : 0 < c = ⊎_elim (λ (p : 0 < c). p) (λ (z : c ≤ 0). let e : c ≡ 0 = omega arith in absurd (omega (arith, w, ap (λ x. length (sequences n s k) * x) e))) (cases_lt 0 c) in
      let lq : i / c < length (sequences n s k) = div_below i c (length (sequences n s k)) pos (omega (arith, w)) in
      let β = get_or (sequences n s k) (i / c) [] in
      let m = children_count n s k β is (get_or_in (sequences n s k) (i / c) [] lq) in
      let lr : i % c < length (absent n β) = omega (arith, m, mod_below i c pos) in
      let piece = λ (γ : List ℕ). map (λ x. x ∷ γ) (absent n γ) in (
        lq,
        lr,
        ap (λ x. get_or (sequences n s (suc k)) x []) (sym (div-add-mod' i c))
            ∙ get_or_joined piece c (sequences n s k) (i / c) (i % c) [] [] (λ γ iγ. length-map (absent n γ) (λ x. x ∷ γ) ∙ children_count n s k γ is iγ) lq (omega (arith, m, lr))
            ∙ get_or-map (λ x. x ∷ β) (absent n β) (i % c) 0 [] lr,
      )

  -- a place is the place of its sequence
  pub place_of : (k i : ℕ) → i < length (sequences n s k) → place n (get_or (sequences n s k) i []) ≡ i
  place_of zero zero l = refl
  place_of zero (suc i) l = absurd (omega arith)
  place_of (suc k) i l =
      let c = n - suc k in
      let d = level_digit k i l in
      let β = get_or (sequences n s k) (i / c) [] in
      let xs = absent n β in
      let w = get_or xs (i % c) 0 in
      let len = level_length n s k β (get_or_in (sequences n s k) (i / c) [] d.0) in
      ap (place n) d.2 ∙ (place_cons n w β (omega (arith, len)) ∙ (ap₂ (λ (x y : ℕ). place n β * (n - x) + y) len (rank_back (λ x. not (among β x)) 0 n (i % c) d.1)
      ∙ (ap (λ x. x * c + i % c) (place_of k (i / c) d.0) ∙ div-add-mod' i c)))
