-- Counting the elements of a list that pass a test.
use Rattle.std.proofs.Common.{◌≡◌, ℕ, ◌+◌, ◌<◌, ◌≤◌, Bool, true, false, cond, ◌⊎◌, List, [], ◌∷◌, ◌++◌, map, length, count_by, filter, sym, refl, ap, ◌∙◌, subst, inl, inr, ⊎_elim, arith}
use Rattle.std.specs.List.{range_with_len}
use Rattle.std.proofs.lemmas.List.{map-id}
use Rattle.std.proofs.lemmas.List.Sums.{sum_by-cons, sum_by_push}
use Rattle.std.proofs.lemmas.Bool.{cases_Bool, both_ways, cond_both}
use Rattle.std.proofs.lemmas.List.FromFn.{map-range_with_len_more}
use Rattle.masks.specs.Lists.{In, units}

abbrev pub num : Bool → ℕ
num b = cond b 1 0

num_cover : (a b c : Bool) → (a ≡ true → (b ≡ true) ⊎ (c ≡ true)) → num a ≤ num b + num c
num_cover a b c h = grind arith

num_apart : (a b c : Bool) → (a ≡ true → c ≡ true) → (b ≡ true → c ≡ true) → (a ≡ true → b ≡ true → ⊥) → num a + num b ≤ num c
num_apart a b c f g h = grind arith

pub never_true : (b : Bool) → (b ≡ true → ⊥) → b ≡ false
never_true b h = ⊎_elim (λ e. absurd (h e)) (λ e. e) (cases_Bool b)

module _ {X : Type 0} where
  pub count_cons : (p : X → Bool) (x : X) (xs : List X) → count_by p (x ∷ xs) ≡ num (p x) + count_by p xs
  count_cons p x xs = sum_by-cons (λ x. cond (p x) 1 0) x xs

  -- what passes p passes q or r
  pub count_cover : (p q r : X → Bool) (xs : List X) → ((x : X) → In x xs → p x ≡ true → (q x ≡ true) ⊎ (r x ≡ true)) → count_by p xs ≤ count_by q xs + count_by r xs
  count_cover p q r [] h = omega arith
  count_cover p q r (x ∷ xs) h =
      omega (arith, count_cons p x xs, count_cons q x xs, count_cons r x xs, num_cover (p x) (q x) (r x) (h x (inl refl)), count_cover p q r xs (λ y i. h y (inr i)))

  -- nothing passes both q and r, and what passes either passes p
  pub count_apart : (q r p : X → Bool) (xs : List X) → ((x : X) → q x ≡ true → p x ≡ true) → ((x : X) → r x ≡ true → p x ≡ true) → ((x : X) → q x ≡ true → r x ≡ true → ⊥) → count_by q xs + count_by r xs ≤ count_by p xs
  count_apart q r p [] f g h = omega arith
  count_apart q r p (x ∷ xs) f g h =
      omega (arith, count_cons p x xs, count_cons q x xs, count_cons r x xs, num_apart (q x) (r x) (p x) (f x) (g x) (h x), count_apart q r p xs f g h)

  pub count_none : (xs : List X) → count_by (λ (x : X). false) xs ≡ 0
  count_none [] = refl
  count_none (x ∷ xs) = count_cons (λ _. false) x xs ∙ omega (arith, count_none xs)

  pub count_all : (xs : List X) → count_by (λ (x : X). true) xs ≡ length xs
  count_all [] = refl
  count_all (x ∷ xs) = omega (arith, count_cons (λ _. true) x xs, count_all xs)

  pub count_le : (p q : X → Bool) (xs : List X) → ((x : X) → In x xs → p x ≡ true → q x ≡ true) → count_by p xs ≤ count_by q xs
  count_le p q xs h = omega (arith, count_cover p q (λ _. false) xs (λ x i e. inl (h x i e)), count_none xs)

  pub length_cover : (q r : X → Bool) (xs : List X) → ((x : X) → In x xs → (q x ≡ true) ⊎ (r x ≡ true)) → length xs ≤ count_by q xs + count_by r xs
  length_cover q r xs h = omega (arith, count_all xs, count_cover (λ _. true) q r xs (λ x i _. h x i))

  -- one that passes
  pub count_some : (p : X → Bool) (xs : List X) → 0 < count_by p xs → (x : X) × In x xs × (p x ≡ true)
  count_some p [] h = absurd (omega arith)
  count_some p (x ∷ xs) h = ⊎_elim
      (λ e. (x, inl refl, e))
      (λ e. let r = count_some p xs (omega (arith, count_cons p x xs, ap num e)) in (r.0, inr r.1, r.2))
      (cases_Bool (p x))

  pub count_has : (p : X → Bool) (xs : List X) (x : X) → In x xs → p x ≡ true → 0 < count_by p xs
  count_has p [] x i e = elim i [ ]
  count_has p (y ∷ ys) x i e = ⊎_elim
      (λ f. omega (arith, count_cons p y ys, ap num (subst (λ z. p z ≡ true) f e)))
      (λ j. omega (arith, count_cons p y ys, count_has p ys x j e))
      i

  pub count_kept : (p q : X → Bool) (xs : List X) → count_by p (filter q xs) ≤ count_by p xs
  count_kept p q [] = omega arith
  count_kept p q (x ∷ xs) =
      let ih = count_kept p q xs in
      cond_both (q x) (x ∷ filter q xs) (filter q xs) (λ ys. count_by p ys ≤ count_by p (x ∷ xs))
      (λ _. omega (arith, count_cons p x xs, count_cons p x (filter q xs)))
      (λ _. omega (arith, count_cons p x xs))

  -- the filter drops nothing that passes p
  pub count_keeps : (p q : X → Bool) (xs : List X) → ((x : X) → p x ≡ true → q x ≡ true) → count_by p xs ≤ count_by p (filter q xs)
  count_keeps p q [] h = omega arith
  count_keeps p q (x ∷ xs) h =
      let ih = count_keeps p q xs h in
      cond_both (q x) (x ∷ filter q xs) (filter q xs) (λ ys. count_by p (x ∷ xs) ≤ count_by p ys)
      (λ _. omega (arith, count_cons p x xs, count_cons p x (filter q xs)))
      (λ e. omega (arith, count_cons p x xs, ap num (never_true (p x) (λ f. both_ways (q x) e (h x f)))))

  pub count_same : (p q : X → Bool) (xs : List X) → ((x : X) → In x xs → p x ≡ q x) → count_by p xs ≡ count_by q xs
  count_same p q [] h = refl
  count_same p q (x ∷ xs) h = omega (arith, count_cons p x xs, count_cons q x xs, ap num (h x (inl refl)), count_same p q xs (λ y i. h y (inr i)))

pub count_map : {X Y : Type 0} (p : Y → Bool) (f : X → Y) (xs : List X) → count_by p (map f xs) ≡ count_by (λ x. p (f x)) xs
count_map p f [] = refl
count_map p f (x ∷ xs) = omega (arith, count_cons p (f x) (map f xs), count_cons (λ x. p (f x)) x xs, count_map p f xs)

-- one unit more
pub counting_more : (a n : ℕ) → range_with_len a (n + 1) ≡ range_with_len a n ++ (a + n) ∷ []
counting_more a n = sym (map-id (range_with_len a (n + 1))) ∙ (map-range_with_len_more (λ x. x) a n (a + n) refl ∙ ap (λ l. l ++ (a + n) ∷ []) (map-id (range_with_len a n)))

pub count_more : (p : ℕ → Bool) (n : ℕ) → count_by p (units (n + 1)) ≡ count_by p (units n) + num (p n)
count_more p n =
    let z : 0 + n ≡ n = omega arith in
    ap (count_by p) (counting_more 0 n) ∙ (sum_by_push (λ x. cond (p x) 1 0) (units n) (0 + n) ∙ ap (λ k. count_by p (units n) + num (p k)) z)
