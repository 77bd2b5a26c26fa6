-- What stands in a list, and in lists made of others.
use Rattle.std.proofs.Common.{◌≡◌, ℕ, zero, suc, ◌+◌, ◌<◌, ◌≤◌, Bool, true, false, ◌⊎◌, List, [], ◌∷◌, ◌++◌, map, length, get_or, filter, sym, refl, ap, subst, inl, inr, ⊎_elim, arith}
use Rattle.std.specs.List.{range_with_len, flat_map}
use Rattle.std.proofs.lemmas.Bool.{cases_Bool, cases_eq, cond_both, or_cases, or_left, or_right, and_parts, and_from, both_ways}
use Rattle.masks.specs.Lists.{In, some, every, units}

module _ {X : Type 0} where
  pub some_true : (p : X → Bool) (xs : List X) → some p xs ≡ true → (x : X) × In x xs × (p x ≡ true)
  some_true p [] e = let z : ◌≡◌ {A = ℕ} 0 1 = cc in absurd (omega arith)
  some_true p (x ∷ xs) e = ⊎_elim (λ h. (x, inl refl, h)) (λ h. let r = some_true p xs h in (r.0, inr r.1, r.2)) (or_cases (p x) (some p xs) e)

  pub some_has : (p : X → Bool) (xs : List X) (x : X) → In x xs → p x ≡ true → some p xs ≡ true
  some_has p [] x i e = elim i [ ]
  some_has p (y ∷ ys) x i e = ⊎_elim (λ f. or_left (p y) (some p ys) (subst (λ z. p z ≡ true) f e)) (λ j. or_right (p y) (some p ys) (some_has p ys x j e)) i

  pub some_none : (p : X → Bool) (xs : List X) (x : X) → some p xs ≡ false → In x xs → p x ≡ false
  some_none p xs x e i = ⊎_elim (λ h. absurd (both_ways (some p xs) e (some_has p xs x i h))) (λ h. h) (cases_Bool (p x))

  pub every_has : (p : X → Bool) (xs : List X) (x : X) → every p xs ≡ true → In x xs → p x ≡ true
  every_has p [] x e i = elim i [ ]
  every_has p (y ∷ ys) x e i = let h = and_parts (p y) (every p ys) e in ⊎_elim (λ f. subst (λ z. p z ≡ true) (sym f) h.0) (λ j. every_has p ys x h.1 j) i

  pub every_from : (p : X → Bool) (xs : List X) → ((x : X) → In x xs → p x ≡ true) → every p xs ≡ true
  every_from p [] h = refl
  every_from p (y ∷ ys) h = and_from (p y) (every p ys) (h y (inl refl)) (every_from p ys (λ x i. h x (inr i)))

  -- each is P, or one is Q
  pub each_or_one : (P Q : X → Type 0) (xs : List X) → ((x : X) → In x xs → P x ⊎ Q x) → ((x : X) → In x xs → P x) ⊎ ((x : X) × In x xs × Q x)
  each_or_one P Q [] h = inl (λ x i. elim i [ ])
  each_or_one P Q (y ∷ ys) h = ⊎_elim
      (λ py. ⊎_elim
      (λ all. inl (λ x i. ⊎_elim (λ e. subst P (sym e) py) (λ j. all x j) i))
      (λ one. inr (one.0, inr one.1, one.2))
      (each_or_one P Q ys (λ x i. h x (inr i))))
      (λ qy. inr (y, inl refl, qy))
      (h y (inl refl))

  pub in_kept : (q : X → Bool) (xs : List X) (x : X) → In x (filter q xs) → In x xs × (q x ≡ true)
  in_kept q [] x i = elim i [ ]
  in_kept q (y ∷ ys) x i =
      let ih = in_kept q ys x in
      cond_both (q y) (y ∷ filter q ys) (filter q ys) (λ zs. In x zs → In x (y ∷ ys) × (q x ≡ true))
      (λ e j. ⊎_elim (λ f. (inl f, subst (λ z. q z ≡ true) (sym f) e)) (λ k. (inr (ih k).0, (ih k).1)) j)
      (λ e j. (inr (ih j).0, (ih j).1)) i

  pub kept_in : (q : X → Bool) (xs : List X) (x : X) → In x xs → q x ≡ true → In x (filter q xs)
  kept_in q [] x i e = elim i [ ]
  kept_in q (y ∷ ys) x i e =
      let ih = kept_in q ys x in
      cond_both (q y) (y ∷ filter q ys) (filter q ys) (λ zs. In x zs)
      (λ f. ⊎_elim (λ g. inl g) (λ j. inr (ih j e)) i)
      (λ f. ⊎_elim (λ g. absurd (both_ways (q y) f (subst (λ z. q z ≡ true) g e))) (λ j. ih j e) i)

  pub in_append : (xs ys : List X) (x : X) → In x (xs ++ ys) → In x xs ⊎ In x ys
  in_append [] ys x i = inr i
  in_append (z ∷ xs) ys x i = ⊎_elim (λ e. inl (inl e)) (λ j. ⊎_elim (λ k. inl (inr k)) (λ k. inr k) (in_append xs ys x j)) i

  pub append_left : (xs ys : List X) (x : X) → In x xs → In x (xs ++ ys)
  append_left [] ys x i = elim i [ ]
  append_left (z ∷ xs) ys x i = ⊎_elim (λ e. inl e) (λ j. inr (append_left xs ys x j)) i

  pub append_right : (xs ys : List X) (x : X) → In x ys → In x (xs ++ ys)
  append_right [] ys x i = i
  append_right (z ∷ xs) ys x i = inr (append_right xs ys x i)

module _ {X Y : Type 0} where
  pub in_map : (f : X → Y) (xs : List X) (y : Y) → In y (map f xs) → (x : X) × In x xs × (y ≡ f x)
  in_map f [] y i = elim i [ ]
  in_map f (x ∷ xs) y i = ⊎_elim (λ e. (x, inl refl, e)) (λ j. let r = in_map f xs y j in (r.0, inr r.1, r.2)) i

  pub map_in : (f : X → Y) (xs : List X) (x : X) → In x xs → In (f x) (map f xs)
  map_in f [] x i = elim i [ ]
  map_in f (z ∷ xs) x i = ⊎_elim (λ e. inl (ap f e)) (λ j. inr (map_in f xs x j)) i

  pub in_joined : (f : X → List Y) (xs : List X) (y : Y) → In y (flat_map f xs) → (x : X) × In x xs × In y (f x)
  in_joined f [] y i = elim i [ ]
  in_joined f (x ∷ xs) y i = ⊎_elim (λ j. (x, inl refl, j)) (λ j. let r = in_joined f xs y j in (r.0, inr r.1, r.2)) (in_append (f x) (flat_map f xs) y i)

  pub joined_in : (f : X → List Y) (xs : List X) (x : X) (y : Y) → In x xs → In y (f x) → In y (flat_map f xs)
  joined_in f [] x y i j = elim i [ ]
  joined_in f (z ∷ xs) x y i j = ⊎_elim
      (λ e. append_left (f z) (flat_map f xs) y (subst (λ u. In y (f u)) e j))
      (λ k. append_right (f z) (flat_map f xs) y (joined_in f xs x y k j)) i

  pub map_same : (f g : X → Y) (xs : List X) → ((x : X) → In x xs → f x ≡ g x) → map f xs ≡ map g xs
  map_same f g [] h = refl
  map_same f g (x ∷ xs) h = let e = h x (inl refl) in let r = map_same f g xs (λ y i. h y (inr i)) in cc

pub in_counting : (a n w : ℕ) → In w (range_with_len a n) → w < a + n
in_counting a zero w i = elim i [ ]
in_counting a (suc n) w i = ⊎_elim (λ e. omega arith) (λ j. omega (arith, in_counting (a + 1) n w j)) i

pub counting_in : (a n w : ℕ) → a ≤ w → w < a + n → In w (range_with_len a n)
counting_in a zero w h l = absurd (omega arith)
counting_in a (suc n) w h l = ⊎_elim (λ e. inl e) (λ e. inr (counting_in (a + 1) n w (omega arith) (omega arith))) (cases_eq w a)

pub get_or_in : {X : Type 0} (xs : List X) (i : ℕ) (d : X) → i < length xs → In (get_or xs i d) xs
get_or_in [] i d l = absurd (omega arith)
get_or_in (x ∷ xs) zero d l = inl refl
get_or_in (x ∷ xs) (suc i) d l = inr (get_or_in xs i d (omega arith))

pub unit_in : (n u : ℕ) → u < n → In u (units n)
unit_in n u l = counting_in 0 n u (omega arith) (omega arith)
