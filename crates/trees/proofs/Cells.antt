-- The sequences of a tree in order, and the entry of each value in memory.
use Rattle.std.proofs.Common.{◌≡◌, ℕ, zero, suc, ◌+◌, ◌-◌, ◌*◌, ◌/◌, ◌%◌, ◌<◌, ◌≤◌, List, [], ◌++◌, length, get_or, sym, refl, ap, ◌∙◌, subst, ap₂, ⊎_elim, arith}
use lib.Arith.{digits_lt}
use Rattle.std.proofs.lemmas.List.{length-append, get_or_append_left, get_or-append-add}
use Rattle.std.proofs.lemmas.Nat.{div-mul-add, mod-mul-add}
use Rattle.std.proofs.lemmas.Bool.{cases_lt, cases_order}
use Rattle.masks.specs.Lists.{In, units}
use Rattle.masks.proofs.Members.{get_or_in}
use Rattle.sequences.specs.Sequences.{sequences, place}
use Rattle.sequences.specs.Sizes.{tree_size}
use Rattle.sequences.proofs.Levels.{level_length}
use Rattle.sequences.proofs.Index.{place_at, place_apart, place_of}
use Rattle.sequences.proofs.Bounds.{wide}
use Rattle.trees.specs.Layouts.{order, cell}

-- at each sequence of the first m trees of h levels, P holds
abbrev pub Each : ℕ → ℕ → ℕ → ℕ → (ℕ → List ℕ → Type 0) → Type 0
Each m n s h P = (p k : ℕ) (α : List ℕ) → p < m → k < h → In α (sequences n s k) → P p α

pub size_le : (n j k : ℕ) → j ≤ k → tree_size n j ≤ tree_size n k
size_le n j zero l = let e : j ≡ 0 = omega arith in subst (λ i. tree_size n i ≤ 0) (sym e) (omega arith)
size_le n j (suc k) l = ⊎_elim
    (λ lt. omega (arith, size_le n j k (omega arith)))
    (λ ge. let e : j ≡ suc k = omega arith in subst (λ i. tree_size n i ≤ tree_size n (suc k)) (sym e) (omega arith))
    (cases_lt j (suc k))

module _ (n s : ℕ) (is : In s (units n)) where
  pub length_order : (k : ℕ) → length (order n s k) ≡ tree_size n k
  length_order zero = refl
  length_order (suc k) = omega (arith, length-append (order n s k) (sequences n s k), length_order k, wide n s k is)

  -- what stands at place i of a level
  pub order_at : (h k i : ℕ) → k < h → i < length (sequences n s k) → get_or (order n s h) (tree_size n k + i) [] ≡ get_or (sequences n s k) i []
  order_at zero k i l li = absurd (omega arith)
  order_at (suc h) k i l li = ⊎_elim
      (λ lt. get_or_append_left (order n s h) (sequences n s h) [] (tree_size n k + i) (omega (arith, length_order h, size_le n (suc k) h lt, wide n s k is)) ∙ order_at h k i lt li)
      (λ ge. let e : k ≡ h = omega arith in
      subst (λ j. get_or (order n s (suc h)) (tree_size n j + i) [] ≡ get_or (sequences n s j) i []) (sym e)
      (ap (λ x. get_or (order n s h ++ sequences n s h) (x + i) []) (sym (length_order h)) ∙ get_or-append-add (order n s h) (sequences n s h) i []))
      (cases_lt k h)

  -- the level and the place of an entry of a tree
  pub split : (h j : ℕ) → j < tree_size n h → (k : ℕ) × (i : ℕ) × (k < h) × (i < length (sequences n s k)) × (tree_size n k + i ≡ j)
  split zero j l = absurd (omega arith)
  split (suc h) j l = ⊎_elim
      (λ lt. let r = split h j lt in (r.0, r.1, omega (arith, r.2), r.3, r.4))
      (λ ge. (h, j - tree_size n h, omega arith, omega (arith, wide n s h is), omega arith))
      (cases_lt j (tree_size n h))

  module _ (h : ℕ) where
    pub in_tree : (k i : ℕ) → k < h → i < length (sequences n s k) → tree_size n k + i < tree_size n h
    in_tree k i l li = omega (arith, size_le n (suc k) h l, wide n s k is)

    -- the entry of the value at a place
    pub cell_at : (p k i : ℕ) → i < length (sequences n s k) → cell n h p (get_or (sequences n s k) i []) ≡ p * tree_size n h + (tree_size n k + i)
    cell_at p k i l =
        let α = get_or (sequences n s k) i [] in
        let len = level_length n s k α (get_or_in (sequences n s k) i [] l) in
        let e : length α - 1 ≡ k = omega arith in
        ap₂ (λ (x y : ℕ). p * tree_size n h + (tree_size n x + y)) e (place_of n s is k i l)

    pub cell_of : (p k : ℕ) (α : List ℕ) → In α (sequences n s k) → cell n h p α ≡ p * tree_size n h + (tree_size n k + place n α)
    cell_of p k α i = let e : length α - 1 ≡ k = omega (arith, level_length n s k α i) in ap (λ (x : ℕ). p * tree_size n h + (tree_size n x + place n α)) e

    pub cell_below : (m p k : ℕ) (α : List ℕ) → p < m → k < h → In α (sequences n s k) → cell n h p α < m * tree_size n h
    cell_below m p k α lp l i = omega (arith, cell_of p k α i, digits_lt lp (in_tree k (place n α) l (place_at n s k α is i).0))

    level_apart : (j k : ℕ) (α β : List ℕ) → In α (sequences n s j) → tree_size n j + place n α ≡ tree_size n k + place n β → j < k → ⊥
    level_apart j k α β i e l = omega (arith, (place_at n s j α is i).0, size_le n (suc j) k l, wide n s j is)

    -- different values have different entries
    pub cell_apart : (p q j k : ℕ) (α β : List ℕ) → j < h → k < h → In α (sequences n s j) → In β (sequences n s k) → cell n h p α ≡ cell n h q β → (p ≡ q) × (α ≡ β)
    cell_apart p q j k α β l l' i i' e =
        let T = tree_size n h in
        let a = tree_size n j + place n α in
        let b = tree_size n k + place n β in
        let f : p * T + a ≡ q * T + b = sym (cell_of p j α i) ∙ (e ∙ cell_of q k β i') in
        let la = in_tree j (place n α) l (place_at n s j α is i).0 in
        let lb = in_tree k (place n β) l' (place_at n s k β is i').0 in
        let pq : p ≡ q = sym (div-mul-add p T a la) ∙ (ap (λ x. x / T) f ∙ div-mul-add q T b lb) in
        let ab : a ≡ b = sym (mod-mul-add p T a la) ∙ (ap (λ x. x % T) f ∙ mod-mul-add q T b lb) in (
          pq,
          ⊎_elim
              (λ g. place_apart n s k α β is (subst (λ x. In α (sequences n s x)) g i) i' (omega (arith, ap (tree_size n) g)))
              (λ g. ⊎_elim (λ x. absurd (level_apart j k α β i ab x)) (λ x. absurd (level_apart k j β α i' (sym ab) x)) g)
              (cases_order j k),
        )
