-- A memory laid out from trees holds them, and a memory that holds them is the one laid out.
use Rattle.std.proofs.Common.{◌≡◌, ℕ, ◌+◌, ◌-◌, ◌*◌, ◌/◌, ◌%◌, ◌<◌, ◌≤◌, List, [], map, length, get_or, drop, set, sym, refl, ap, ◌∙◌, subst, ap₂, ⊎_elim, zero-add, arith}
use lib.Arith.{digits_lt}
use Rattle.std.specs.List.{flat_map}
use Rattle.std.proofs.lemmas.List.{length-map, length-append, length-set, length-drop, get_or-drop, get_or_append_left, get_or-append_right, get_or-map, get_or-set_same, get_or-set_other, ext_get_or}
use Rattle.std.proofs.lemmas.List.FromFn.{length-range_with_len, get_or-range_with_len}
use Rattle.std.proofs.lemmas.Nat.{div-add-mod', div_below, mod_below}
use Rattle.std.proofs.lemmas.Bool.{cases_lt, cases_eq}
use Rattle.masks.specs.Lists.{In, units}
use Rattle.masks.proofs.Members.{get_or_in}
use Rattle.sequences.specs.Sequences.{sequences, place}
use Rattle.sequences.specs.Sizes.{tree_size}
use Rattle.sequences.proofs.Index.{length_joined, get_or_joined, place_at}
use Rattle.trees.specs.Layouts.{Trees, order, cell, at, planted}
use Rattle.trees.proofs.Cells.{Each, length_order, order_at, split, in_tree, cell_at, cell_of, cell_below, cell_apart}

module _ (n s : ℕ) (is : In s (units n)) (h : ℕ) {V : Type 0} (m : ℕ) where
  abbrev values : Trees V → List V
  values f = flat_map (λ p. map (f p) (order n s h)) (units m)

  length_tree : (f : Trees V) (p : ℕ) → length (map (f p) (order n s h)) ≡ tree_size n h
  length_tree f p = length-map (order n s h) (f p) ∙ length_order n s is h

  length_values : (f : Trees V) → length (values f) ≡ m * tree_size n h
  length_values f = length_joined (λ p. map (f p) (order n s h)) (tree_size n h) (units m) (λ p _. length_tree f p) ∙ ap (λ x. x * tree_size n h) (length-range_with_len 0 m)

  pub length_laid : (f : Trees V) (old : List V) → m * tree_size n h ≤ length old → length (planted m n s h f old) ≡ length old
  length_laid f old room = omega (arith, length-append (values f) (drop (m * tree_size n h) old), length_values f, length-drop (m * tree_size n h) old)

  laid_entry : (f : Trees V) (old : List V) (d : V) (p k i : ℕ) → p < m → k < h → i < length (sequences n s k)
      → get_or (planted m n s h f old) (p * tree_size n h + (tree_size n k + i)) d ≡ f p (get_or (sequences n s k) i [])
  laid_entry f old d p k i lp lk li =
      let T = tree_size n h in
      let j = tree_size n k + i in
      let lj : j < T = in_tree n s is h k i lk li in
      let piece = λ (q : ℕ). map (f q) (order n s h) in
      get_or_append_left (values f) (drop (m * T) old) d (p * T + j) (omega (arith, length_values f, digits_lt lp lj))
      ∙ (get_or_joined piece T (units m) p j d 0 (λ q _. length_tree f q) (omega (arith, length-range_with_len 0 m)) lj
      ∙ (ap (λ q. get_or (piece q) j d) (get_or-range_with_len 0 m p 0 lp ∙ zero-add p)
      ∙ (get_or-map (f p) (order n s h) j [] d (omega (arith, length_order n s is h)) ∙ ap (f p) (order_at n s is h k i lk li))))

  -- reading what was laid
  pub at_laid : (f : Trees V) (old : List V) (d : V) → Each m n s h (λ p α. at n h d (planted m n s h f old) p α ≡ f p α)
  at_laid f old d p k α lp lk i =
      let r = place_at n s k α is i in
      ap (λ x. get_or (planted m n s h f old) x d) (cell_of n s is h p k α i) ∙ (laid_entry f old d p k (place n α) lp lk r.0 ∙ ap (f p) r.1)

  pub laid_past : (f : Trees V) (old : List V) (d : V) (j : ℕ) → m * tree_size n h ≤ j → get_or (planted m n s h f old) j d ≡ get_or old j d
  laid_past f old d j l =
      let N = m * tree_size n h in
      let e : N + (j - N) ≡ j = omega arith in
      get_or-append_right (values f) (drop N old) N j d (length_values f) l ∙ (get_or-drop N old (j - N) d ∙ ap (λ x. get_or old x d) e)

  -- a memory that holds the trees, and past them what the old one had
  pub laid_is : (f : Trees V) (old xs : List V) (d : V) → m * tree_size n h ≤ length old → length xs ≡ length old
      → Each m n s h (λ p α. at n h d xs p α ≡ f p α)
      → ((j : ℕ) → m * tree_size n h ≤ j → get_or xs j d ≡ get_or old j d)
      → xs ≡ planted m n s h f old
  laid_is f old xs d room len holds rest = ext_get_or d xs (planted m n s h f old) (len ∙ sym (length_laid f old room)) (λ j lj.
      ⊎_elim (λ lt. inside j lt) (λ ge. rest j ge ∙ sym (laid_past f old d j ge)) (cases_lt j (m * tree_size n h)))
    where
      inside : (j : ℕ) → j < m * tree_size n h → get_or xs j d ≡ get_or (planted m n s h f old) j d
      inside j lt =
          let T = tree_size n h in
          let pos : 0 < T = ⊎_elim (λ (p : 0 < T). p) (λ (z : T ≤ 0). let e : T ≡ 0 = omega arith in absurd (omega (arith, ap (λ x. m * x) e))) (cases_lt 0 T) in
          let p = j / T in
          let lp : p < m = div_below j T m pos lt in
          let sp = split n s is h (j % T) (mod_below j T pos) in
          let k = sp.0 in
          let i = sp.1 in
          let e : p * T + (tree_size n k + i) ≡ j = ap (λ x. p * T + x) sp.4 ∙ div-add-mod' j T in
          let α = get_or (sequences n s k) i [] in
          let ia = get_or_in (sequences n s k) i [] sp.3 in
          subst (λ x. get_or xs x d ≡ get_or (planted m n s h f old) x d) e
          (ap (λ x. get_or xs x d) (sym (cell_at n s is h p k i sp.3)) ∙ (holds p k α lp sp.2 ia ∙ sym (laid_entry f old d p k i lp sp.2 sp.3)))

  -- two functions that agree on the trees lay the same memory
  pub laid_same : (f g : Trees V) (old : List V) (d : V) → m * tree_size n h ≤ length old → Each m n s h (λ p α. f p α ≡ g p α)
      → planted m n s h f old ≡ planted m n s h g old
  laid_same f g old d room same = laid_is g old (planted m n s h f old) d room (length_laid f old room)
      (λ p k α lp lk i. at_laid f old d p k α lp lk i ∙ same p k α lp lk i) (laid_past f old d)

  -- a memory is laid out from what it holds
  pub laid_at : (old : List V) (d : V) → m * tree_size n h ≤ length old → old ≡ planted m n s h (at n h d old) old
  laid_at old d room = laid_is (at n h d old) old old d room refl (λ p k α lp lk i. refl) (λ j l. refl)

  -- a second layer hides the first
  pub laid_laid : (f g : Trees V) (old : List V) (d : V) → m * tree_size n h ≤ length old → planted m n s h f (planted m n s h g old) ≡ planted m n s h f old
  laid_laid f g old d room =
      let under = planted m n s h g old in
      let len = length_laid g old room in
      laid_is f old (planted m n s h f under) d room (length_laid f under (omega arith) ∙ len)
      (at_laid f under d) (λ j l. laid_past f under d j l ∙ laid_past g old d j l)

  -- one write
  pub laid_set : (f g : Trees V) (old xs : List V) (d v : V) (p k : ℕ) (α : List ℕ) → m * tree_size n h ≤ length old → xs ≡ planted m n s h f old
      → p < m → k < h → In α (sequences n s k) → v ≡ g p α
      → Each m n s h (λ q β. (q ≡ p → β ≡ α → ⊥) → f q β ≡ g q β)
      → set xs (cell n h p α) v ≡ planted m n s h g old
  laid_set f g old xs d v p k α room is' lp lk i val off =
      let c = cell n h p α in
      let len : length xs ≡ length old = ap length is' ∙ length_laid f old room in
      let low = cell_below n s is h m p k α lp lk i in
      laid_is g old (set xs c v) d room (length-set xs c v ∙ len)
      (λ q j β lq lj iβ. ⊎_elim
      (λ e. let r = cell_apart n s is h q p j k β α lj lk iβ i e in
      ap (λ x. get_or (set xs c v) x d) e ∙ (get_or-set_same xs c v d (omega arith) ∙ (val ∙ ap₂ g (sym r.0) (sym r.1))))
      (λ ne. get_or-set_other xs c (cell n h q β) v d ne ∙ (ap (λ ys. get_or ys (cell n h q β) d) is' ∙ (at_laid f old d q j β lq lj iβ
      ∙ off q j β lq lj iβ (λ a b. ne (ap₂ (cell n h) a b)))))
      (cases_eq (cell n h q β) c))
      (λ j l. get_or-set_other xs c j v d (λ e. omega arith) ∙ (ap (λ ys. get_or ys j d) is' ∙ laid_past f old d j l))
