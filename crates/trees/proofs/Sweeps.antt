-- A loop that writes new values at the aimed sequences, in the order of a key: the trees when the keys below i are done.
use Rattle.std.proofs.Common.{◌≡◌, ℕ, ◌+◌, ◌*◌, ◌<◌, ◌≤◌, Bool, true, false, cond, ◌&&◌, ltb, List, length, get_or, set, sym, ap, ◌∙◌, ⊎_elim, arith}
use Rattle.std.proofs.lemmas.List.{get_or_read}
use Rattle.std.proofs.lemmas.Bool.{cases_Bool, cases_eq, cases_lt, lt-ltb, le-ltb, and_from, and_right}
use Rattle.masks.specs.Lists.{In, units}
use Rattle.sequences.specs.Sequences.{sequences}
use Rattle.sequences.specs.Sizes.{tree_size}
use Rattle.trees.specs.Layouts.{Trees, cell, at, planted}
use Rattle.trees.proofs.Cells.{Each, cell_below}
use Rattle.trees.proofs.Laid.{at_laid, laid_at, laid_same, laid_set, length_laid}

module _ {V : Type 0} (m n s h : ℕ) (d : V) (old : List V) (aimed : ℕ → List ℕ → Bool) (key : List ℕ → ℕ) (new : Trees V) where
  abbrev pub swept : ℕ → Trees V
  swept i q γ = cond (aimed q γ && ltb (key γ) i) (new q γ) (at n h d old q γ)

  abbrev pub replaced : Trees V
  replaced q γ = cond (aimed q γ) (new q γ) (at n h d old q γ)

  -- of the sequences with a place in the trees, those that are aimed have P
  abbrev pub Aimed : (ℕ → List ℕ → Type 0) → Type 0
  Aimed P = Each m n s h (λ q γ. aimed q γ ≡ true → P q γ)

  module _ (is : In s (units n)) (room : m * tree_size n h ≤ length old) where
    pub sweep_none : old ≡ planted m n s h (swept 0) old
    sweep_none = laid_at n s is h m old d room ∙ laid_same n s is h m (at n h d old) (swept 0) old d room
        (λ q j γ lq lj i. sym (ap (λ b. cond b (new q γ) (at n h d old q γ)) (and_right (aimed q γ) (ltb (key γ) 0) (le-ltb (key γ) 0 (omega arith)))))

    pub sweep_all : (i : ℕ) → Aimed (λ q γ. key γ < i) → planted m n s h (swept i) old ≡ planted m n s h replaced old
    sweep_all i all = laid_same n s is h m (swept i) replaced old d room (λ q j γ lq lj ig. ap (λ b. cond b (new q γ) (at n h d old q γ))
        (⊎_elim
        (λ e. and_from (aimed q γ) (ltb (key γ) i) e (lt-ltb (key γ) i (all q j γ lq lj ig e)) ∙ sym e)
        (λ e. ap (λ b. b && ltb (key γ) i) e ∙ sym e)
        (cases_Bool (aimed q γ))))

    -- only keys of i differ
    sweep_other : (i q : ℕ) (γ : List ℕ) → (aimed q γ ≡ true → key γ ≡ i → ⊥) → swept i q γ ≡ swept (i + 1) q γ
    sweep_other i q γ off = ap (λ b. cond b (new q γ) (at n h d old q γ))
        (⊎_elim
        (λ e. ap (λ b. aimed q γ && b) (⊎_elim
        (λ l. lt-ltb (key γ) i l ∙ sym (lt-ltb (key γ) (i + 1) (omega arith)))
        (λ l. le-ltb (key γ) i l ∙ sym (le-ltb (key γ) (i + 1) (⊎_elim (λ z. absurd (off e z)) (λ z. omega (arith, z)) (cases_eq (key γ) i))))
        (cases_lt (key γ) i)))
        (λ e. ap (λ b. b && ltb (key γ) i) e ∙ sym (ap (λ b. b && ltb (key γ) (i + 1)) e))
        (cases_Bool (aimed q γ)))

    pub sweep_skip : (i : ℕ) (xs : List V) → xs ≡ planted m n s h (swept i) old → Aimed (λ q γ. key γ ≡ i → ⊥) → xs ≡ planted m n s h (swept (i + 1)) old
    sweep_skip i xs e off = e ∙ laid_same n s is h m (swept i) (swept (i + 1)) old d room (λ q j γ lq lj ig. sweep_other i q γ (off q j γ lq lj ig))

    -- the one aimed sequence with the key i is written
    pub sweep_more : (i : ℕ) (xs : List V) (v : V) (p k : ℕ) (γ : List ℕ) → xs ≡ planted m n s h (swept i) old → p < m → k < h → In γ (sequences n s k)
        → aimed p γ ≡ true → key γ ≡ i → v ≡ new p γ → Aimed (λ q β. key β ≡ i → (q ≡ p) × (β ≡ γ)) → set xs (cell n h p γ) v ≡ planted m n s h (swept (i + 1)) old
    sweep_more i xs v p k γ e lp lk ig hit here val one =
        laid_set n s is h m (swept i) (swept (i + 1)) old xs d v p k γ room e lp lk ig
        (val ∙ sym (ap (λ b. cond b (new p γ) (at n h d old p γ)) (and_from (aimed p γ) (ltb (key γ) (i + 1)) hit (lt-ltb (key γ) (i + 1) (omega (arith, here))))))
        (λ q j β lq lj ib apart. sweep_other i q β (λ a z. let r = one q j β lq lj ib a z in apart r.0 r.1))

    -- what is not aimed is read as it was
    pub sweep_read : (i c : ℕ) (xs : List V) (x : V) (p k : ℕ) (γ : List ℕ) → xs ≡ planted m n s h (swept i) old → p < m → k < h → In γ (sequences n s k)
        → aimed p γ ≡ false → c ≡ cell n h p γ → x ≡ get_or xs c x → x ≡ at n h d old p γ
    sweep_read i c xs x p k γ e lp lk ig out is_c read =
        let len : length xs ≡ length old = ap length e ∙ length_laid n s is h m (swept i) old room in
        get_or_read xs c x (omega (arith, cell_below n s is h m p k γ lp lk ig)) read d
        ∙ (ap (λ y. get_or xs y d) is_c ∙ (ap (λ ys. at n h d ys p γ) e ∙ (at_laid n s is h m (swept i) old d p k γ lp lk ig
        ∙ ap (λ b. cond (b && ltb (key γ) i) (new p γ) (at n h d old p γ)) out)))
