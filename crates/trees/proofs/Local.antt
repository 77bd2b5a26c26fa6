-- Rules that look at nothing but the trees: the memory after them is that of the rules one after another.
use Rattle.std.proofs.Common.{◌≡◌, ℕ, ◌*◌, ◌≤◌, Bool, true, false, cond, List, length, sym, refl, ◌∙◌, subst}
use Rattle.masks.specs.Lists.{In, units}
use Rattle.sequences.specs.Sizes.{tree_size}
use Rattle.trees.specs.Layouts.{Trees, at, planted, stepped}
use Rattle.trees.proofs.Cells.{Each}
use Rattle.trees.proofs.Laid.{at_laid, laid_same, laid_laid}

-- a value chosen by a test, equal on both ways
pub either : {V : Type 0} (b : Bool) (x x' y y' : V) → (b ≡ true → x ≡ x') → y ≡ y' → cond b x y ≡ cond b x' y'
either true x x' y y' f e = f refl
either false x x' y y' f e = e

module _ {V : Type 0} (m n s h : ℕ) where
  -- two functions agree on the trees
  abbrev pub Alike : Trees V → Trees V → Type 0
  Alike f g = Each m n s h (λ q γ. f q γ ≡ g q γ)

  -- a rule that reads its trees at their sequences only
  abbrev pub Local : (Trees V → Trees V) → Type 0
  Local rule = (f g : Trees V) → Alike f g → Alike (rule f) (rule g)

  pub laid_then : (d : V) (is : In s (units n)) (rule : Trees V → Trees V) → Local rule → (f : Trees V) (old xs : List V) → m * tree_size n h ≤ length old
      → xs ≡ planted m n s h f old → planted m n s h (rule (at n h d xs)) xs ≡ planted m n s h (rule f) old
  laid_then d is rule local f old xs room e =
      let read = at n h d (planted m n s h f old) in
      subst (λ ys. planted m n s h (rule (at n h d ys)) ys ≡ planted m n s h (rule f) old) (sym e)
      (laid_laid n s is h m (rule read) f old d room
      ∙ laid_same n s is h m (rule read) (rule f) old d room (local read f (at_laid n s is h m f old d)))

-- one step after another is one step
pub then_stepped : {V : Type 0} (n s h : ℕ) (d : V) (is : In s (units n)) (first rule : Trees V → Trees V) → Local n n s h rule → (old xs ys : List V)
    → n * tree_size n h ≤ length old → xs ≡ stepped n s h d first old → ys ≡ stepped n s h d rule xs → ys ≡ stepped n s h d (λ t. rule (first t)) old
then_stepped n s h d is first rule local old xs ys room e e' = e' ∙ laid_then n n s h d is rule local (first (at n h d old)) old xs room e
