-- The only value of a list, and the only one of the entries that passes a test.
use Rattle.std.specs.Prelude.{◌≡◌, ℕ, ◌<◌, Bool, true, false, cond, List, [], ◌∷◌, Some, None, filter, Option, refl}
use Rattle.std.proofs.Common.{sym, ap, subst, ◌∙◌, inl, inr, arith}
use Rattle.std.specs.List.{slice_get}
use Rattle.std.proofs.lemmas.Bool.{both_ways, cases_Bool, eq-eqb, ne_eqb}
use Rattle.kinds.specs.Models.{KindModel, Lawful, same_value}
use Rattle.kinds.proofs.SameCode.{same_code}
use Rattle.votes.specs.Entries.{values, supports, support}
use Rattle.masks.specs.Lists.{every}
use Rattle.votes.specs.Meanings.{only}
use Rattle.votes.specs.Counts.{support_cons}

every_kept : {K : Type 0} (p q : K → Bool) → ((y : K) → p y ≡ true → q y ≡ true) → (xs : List K) → every q (filter p xs) ≡ true
every_kept p q so [] = refl
every_kept p q so (x ∷ xs) =
    elim (cases_Bool (p x)) [
      | inl t ↦ rw (t, so x t) (every_kept p q so xs)
      | inr f ↦ rw f (every_kept p q so xs)
    ]

module _ {K : Type 0} (m : KindModel K) where
  pub only_none : (xs : List K) → slice_get xs 0 ≡ None → only m xs ≡ None
  only_none [] none = refl
  only_none (x ∷ xs) none = let z : ◌≡◌ {A = ℕ} 0 1 = cc in absurd (omega arith)

  pub only_some : (xs : List K) (x : K) → slice_get xs 0 ≡ Some x → only m xs ≡ cond (every (same_value m x) xs) (Some x) None
  only_some [] x first = let z : ◌≡◌ {A = ℕ} 0 1 = cc in absurd (omega arith)
  only_some (y ∷ ys) x first =
      let e : y ≡ x = cc in
      subst (λ z. only m (y ∷ ys) ≡ cond (every (same_value m z) (y ∷ ys)) (Some z) None) e (rw (eq-eqb (m.code_of y) (m.code_of y) refl))

  -- where all that pass are the same, the first is the only one
  pub only_first : (p : K → Bool) → ((x y : K) → p x ≡ true → p y ≡ true → same_value m x y ≡ true) → (xs : List K) → slice_get (filter p xs) 0 ≡ only m (filter p xs)
  only_first p same [] = refl
  only_first p same (x ∷ xs) =
      elim (cases_Bool (p x)) [
        | inl t ↦ rw (t, every_kept p (same_value m x) (λ y. same x y t) xs)
        | inr f ↦ rw f (only_first p same xs)
      ]

  -- a value that passes, as no other does, and that an entry supports is the only one
  pub only_one : Lawful m → (p : K → Bool) (x : K) → p x ≡ true → ((y : K) → p y ≡ true → m.code_of y ≡ m.code_of x)
      → (es : List (Option K)) → 0 < support m x es → only m (filter p (values es)) ≡ Some x
  only_one lawful p x has alone [] some = absurd (omega arith)
  only_one lawful p x has alone (None ∷ es) some = only_one lawful p x has alone es (omega (arith, support_cons m x None es))
  only_one lawful p x has alone (Some y ∷ es) some =
      elim (cases_Bool (p y)) [
        | inl t ↦ rw (t, every_kept p (same_value m y) (λ z u. eq-eqb _ _ (alone y t ∙ sym (alone z u))) (values es)) (ap Some (same_code m lawful y x (alone y t)))
        | inr f ↦
            (let apart : same_value m y x ≡ false = ne_eqb _ _ (λ e. both_ways (p y) f (ap p (same_code m lawful y x e) ∙ has)) in
            let none : cond {A = ℕ} (supports m x (Some y)) 1 0 ≡ 0 = rw apart in
            rw f (only_one lawful p x has alone es (omega (arith, support_cons m x (Some y) es))))
      ]
