-- Two different values share the entries.
use Rattle.std.specs.Prelude.{◌≡◌, ◌+◌, ◌<◌, ◌≤◌, cond, List, [], ◌∷◌, length, Some, None, Option, ◌≢◌}
use Rattle.std.proofs.Common.{inl, inr, arith}
use Rattle.std.proofs.lemmas.List.Sums.{sum_by-cons}
use Rattle.std.proofs.lemmas.Bool.{cases_eq}
use Rattle.std.proofs.lemmas.Bool.Decides.{nat_tests}
use Rattle.kinds.specs.Models.{KindModel}
use Rattle.votes.specs.Entries.{supports, support}

module _ {K : Type 0} (m : KindModel K) where
  pub support_cons : (x : K) (e : Option K) (es : List (Option K)) → support m x (e ∷ es) ≡ cond (supports m x e) 1 0 + support m x es
  support_cons x e es = sum_by-cons (λ y. cond (supports m x y) 1 0) e es

  one_of_two : (x y : K) → (m.code_of x ≢ m.code_of y) → (e : Option K) → cond (supports m x e) 1 0 + cond (supports m y e) 1 0 ≤ 1
  one_of_two x y apart None = omega arith
  one_of_two x y apart (Some z) = grind (arith, nat_tests)

  pub shared : (x y : K) → (m.code_of x ≢ m.code_of y) → (es : List (Option K)) → support m x es + support m y es ≤ length es
  shared x y apart [] = omega arith
  shared x y apart (e ∷ es) = omega (arith, support_cons x e es, support_cons y e es, one_of_two x y apart e, shared x y apart es)

  -- values whose support is more than the entries have the same code
  pub both_same : (x y : K) (es : List (Option K)) → length es < support m x es + support m y es → m.code_of x ≡ m.code_of y
  both_same x y es many =
      elim (cases_eq (m.code_of x) (m.code_of y)) [
        | inl e ↦ e
        | inr apart ↦ absurd (omega (arith, shared x y apart es))
      ]
