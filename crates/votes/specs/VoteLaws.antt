-- Majority and threshold keep their laws.
use Rattle.std.specs.Prelude.{◌≡◌, ◌+◌, ◌*◌, ◌/◌, ◌<◌, Bool, true, List, length, Some, filter, Option}
use Rattle.std.proofs.Common.{ap, ◌∙◌, arith}
use Rattle.std.specs.List.{slice_get}
use Rattle.std.proofs.lemmas.Bool.Decides.{nat_tests}
use Rattle.std.proofs.lemmas.Bool.{eq-eqb, ltb-true, lt-ltb, leb-true, le-leb}
use Rattle.kinds.specs.Models.{KindModel, Lawful}
use Rattle.votes.specs.Entries.{values, support}
use Rattle.votes.specs.Laws.{Answer, FirstLaw, MajorityLaw}
use Rattle.votes.specs.Meanings.{only, in_most, enough, majority, threshold}
use Rattle.votes.specs.Counts.{both_same}
use Rattle.votes.specs.Only.{only_first, only_one}

-- the majority law gives the first law
pub strong_first : {K : Type 0} (m : KindModel K) (answer : Answer K) → MajorityLaw m answer → FirstLaw m answer
strong_first m answer major entries t x long most = major entries t x (omega arith)

module _ {K : Type 0} (m : KindModel K) where
  more_than_half : (es : List (Option K)) (x : K) → enough m es (length es / 2 + 1) x ≡ in_most m es x
  more_than_half es x = grind (arith, nat_tests)

  -- the first value in more than half of the entries is the only one
  pub most_first : (es : List (Option K)) → slice_get (filter (enough m es (length es / 2 + 1)) (values es)) 0 ≡ only m (filter (in_most m es) (values es))
  most_first es =
      ap (λ p. slice_get (filter p (values es)) 0) (λ i x. more_than_half es x i)
      ∙ only_first m (in_most m es) (λ x y t u. eq-eqb _ _ (both_same m x y es (omega (arith, ltb-true (length es) (2 * support m x es) t, ltb-true (length es) (2 * support m y es) u)))) (values es)

  module _ (lawful : Lawful m) where
    -- a value that passes wins if no other can share the entries with it and pass
    winner : (p : K → Bool) (x : K) (es : List (Option K)) → p x ≡ true → ((y : K) → p y ≡ true → length es < support m y es + support m x es)
        → 0 < support m x es → only m (filter p (values es)) ≡ Some x
    winner p x es has more = only_one m lawful p x has (λ y u. both_same m y x es (more y u)) es

    pub majority_major : MajorityLaw m (majority m)
    majority_major entries t x most =
        rw (winner (in_most m entries) x entries (lt-ltb _ _ most) (λ y u. omega (arith, ltb-true (length entries) (2 * support m y entries) u)) (omega arith))

    pub majority_first : FirstLaw m (majority m)
    majority_first = strong_first m (majority m) majority_major

    pub threshold_first : FirstLaw m (threshold m)
    threshold_first entries t x long most =
        winner (enough m entries (t + 1)) x entries (le-leb _ _ (omega arith)) (λ y u. omega (arith, leb-true (t + 1) (support m y entries) u)) (omega arith)
