-- Results that are known beforehand, of the definitions that the contracts of the layers cite.
use Rattle.std.specs.Prelude.{◌≡◌, ℕ, Bool, true, false, List, [], ◌∷◌, map, negsuc, is_some, Some, None, Ok, Option, ◌==◌}
use Rattle.std.specs.Option.{option_map}
use Rattle.kinds.specs.declared.right.Right.{Right}
use Rattle.kinds.specs.declared.right.Right.TheVariants.{Withdrawn}
use Rattle.kinds.specs.declared.trigger.Slope.TheVariants.{Falling}
use Rattle.kinds.specs.Rights.{right_of, right_code, right_model}
use Rattle.kinds.specs.Triggers.{trigger_from, trigger_of, trigger_code}
use Rattle.places.specs.Answers.{place_answer}
use Rattle.sequences.specs.Widths.{width}
use Rattle.votes.specs.Meanings.{majority, threshold}

-- the rights with these codes, as entries of a vote
abbrev pub rights : List ℕ → List (Option Right)
rights codes = map right_of codes

pub record Known : Type 0 where
  -- right 61 reads, 62 does not
  pub right_61 : is_some (right_of 61) ≡ true
  pub right_62 : right_of 62 ≡ None
  -- channel 3, falling, -5 has code 22523; trigger 32768 does not read
  pub trigger_22523 : option_map trigger_code (trigger_from 3 Falling (negsuc 4)) ≡ Some 22523
  pub trigger_32768 : trigger_of 32768 ≡ None
  -- n 4, source 1: sequence 1, 0, 3 has place 1
  pub place_1 : place_answer 4 1 4 (1 ∷ 0 ∷ 3 ∷ []) ≡ Ok 1
  -- level 4 of 21 units has 6,840 sequences
  pub width_6840 : width 21 4 ≡ 6840
  -- with t 1: 2, 2, 0 gives 2 by threshold; 2, 2, 0, 0 gives ground by majority and open by threshold
  pub threshold_220 : option_map right_code (threshold right_model (rights (2 ∷ 2 ∷ 0 ∷ [])) 1) ≡ Some 2
  pub majority_2200 : majority right_model (rights (2 ∷ 2 ∷ 0 ∷ 0 ∷ [])) 1 ≡ Some Withdrawn
  pub threshold_2200 : threshold right_model (rights (2 ∷ 2 ∷ 0 ∷ 0 ∷ [])) 1 ≡ None

-- the answer is the right with this code
abbrev pub has_code : Option Right → ℕ → Bool
has_code (Some right) code = right_code right == code
has_code None code = false
