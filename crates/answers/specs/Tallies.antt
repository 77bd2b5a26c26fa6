-- How many lines were answered, refused and not understood. A count stops at the largest number of its type.
use Rattle.std.specs.Prelude.{ℕ, ◌+◌, ◌-◌, ◌^◌, min, Ok, Err, Result}
use Rattle.answers.specs.declared.forms.Answer.{Answer}
use Rattle.answers.specs.declared.forms.Unanswered.{Unanswered}
use Rattle.answers.specs.declared.forms.Unanswered.TheVariants.{Refused, NotUnderstood}
use Rattle.answers.specs.declared.tally.Tally.{Tally}

abbrev pub one_more : ℕ → ℕ
one_more count = min (count + 1) (2 ^ 64 - 1)

abbrev pub counted : Tally → Result Answer Unanswered → Tally
counted t (Ok a) = record { answered = one_more t.answered; refused = t.refused; unclear = t.unclear }
counted t (Err (Refused r)) = record { answered = t.answered; refused = one_more t.refused; unclear = t.unclear }
counted t (Err (NotUnderstood m)) = record { answered = t.answered; refused = t.refused; unclear = one_more t.unclear }
