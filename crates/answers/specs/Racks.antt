-- Sequences, places and plans. Sequences are looked up in trees of 4 levels, the most that there are.
use Rattle.std.specs.Prelude.{ℕ, List, length, Ok, Err, Result}
use Rattle.std.specs.Result.{result_ok}
use Rattle.places.specs.Answers.{shape_answer, place_answer, sequence_answer, back_answer}
use Rattle.plans.specs.Answers.{plan_answer}
use Rattle.places.specs.declared.fault.PlaceFault.{PlaceFault}
use Rattle.answers.specs.declared.forms.Refusal.TheVariants.{Place, Plan}
use Rattle.answers.specs.Replies.{Reply}

-- goes on with what was found, unless it was refused
abbrev pub if_placed : {X : Type 0} → Result X PlaceFault → (X → Reply) → Reply
if_placed (Ok x) next = next x
if_placed (Err fault) next = Reply.refused (Place fault)

abbrev pub place_reply : ℕ → ℕ → List ℕ → Reply
place_reply n s us =
    if_placed (shape_answer n s 4) λ _.
    if_placed (place_answer n s 4 us) λ i.
    Reply.place (length us) i

-- the way back is left out where there is none
abbrev pub sequence_reply : ℕ → ℕ → ℕ → ℕ → Reply
sequence_reply n s k i =
    if_placed (shape_answer n s 4) λ _.
    if_placed (sequence_answer n s 4 k i) λ us.
    Reply.sequence us (result_ok (back_answer n s 4 k i))

abbrev pub plan_reply : ℕ → ℕ → ℕ → ℕ → Reply
plan_reply n t gear s = elim (plan_answer n t gear s) [ Ok parts ↦ Reply.plan parts | Err fault ↦ Reply.refused (Plan fault) ]
