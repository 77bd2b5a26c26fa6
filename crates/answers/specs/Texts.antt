-- How replies and counts are printed.
use Rattle.std.specs.Prelude.{ℕ, List, ◌++◌, codes, decimal, Some, None, Option}
use Rattle.kinds.specs.Rights.{right_code}
use Rattle.kinds.specs.Triggers.{trigger_code}
use Rattle.kinds.specs.Texts.{right_text, trigger_text}
use Rattle.fields.specs.Texts.{kind_text, misread_text}
use Rattle.lines.specs.Faults as lines
use Rattle.places.specs.Faults as places
use Rattle.places.specs.Texts.{units_text}
use Rattle.plans.specs.Faults as plans
use Rattle.plans.specs.Texts.{plan_text}
use Rattle.answers.specs.declared.forms.Refusal.{Refusal}
use Rattle.answers.specs.declared.forms.Refusal.TheVariants.{Place, Plan, Script}
use Rattle.answers.specs.declared.forms.Value.{Value}
use Rattle.answers.specs.declared.forms.Value.TheVariants as value
use Rattle.answers.specs.declared.tally.Tally.{Tally}
use Rattle.answers.specs.Refusals.{refusal_number}
use Rattle.answers.specs.Replies.{Reply}

-- a value that was found: its kind, and the value
abbrev pub found_text : Value → List ℕ
found_text (value.Right right) = codes "right " ++ right_text right
found_text (value.Trigger trigger) = codes "trigger " ++ trigger_text trigger

-- what a vote answers: a value with its code, or open
abbrev pub vote_text : Option Value → List ℕ
vote_text None = codes "open"
vote_text (Some (value.Right right)) = right_text right ++ codes ", code " ++ decimal (right_code right)
vote_text (Some (value.Trigger trigger)) = trigger_text trigger ++ codes ", code " ++ decimal (trigger_code trigger)

-- the way back from a sequence: its last unit and the parent's place
abbrev pub back_text : Option (ℕ × ℕ) → List ℕ
back_text (Some back) = codes ", last unit " ++ (decimal back.0 ++ (codes ", parent at place " ++ decimal back.1))
back_text None = codes ", no way back"

-- what arrives: a code, or nothing
abbrev pub arrival_text : Option ℕ → List ℕ
arrival_text (Some code) = codes "code " ++ decimal code ++ codes " arrives"
arrival_text None = codes "nothing arrives"

-- what a refusal says, from whichever layer it comes
abbrev pub refusal_text : Refusal → List ℕ
refusal_text (Place fault) = places.fault_text fault
refusal_text (Plan fault) = plans.fault_text fault
refusal_text (Script fault) = lines.fault_text fault

-- what became of a line
abbrev pub reply_text : Reply → List ℕ
reply_text (Reply.found v) = found_text v
reply_text (Reply.no_value kind number) = codes "no " ++ kind_text kind ++ codes " has code " ++ decimal number
reply_text (Reply.code number) = codes "code " ++ decimal number
reply_text (Reply.no_such kind) = codes "no such " ++ kind_text kind
reply_text (Reply.place level index) = codes "level " ++ decimal level ++ codes ", place " ++ decimal index
reply_text (Reply.sequence units back) = units_text units ++ back_text back
reply_text (Reply.plan parts) = plan_text parts.0 parts.1 parts.2
reply_text (Reply.vote answer) = vote_text answer
reply_text (Reply.added used capacity mask) =
    codes "record " ++ (decimal used ++ (codes " of " ++ (decimal capacity ++ (codes ", loose mask " ++ decimal mask))))
reply_text (Reply.arrives code) = arrival_text code
reply_text (Reply.refused refusal) = codes "refused " ++ decimal (refusal_number refusal) ++ codes ": " ++ refusal_text refusal
reply_text (Reply.not_understood misread) = codes "not understood: " ++ misread_text misread

-- the counts at the end of a sheet
abbrev pub tally_text : Tally → List ℕ
tally_text t = codes "answered " ++ decimal t.answered ++ codes ", refused " ++ decimal t.refused ++ codes ", not understood " ++ decimal t.unclear
