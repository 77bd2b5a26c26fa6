-- What the first word of a line names.
use Rattle.std.specs.Prelude.{ℕ, cond, Ok, Err, Result}
use Rattle.fields.specs.declared.forms.Misread.{Misread}
use Rattle.fields.specs.declared.forms.Misread.TheVariants.{UnknownQuestion}
use Rattle.fields.specs.Names.{says}
use Rattle.words.specs.Words.{Word}
use Rattle.sheets.specs.declared.forms.Topic.{Topic}
use Rattle.sheets.specs.declared.forms.Topic.TheVariants.{Code, Value, Place, Sequence, Plan, Vote, Letter, Arrives}

-- the first word names the question
abbrev pub topic : ℕ → Word → Result Topic Misread
topic i w =
    cond (says w "code") (Ok Code)
    (cond (says w "value") (Ok Value)
    (cond (says w "place") (Ok Place)
    (cond (says w "sequence") (Ok Sequence)
    (cond (says w "plan") (Ok Plan)
    (cond (says w "vote") (Ok Vote)
    (cond (says w "letter") (Ok Letter)
    (cond (says w "arrives") (Ok Arrives)
    (Err UnknownQuestion))))))))
