-- The questions, word by word. ws are all the words of the line: the first one names the question.
use Rattle.std.specs.Prelude.{ℕ, ◌+◌, cond, List, Ok, Err, Result, slice_index}
use Rattle.fields.specs.declared.forms.KindName.TheVariants.{Right, Trigger}
use Rattle.fields.specs.declared.forms.Misread.{Misread}
use Rattle.fields.specs.declared.forms.Misread.TheVariants.{UnknownWord}
use Rattle.sheets.specs.declared.forms.RightName.{RightName}
use Rattle.sheets.specs.declared.forms.RightName.TheVariants.{Withdrawn, Watch, Operate}
use Rattle.sheets.specs.declared.forms.Topic.TheVariants.{Code, Value, Place, Sequence, Plan, Vote, Letter, Arrives}
use Rattle.sheets.specs.Asked.{Asked}
use Rattle.fields.specs.Names.{says, kind, slope, vote}
use Rattle.sheets.specs.Topics.{topic}
use Rattle.fields.specs.Numbers.{number, level, entry}
use Rattle.fields.specs.Steps.{and_then, exactly, at_least, word, at, from}
use Rattle.lines.specs.declared.script.Record.{Record}
use Rattle.words.specs.Words.{Word}

-- a line of a name and as many numbers
abbrev pub numbers : ℕ → List Word → Result (List ℕ) Misread
numbers count ws = and_then (exactly (count + 1) ws) λ _. from number ws 2

-- what is made of numbers, in their order
abbrev pub four : {A : Type 0} → (ℕ → ℕ → ℕ → ℕ → A) → List ℕ → A
four make xs = make (slice_index xs 0) (slice_index xs 1) (slice_index xs 2) (slice_index xs 3)

abbrev pub five : {A : Type 0} → (ℕ → ℕ → ℕ → ℕ → ℕ → A) → List ℕ → A
five make xs = make (slice_index xs 0) (slice_index xs 1) (slice_index xs 2) (slice_index xs 3) (slice_index xs 4)

-- code KIND C
abbrev pub code_of : List Word → Result Asked Misread
code_of ws =
    and_then (exactly 3 ws) λ _.
    and_then (at kind ws 2) λ k.
    and_then (at number ws 3) λ c.
    Ok (Asked.code k c)

-- the right that word 3 names: it says how many words there are, so one that is no right is told before their number
abbrev pub right_of : List Word → Result RightName Misread
right_of ws =
    and_then (at_least 3 ws) λ _.
    cond (says (word ws 3) "withdrawn") (and_then (exactly 3 ws) λ _. Ok Withdrawn)
    (cond (says (word ws 3) "watch") (and_then (exactly 3 ws) λ _. Ok Watch)
    (cond (says (word ws 3) "operate") (and_then (exactly 4 ws) λ _. and_then (at number ws 4) λ m. Ok (Operate m))
    (Err (UnknownWord 3))))

-- value right withdrawn, value right watch, value right operate M
abbrev pub value_right_of : List Word → Result Asked Misread
value_right_of ws = and_then (right_of ws) λ r. Ok (Asked.value_right r)

-- value trigger CHANNEL SLOPE LEVEL
abbrev pub value_trigger_of : List Word → Result Asked Misread
value_trigger_of ws =
    and_then (exactly 5 ws) λ _.
    and_then (at number ws 3) λ c.
    and_then (at slope ws 4) λ s.
    and_then (at level ws 5) λ l.
    Ok (Asked.value_trigger c s l)

-- value KIND ..: the second word says how many there are, so one that is no kind is told before their number
abbrev pub value_of : List Word → Result Asked Misread
value_of ws =
    and_then (at_least 2 ws) λ _.
    and_then (at kind ws 2) λ k.
    elim k [ Right ↦ value_right_of ws | Trigger ↦ value_trigger_of ws ]

-- place N SOURCE U1 U2 ..: at least one unit
abbrev pub place_of : List Word → Result Asked Misread
place_of ws =
    and_then (at_least 4 ws) λ _.
    and_then (at number ws 2) λ n.
    and_then (at number ws 3) λ s.
    and_then (from number ws 4) λ us.
    Ok (Asked.place n s us)

-- sequence N SOURCE LEVEL PLACE
abbrev pub sequence_of : List Word → Result Asked Misread
sequence_of ws = and_then (numbers 4 ws) λ xs. Ok (four Asked.sequence xs)

-- plan N T GEAR SOURCE
abbrev pub plan_of : List Word → Result Asked Misread
plan_of ws = and_then (numbers 4 ws) λ xs. Ok (four Asked.plan xs)

-- vote KIND VOTE T E1 E2 ..: there may be no entry
abbrev pub vote_of : List Word → Result Asked Misread
vote_of ws =
    and_then (at_least 4 ws) λ _.
    and_then (at kind ws 2) λ k.
    and_then (at vote ws 3) λ v.
    and_then (at number ws 4) λ t.
    and_then (from entry ws 5) λ es.
    Ok (Asked.vote k v t es)

-- .. ROUND FROM TO PLACE CODE
abbrev pub letter_of : List Word → Result Record Misread
letter_of ws =
    and_then (numbers 5 ws) λ xs.
    Ok (five (λ r f t p c. record { way = record { round = r; from = f; to = t; place = p }; code = c }) xs)

-- the first word names the question
abbrev pub question_of : List Word → Result Asked Misread
question_of ws =
    and_then (at topic ws 1) λ t.
    elim t [
      | Code ↦ code_of ws
      | Value ↦ value_of ws
      | Place ↦ place_of ws
      | Sequence ↦ sequence_of ws
      | Plan ↦ plan_of ws
      | Vote ↦ vote_of ws
      | Letter ↦ and_then (letter_of ws) λ l. Ok (Asked.add_letter l)
      | Arrives ↦ and_then (letter_of ws) λ l. Ok (Asked.arrives l.way l.code)
    ]
