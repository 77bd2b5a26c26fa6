-- What a line asks, with lists where the program has vectors.
use Rattle.std.specs.Prelude.{ℕ, List, ℤ, vec_items, Option}
use Rattle.fields.specs.declared.forms.KindName.{KindName}
use Rattle.sheets.specs.declared.forms.Question.{Question}
use Rattle.sheets.specs.declared.forms.Question.TheVariants.{Code, ValueRight, ValueTrigger, Place, Sequence, Plan, Vote, AddLetter, Arrives}
use Rattle.sheets.specs.declared.forms.RightName.{RightName}
use Rattle.fields.specs.declared.forms.VoteName.{VoteName}
use Rattle.kinds.specs.declared.trigger.Slope.{Slope}
use Rattle.lines.specs.declared.script.Record.{Record}
use Rattle.lines.specs.declared.way.Way.{Way}

pub data Asked : Type 0 where
  code : (kind : KindName) (number : ℕ) → Asked
  value_right : (right : RightName) → Asked
  value_trigger : (channel : ℕ) (slope : Slope) (level : ℤ) → Asked
  place : (n source : ℕ) (units : List ℕ) → Asked
  sequence : (n source level place : ℕ) → Asked
  plan : (n t gear source : ℕ) → Asked
  vote : (kind : KindName) (rule : VoteName) (t : ℕ) (entries : List (Option ℕ)) → Asked
  add_letter : (letter : Record) → Asked
  arrives : (way : Way) (code : ℕ) → Asked

-- what the program's question asks
abbrev pub seen : Question → Asked
seen (Code k c) = code k c
seen (ValueRight r) = value_right r
seen (ValueTrigger c s l) = value_trigger c s l
seen (Place n s us) = place n s (vec_items us)
seen (Sequence n s l p) = sequence n s l p
seen (Plan n t g s) = plan n t g s
seen (Vote k v t es) = vote k v t (vec_items es)
seen (AddLetter l) = add_letter l
seen (Arrives w c) = arrives w c
