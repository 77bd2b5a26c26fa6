-- What became of a line, with a list where the program has a sequence, and numbers where it has a plan.
use Rattle.std.specs.Prelude.{ℕ, List, Ok, Err, Option, Result}
use Rattle.plans.specs.Answers.{plan_parts}
use Rattle.fields.specs.declared.forms.KindName.{KindName}
use Rattle.fields.specs.declared.forms.Misread.{Misread}
use Rattle.answers.specs.declared.forms.Answer.{Answer}
use Rattle.answers.specs.declared.forms.Answer.TheVariants.{Found, NoValue, Code, NoSuch, Place, Sequence, Plan, Vote, Added, Arrives}
use Rattle.answers.specs.declared.forms.Refusal.{Refusal}
use Rattle.answers.specs.declared.forms.Unanswered.{Unanswered}
use Rattle.answers.specs.declared.forms.Unanswered.TheVariants.{Refused, NotUnderstood}
use Rattle.answers.specs.declared.forms.Value.{Value}

pub data Reply : Type 0 where
  found : Value → Reply
  no_value : (kind : KindName) (number : ℕ) → Reply
  code : ℕ → Reply
  no_such : KindName → Reply
  place : (level index : ℕ) → Reply
  sequence : (units : List ℕ) (back : Option (ℕ × ℕ)) → Reply
  plan : ℕ × ℕ × ℕ × ℕ → Reply
  vote : Option Value → Reply
  added : (used capacity mask : ℕ) → Reply
  arrives : Option ℕ → Reply
  refused : Refusal → Reply
  not_understood : Misread → Reply

-- what the program's answer says
abbrev pub replied : Answer → Reply
replied (Found v) = found v
replied (NoValue k c) = no_value k c
replied (Code c) = code c
replied (NoSuch k) = no_such k
replied (Place k i) = place k i
replied (Sequence s b) = sequence s b
replied (Plan p) = plan (plan_parts p)
replied (Vote v) = vote v
replied (Added u c m) = added u c m
replied (Arrives c) = arrives c

-- what became of a line: an answer, or why there is none
abbrev pub shown : Result Answer Unanswered → Reply
shown (Ok a) = replied a
shown (Err (Refused r)) = refused r
shown (Err (NotUnderstood m)) = not_understood m

-- the same of an answer that may be refused
abbrev pub settled : Result Answer Refusal → Reply
settled (Ok a) = replied a
settled (Err r) = refused r
