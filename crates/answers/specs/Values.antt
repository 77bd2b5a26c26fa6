-- Codes and values of the kinds.
use Rattle.std.specs.Prelude.{ℕ, ℤ, Some, None, Option}
use Rattle.std.specs.Option.{option_map}
use Rattle.kinds.specs.declared.right.Right.{Right}
use Rattle.kinds.specs.declared.right.Right.TheVariants.{Withdrawn, Watch, Operate}
use Rattle.kinds.specs.declared.trigger.Slope.{Slope}
use Rattle.kinds.specs.Rights.{minutes_of, right_of, right_code}
use Rattle.kinds.specs.Triggers.{trigger_from, trigger_of, trigger_code}
use Rattle.fields.specs.declared.forms.KindName.{KindName}
use Rattle.fields.specs.declared.forms.KindName.TheVariants as kind
use Rattle.sheets.specs.declared.forms.RightName.{RightName}
use Rattle.sheets.specs.declared.forms.RightName.TheVariants as name
use Rattle.answers.specs.declared.forms.Value.{Value}
use Rattle.answers.specs.declared.forms.Value.TheVariants as value
use Rattle.answers.specs.Replies.{Reply}

-- the value of a kind that has the code
abbrev pub value_with : KindName → ℕ → Option Value
value_with kind.Right c = option_map value.Right (right_of c)
value_with kind.Trigger c = option_map value.Trigger (trigger_of c)

-- which value has the code
abbrev pub code_reply : KindName → ℕ → Reply
code_reply k c = elim (value_with k c) [ Some v ↦ Reply.found v | None ↦ Reply.no_value k c ]

-- the right with this name
abbrev pub right_named : RightName → Option Right
right_named name.Withdrawn = Some Withdrawn
right_named name.Watch = Some Watch
right_named (name.Operate m) = option_map Operate (minutes_of m)

-- the code of a value, if there is such a value
abbrev pub code_or : KindName → Option ℕ → Reply
code_or k (Some c) = Reply.code c
code_or k None = Reply.no_such k

abbrev pub right_reply : RightName → Reply
right_reply r = code_or kind.Right (option_map right_code (right_named r))

abbrev pub trigger_reply : ℕ → Slope → ℤ → Reply
trigger_reply channel s level = code_or kind.Trigger (option_map trigger_code (trigger_from channel s level))
