-- Records of a script, and what arrives through it.
use Rattle.std.specs.Prelude.{ℕ, length, Some, None}
use Rattle.lines.specs.declared.script.Record.{Record}
use Rattle.lines.specs.declared.way.Way.{Way}
use Rattle.lines.specs.Calls.{add_refusal, after_add}
use Rattle.lines.specs.States.{ScriptState, meaning}
use Rattle.answers.specs.declared.forms.Refusal.TheVariants.{Script}
use Rattle.answers.specs.Replies.{Reply}

-- the count of records, the room for them and the mask once the record was added
abbrev pub grown : ScriptState → Reply
grown s = Reply.added s.used (length s.table) s.loose

-- adding a record: what the script is then, or the refusal
abbrev pub letter_reply : ScriptState → Record → Reply
letter_reply s e = elim (add_refusal s e) [ None ↦ grown (after_add s e) | Some fault ↦ Reply.refused (Script fault) ]

-- what arrives of a code that is given on a way
abbrev pub arrives_reply : ScriptState → Way → ℕ → Reply
arrives_reply s w code = Reply.arrives ((meaning s).arrives w code)
