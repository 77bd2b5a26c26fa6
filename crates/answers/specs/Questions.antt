-- What each question is replied, and what it leaves of the script; the same of a line that asks one.
use Rattle.std.specs.Prelude.{Some, None, Ok, Err, Option, Result}
use Rattle.lines.specs.Calls.{after_add}
use Rattle.lines.specs.States.{ScriptState}
use Rattle.sheets.specs.Asked.{Asked}
use Rattle.fields.specs.declared.forms.Misread.{Misread}
use Rattle.answers.specs.Ballots.{vote_reply}
use Rattle.answers.specs.Letters.{letter_reply, arrives_reply}
use Rattle.answers.specs.Racks.{place_reply, sequence_reply, plan_reply}
use Rattle.answers.specs.Replies.{Reply}
use Rattle.answers.specs.Values.{code_reply, right_reply, trigger_reply}

abbrev pub reply_to : Asked → ScriptState → Reply
reply_to (Asked.code k c) s = code_reply k c
reply_to (Asked.value_right r) s = right_reply r
reply_to (Asked.value_trigger channel slope level) s = trigger_reply channel slope level
reply_to (Asked.place n source units) s = place_reply n source units
reply_to (Asked.sequence n source level place) s = sequence_reply n source level place
reply_to (Asked.plan n t gear source) s = plan_reply n t gear source
reply_to (Asked.vote k v t entries) s = vote_reply k v t entries
reply_to (Asked.add_letter l) s = letter_reply s l
reply_to (Asked.arrives way code) s = arrives_reply s way code

-- only the adding of a record changes the script
abbrev pub script_after : Asked → ScriptState → ScriptState
script_after (Asked.code k c) s = s
script_after (Asked.value_right r) s = s
script_after (Asked.value_trigger channel slope level) s = s
script_after (Asked.place n source units) s = s
script_after (Asked.sequence n source level place) s = s
script_after (Asked.plan n t gear source) s = s
script_after (Asked.vote k v t entries) s = s
script_after (Asked.add_letter l) s = after_add s l
script_after (Asked.arrives way code) s = s

-- a line without words has no reply, and one that is not understood says so
abbrev pub response_to : Result (Option Asked) Misread → ScriptState → Option Reply
response_to (Ok None) s = None
response_to (Ok (Some asked)) s = Some (reply_to asked s)
response_to (Err misread) s = Some (Reply.not_understood misread)

abbrev pub script_after_line : Result (Option Asked) Misread → ScriptState → ScriptState
script_after_line (Ok None) s = s
script_after_line (Ok (Some asked)) s = script_after asked s
script_after_line (Err misread) s = s
