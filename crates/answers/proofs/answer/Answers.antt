use Rattle.std.proofs.Common.{sym, ap, ◌∙◌, rules, FitsSigned, w32}
use Rattle.std.proofs.lemmas.Int.{to_z-of_z}
use Rattle.lines.specs.States.{view}
use Rattle.sheets.specs.Asked.{seen}
use Rattle.answers.specs.Questions.{reply_to}
use Rattle.answers.specs.Values.{trigger_reply}
use Rattle.answers.proofs.answer.Goals as goal

pub returns-in-ValueTrigger-clause-value : goal.returns-in-ValueTrigger-clause-value
returns-in-ValueTrigger-clause-value c =
    let t = c.in-ValueTrigger in
    let fits : FitsSigned w32 t.level = search rules in
    c.trigger_answer.ensures ∙ (ap (trigger_reply t.channel t.slope) (to_z-of_z w32 t.level fits) ∙ sym (ap (λ q. reply_to (seen q) (view c.args.script.now)) t.is))
