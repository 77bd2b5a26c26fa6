use Rattle.std.proofs.Common.{codes, sym, ◌∙◌, arith, rules}
use Rattle.fields.proofs.Spelling.{spelled}
use Rattle.sheets.proofs.asking.right.Goals as goal

pub returns-in-withdrawn : goal.returns-in-withdrawn
returns-in-withdrawn c =
    let e = sym c.word.ensures.text ∙ spelled c.word.result.text.now (codes "withdrawn") (grind arith) in
    simp e (search rules)

pub returns-in_ok-exactly-in-operate : goal.returns-in_ok-exactly-in-operate
returns-in_ok-exactly-in-operate c =
    let e = sym c.word.ensures.text ∙ spelled c.word.result.text.now (codes "operate") (grind arith) in
    simp e (search rules)
