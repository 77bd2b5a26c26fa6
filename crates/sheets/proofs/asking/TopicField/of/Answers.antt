use Rattle.std.proofs.Common.{codes, arith}
use Rattle.fields.proofs.Spelling.{spelled}
use Rattle.sheets.proofs.asking.TopicField.of.Goals as goal

pub returns-in-sequence : goal.returns-in-sequence
returns-in-sequence c = simp (spelled c.args.word.text.now (codes "sequence") (grind arith))

pub returns-in-letter : goal.returns-in-letter
returns-in-letter c = simp (spelled c.args.word.text.now (codes "letter") (grind arith))

pub returns-in-arrives : goal.returns-in-arrives
returns-in-arrives c = simp (spelled c.args.word.text.now (codes "arrives") (grind arith))
