use Rattle.std.proofs.Common.{codes, arith}
use Rattle.fields.proofs.Spelling.{spelled}
use Rattle.fields.proofs.names.KindNameField.of.Goals as goal

pub returns-in-trigger : goal.returns-in-trigger
returns-in-trigger c = simp (spelled c.args.word.text.now (codes "trigger") (grind arith))
