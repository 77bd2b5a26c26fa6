use Rattle.std.proofs.Common.{codes, arith}
use Rattle.fields.proofs.Spelling.{spelled}
use Rattle.fields.proofs.names.SlopeField.of.Goals as goal

pub returns-in-rising : goal.returns-in-rising
returns-in-rising c = simp (spelled c.args.word.text.now (codes "rising") (grind arith))

pub returns-in-falling : goal.returns-in-falling
returns-in-falling c = simp (spelled c.args.word.text.now (codes "falling") (grind arith))
