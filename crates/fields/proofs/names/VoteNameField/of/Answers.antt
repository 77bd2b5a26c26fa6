use Rattle.std.proofs.Common.{codes, arith}
use Rattle.fields.proofs.Spelling.{spelled}
use Rattle.fields.proofs.names.VoteNameField.of.Goals as goal

pub returns-in-majority : goal.returns-in-majority
returns-in-majority c = simp (spelled c.args.word.text.now (codes "majority") (grind arith))

pub returns-in-threshold : goal.returns-in-threshold
returns-in-threshold c = simp (spelled c.args.word.text.now (codes "threshold") (grind arith))
