use Rattle.std.proofs.Common.{arith}
use Rattle.sequences.proofs.Table.{width_entry}
use Rattle.sequences.proofs.widths.entry.Goals as goal

pub returns : goal.returns
returns c = width_entry c.args.rows.now c.requires.rule c.args.units.n c.args.level (omega arith) (omega arith) (omega arith) (omega arith)
