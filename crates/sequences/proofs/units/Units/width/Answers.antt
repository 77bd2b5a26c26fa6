use Rattle.std.proofs.Common.{◌-◌, arith}
use Rattle.sequences.proofs.Bounds.{width_most}
use Rattle.sequences.proofs.units.Units.width.Goals as goal

pub returns-clause-bound : goal.returns-clause-bound
returns-clause-bound c = omega (arith, c.entry.ensures, width_most c.args.self.n (c.args.level - 1) c.args.self.most (omega arith))
