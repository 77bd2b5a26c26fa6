use Rattle.plans.proofs.Table.{rounds_entry}
use Rattle.plans.proofs.schedules.tabled_rounds.Goals as goal

pub returns : goal.returns
returns c = rounds_entry c.args.rows.now c.requires.rule c.args.t c.args.gear c.requires.least c.requires.most c.requires.low c.requires.high
