use Rattle.sequences.proofs.Free.{parent_place, child_number, place_splits}
use Rattle.masks.proofs.Members.{unit_in}
use Rattle.sequences.proofs.ranks.last_at.Goals as goal

pub units_at-requires-clause-low : goal.units_at-requires-clause-low
units_at-requires-clause-low c =
    parent_place c.args.n c.args.source (unit_in c.args.n c.args.source c.requires.within) c.args.depth c.args.place c.requires.below c.requires.low

pub nth_absent-requires : goal.nth_absent-requires
nth_absent-requires c =
    child_number c.args.n c.args.source (unit_in c.args.n c.args.source c.requires.within) c.args.depth c.args.place c.units_at.result c.requires.below c.requires.low c.units_at.ensures

pub returns : goal.returns
returns c =
    place_splits c.args.n c.args.source (unit_in c.args.n c.args.source c.requires.within) c.args.depth c.args.place c.units_at.result c.nth_absent.result c.requires.below c.requires.low c.units_at.ensures c.nth_absent.ensures
