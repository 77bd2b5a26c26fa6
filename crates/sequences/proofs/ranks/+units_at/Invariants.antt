use Rattle.sequences.proofs.ranks.+units_at.Given as goal

abbrev pub decreases-units_at : goal.decreases-units_at
decreases-units_at l = l.depth
