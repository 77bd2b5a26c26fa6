use Rattle.places.proofs.lookups.+sequence_at.Given as goal

abbrev pub decreases-sequence_at : goal.decreases-sequence_at
decreases-sequence_at l = l.depth
