use Rattle.votes.specs.VoteLaws.{majority_major}
use Rattle.votes.proofs.majority.MajorityStrongVote.majority_law.Goals as goal

pub returns : goal.returns
returns g c = majority_major g.K.Kind.model g.met.K.Kind.lawful
