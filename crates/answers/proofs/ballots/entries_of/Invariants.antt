use Rattle.std.proofs.Common.{◌≡◌, drop, vec_items}
use Rattle.answers.specs.Ballots.{entries_of}
use Rattle.answers.proofs.Reading.{before}
use Rattle.answers.proofs.ballots.entries_of.Given as goal

abbrev pub invariant-loop-code : goal.invariant-loop-code
invariant-loop-code g l = before (vec_items l.entries) (entries_of g.K.Kind.model (drop l.code-index l.codes)) ≡ entries_of g.K.Kind.model l.codes
