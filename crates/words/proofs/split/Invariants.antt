use Rattle.std.proofs.Common.{vec_items}
use Rattle.words.specs.Words.{texts}
use Rattle.words.proofs.Pieces.{Found}
use Rattle.words.proofs.split.Given as goal

abbrev pub invariant-loop-i : goal.invariant-loop-i
invariant-loop-i l = Found l.text (texts (vec_items l.words)) l.start l.i
