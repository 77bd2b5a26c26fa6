use Rattle.std.proofs.Common.{sym}
use Rattle.masks.proofs.Members.{unit_in}
use Rattle.trees.proofs.Laid.{at_laid, laid_at}
use Rattle.trees.proofs.layout_laws.Goals as goal

pub returns : goal.returns
returns g c = record {
  reads = λ n s h below trees old base. at_laid n s (unit_in n s below) h n trees old base;
  lays = λ n s h below memory base room. sym (laid_at n s (unit_in n s below) h n memory base room);
}
