use Rattle.std.proofs.Common.{arith}
use Rattle.sequences.proofs.Free.{parent_place}
use Rattle.places.proofs.Shapes.{source_in}
use Rattle.places.proofs.lookups.+sequence_at.Goals as goal

pub sequence_at-parent-requires : goal.sequence_at-parent-requires
sequence_at-parent-requires t c =
    let shape = c.args.shape in
    (omega (arith, c.decreases), (omega arith, parent_place shape.n shape.source (source_in shape) c.args.depth c.args.place (omega arith) c.requires.low))
