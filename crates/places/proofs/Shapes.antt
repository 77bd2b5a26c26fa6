-- What the type of a shape gives.
use Rattle.std.proofs.Common.{ℕ, Bool, List, Result, arith}
use Rattle.masks.specs.Lists.{In, units}
use Rattle.masks.proofs.Members.{counting_in}
use Rattle.places.specs.declared.fault.PlaceFault.{PlaceFault}
use Rattle.places.specs.declared.shape.Shape.{Shape}
use Rattle.places.specs.Answers as by-numbers

pub source_in : (shape : Shape) → In shape.source (units shape.n)
source_in shape = counting_in 0 shape.n shape.source (omega arith) (omega (arith, shape.within))

-- the answers, for the numbers of a shape
abbrev pub has_place : Shape → ℕ → ℕ → Bool
has_place shape = by-numbers.has_place shape.n shape.levels

abbrev pub sequence_at : Shape → ℕ → ℕ → List ℕ
sequence_at shape = by-numbers.sequence_at shape.n shape.source

abbrev pub begun : Shape → List ℕ → Bool
begun shape = by-numbers.begun shape.source shape.levels

abbrev pub place_answer : Shape → List ℕ → Result ℕ PlaceFault
place_answer shape = by-numbers.place_answer shape.n shape.source shape.levels

abbrev pub back_answer : Shape → ℕ → ℕ → Result (ℕ × ℕ) PlaceFault
back_answer shape = by-numbers.back_answer shape.n shape.source shape.levels

abbrev pub child_answer : Shape → ℕ → ℕ → ℕ → Result (ℕ × ℕ) PlaceFault
child_answer shape = by-numbers.child_answer shape.n shape.source shape.levels
