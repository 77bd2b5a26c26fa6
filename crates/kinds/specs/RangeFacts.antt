-- A value made from a fact is the same for every proof of the fact.
use Rattle.std.specs.Prelude.{◌≡◌, ℕ, Some}
use Rattle.std.proofs.Common.{ap, arith}
use Rattle.kinds.specs.Ranges.{provided}

module _ {P V : Type 0} (make : P → V) where
  pub provided_in : (d : Dec P) → IsProp P → (p : P) → provided d make ≡ Some (make p)
  provided_in (yes q) prop p = ap (λ r. Some (make r)) (prop q p)
  provided_in (no f) prop p = absurd (f p)

  pub provided_some : (d : Dec P) (v : V) → provided d make ≡ Some v → (p : P) × (make p ≡ v)
  provided_some (yes q) v e = (q, cc)
  provided_some (no f) v e = let z : ◌≡◌ {A = ℕ} 0 1 = cc in absurd (omega arith)
