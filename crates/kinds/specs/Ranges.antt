-- Values that exist only where a number lies in a range.
use Rattle.std.specs.Prelude.{ℕ, ◌≤◌, Bool, true, false, T, ℤ, ◌≤ℤ◌, Some, None, Option, int_le}
use Rattle.std.proofs.Math.Logic.Dec
use Rattle.std.proofs.Math.Decide.{dec_le}

-- The value that is made from a fact, if the fact holds.
abbrev pub provided : {P V : Type 0} → Dec P → (P → V) → Option V
provided (yes p) make = Some (make p)
provided (no _) make = None

-- Whether n lies from low to high.
abbrev pub between : (low high n : ℕ) → Dec ((low ≤ n) × (n ≤ high))
between low high n = Dec.and (dec_le low n) (dec_le n high)

-- Whether a test passed.
abbrev passed : (test : Bool) → Dec (T test)
passed true = yes tt
passed false = no (λ t. t)

-- Whether a is at most b, for integers: the test `int_le` says so.
abbrev ordered : {a b : ℤ} → Dec (T (int_le a b)) → Dec (a ≤ℤ b)
ordered (yes t) = yes (record { le = t })
ordered (no f) = no (λ h. f h.le)

-- Whether the integer z lies from low to high.
abbrev pub between_ℤ : (low high z : ℤ) → Dec ((low ≤ℤ z) × (z ≤ℤ high))
between_ℤ low high z = Dec.and (ordered (passed (int_le low z))) (ordered (passed (int_le z high)))
