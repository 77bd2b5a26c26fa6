-- What the found units leave in the trees.
use Rattle.std.specs.Prelude.{ℕ, suc, cond, ◌&&◌, [], ◌∷◌, length, ◌==◌}
use Rattle.masks.specs.Masks.{holds}
use Rattle.trees.specs.Layouts.{Trees}

-- the unit's places of the new level that end in a found unit become ground: the level is that of the children of the sequences d steps below the root
abbrev pub grounded : {V : Type 0} → V → ℕ → ℕ → ℕ → Trees V → Trees V
grounded base d unit found trees p [] = trees p []
grounded base d unit found trees p (w ∷ α) = cond (p == unit && (length α == suc d && holds found w)) base (trees p (w ∷ α))
