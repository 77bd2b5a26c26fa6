-- What the steps of one unit's conversion do to its tree and to the tree of the work memory.
use Rattle.std.specs.Prelude.{ℕ, suc, cond, List, ◌∷◌, map, length, Some, Option, ◌==◌}
use Rattle.votes.specs.Laws.{Answer}
use Rattle.sequences.specs.Sequences.{absent}
use Rattle.trees.specs.Layouts.{Trees}
use Rattle.converting.specs.Converting.{settled_at}

-- the sequences d steps below the root take the values that a unit holds there
abbrev pub copied : {V : Type 0} → ℕ → (List ℕ → V) → Trees (Option V) → Trees (Option V)
copied d held work p α = cond (length α == suc d) (Some (held α)) (work p α)

-- each sequence d steps below the root takes the vote on its children
abbrev pub voted : {V : Type 0} → Answer V → ℕ → ℕ → ℕ → Trees (Option V) → Trees (Option V)
voted answer n t d work p α = cond (length α == suc d) (answer (map (λ w. work p (w ∷ α)) (absent n α)) t) (work p α)

-- a unit's first place takes v, its other places become ground
abbrev pub settled : {V : Type 0} → V → ℕ → V → Trees V → Trees V
settled base unit v trees p α = cond (p == unit) (settled_at base v α) (trees p α)
