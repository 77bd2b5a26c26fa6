-- How a unit's tree is converted to its preference.
use Rattle.std.specs.Prelude.{ℕ, zero, suc, cond, List, [], ◌∷◌, ◌++◌, map, length, drop, replicate, Some, None, Option, ◌==◌}
use Rattle.std.specs.Option.{unwrap_or}
use Rattle.votes.specs.Laws.{Answer}
use Rattle.sequences.specs.Sequences.{absent}
use Rattle.trees.specs.Layouts.{Trees}

-- what the sequence α converts to, where the newest closed level is e steps below it: there its value, else the vote on its converted children in order
abbrev pub converted : {V : Type 0} → Answer V → ℕ → ℕ → ℕ → (List ℕ → V) → List ℕ → Option V
converted answer n t zero held α = Some (held α)
converted answer n t (suc e) held α = answer (map (λ w. converted answer n t e held (w ∷ α)) (absent n α)) t

-- the root's answer, ground if it is open, where the newest closed level is d steps below the root
abbrev pub preferred : {V : Type 0} → V → Answer V → ℕ → ℕ → ℕ → ℕ → (List ℕ → V) → V
preferred base answer n s t d held = unwrap_or (converted answer n t d held (s ∷ [])) base

-- a unit's tree with v at its first place and ground at all others
abbrev pub settled_at : {V : Type 0} → V → V → List ℕ → V
settled_at base v α = cond (length α == 1) v base

-- the trees after a conversion: each unit but the source has its preference at its first place and ground at all others
abbrev pub shifted : {V : Type 0} → V → Answer V → ℕ → ℕ → ℕ → ℕ → Trees V → Trees V
shifted base answer n s t d trees p α = cond (p == s) (trees p α) (settled_at base (preferred base answer n s t d (trees p)) α)

-- the work memory after it: as many open entries as a tree has values, then what was there
abbrev pub opened : {V : Type 0} → ℕ → List (Option V) → List (Option V)
opened size work = replicate size None ++ drop size work
