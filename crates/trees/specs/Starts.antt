-- How a run begins.
use Rattle.std.specs.Prelude.{ℕ, cond, ◌&&◌, length, ◌==◌}
use Rattle.trees.specs.Layouts.{Trees}

-- every place is ground, but the source's first place holds the value
abbrev pub started : {V : Type 0} → V → ℕ → V → Trees V
started base source value p α = cond (p == source && length α == 1) value base
