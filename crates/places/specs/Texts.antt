-- How sequences are printed.
use Rattle.std.specs.Prelude.{ℕ, List, ◌∷◌, ◌++◌, codes}
use Rattle.std.specs.Fmt.{decimal}
use Rattle.std.specs.List.{flat_map}

-- the word, and then each unit after a blank (byte 32)
abbrev pub units_text : List ℕ → List ℕ
units_text units = codes "units" ++ flat_map (λ unit. 32 ∷ decimal unit) units
