-- How plans are printed.
use Rattle.std.specs.Prelude.{ℕ, ◌*◌, List, ◌∷◌, ◌++◌, codes}
use Rattle.std.specs.Fmt.{decimal}
use Rattle.std.specs.List.{flat_map}
use Rattle.sequences.specs.Sizes.{tree_size}
use Rattle.plans.specs.Schedules.{height, blocks, rounds}

-- the rounds of each block, each after a blank (byte 32)
abbrev pub blocks_text : ℕ → ℕ → List ℕ
blocks_text t gear = flat_map (λ block. 32 ∷ decimal block) (blocks t gear)

-- the rounds of the run and of its blocks, and the values of a unit's tree and of all trees
abbrev pub plan_text : ℕ → ℕ → ℕ → List ℕ
plan_text n t gear =
    let size = tree_size n (height t gear) in
    codes "rounds " ++ (decimal (rounds t gear)
    ++ (codes ", blocks" ++ (blocks_text t gear
    ++ (codes ", " ++ (decimal size
    ++ (codes " values a unit, " ++ (decimal (n * size)
    ++ codes " values in all")))))))
