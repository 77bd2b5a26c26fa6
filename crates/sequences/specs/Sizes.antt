-- How many values a tree has, and where they lie: unit u's tree begins at entry u T, level after level.
use Rattle.std.specs.Prelude.{ℕ, zero, suc, ◌+◌, ◌-◌, ◌*◌}
use Rattle.sequences.specs.Widths.{falling}

-- the widths of the first h levels together; T is that of all levels of the tree
abbrev pub tree_size : ℕ → ℕ → ℕ
tree_size n zero = 0
tree_size n (suc h) = tree_size n h + falling n h

-- the first entry of level k of unit u, in a memory of trees of h levels
abbrev pub first_entry : ℕ → ℕ → ℕ → ℕ → ℕ
first_entry n h u k = u * tree_size n h + tree_size n (k - 1)
