-- What laying trees out and reading them have to do with each other, for any n units, source s and h levels.
use Rattle.std.specs.Prelude.{◌≡◌, ℕ, ◌*◌, ◌<◌, ◌≤◌, List, length}
use Rattle.masks.specs.Lists.{In}
use Rattle.sequences.specs.Sequences.{sequences}
use Rattle.sequences.specs.Sizes.{tree_size}
use Rattle.trees.specs.Layouts.{Trees, at, laid}

-- reading what was laid out gives it back: at each sequence of the trees, d steps below the root
abbrev pub ReadsBack : Type 0 → Type 0
ReadsBack V = (n s h : ℕ) → s < n → (trees : Trees V) (old : List V) (base : V) (p d : ℕ) (α : List ℕ)
    → p < n → d < h → In α (sequences n s d) → at n h base (laid n s h trees old) p α ≡ trees p α

-- a memory that is long enough is the layout of what it reads
abbrev pub LaysBack : Type 0 → Type 0
LaysBack V = (n s h : ℕ) → s < n → (memory : List V) (base : V) → n * tree_size n h ≤ length memory
    → laid n s h (at n h base memory) memory ≡ memory
