-- Trees, and where they lie in memory: unit after unit, level after level, a level in the order of its places.
use Rattle.std.specs.Prelude.{ℕ, zero, suc, ◌+◌, ◌-◌, ◌*◌, List, [], ◌++◌, map, length, drop, slice_index_or}
use Rattle.std.specs.List.{flat_map}
use Rattle.masks.specs.Lists.{units}
use Rattle.sequences.specs.Sequences.{sequences, place}
use Rattle.sequences.specs.Sizes.{tree_size}

-- trees p α is what unit p holds at the sequence α
abbrev pub Trees : Type 0 → Type 0
Trees V = ℕ → List ℕ → V

-- the sequences of a tree of h levels, as its values lie in memory
abbrev pub order : ℕ → ℕ → ℕ → List (List ℕ)
order n s zero = []
order n s (suc h) = order n s h ++ sequences n s h

-- the entry of tree p's value at α, in a memory of trees of h levels
abbrev pub cell : ℕ → ℕ → ℕ → List ℕ → ℕ
cell n h p α = p * tree_size n h + (tree_size n (length α - 1) + place n α)

-- the trees that a memory holds
abbrev pub at : {V : Type 0} → ℕ → ℕ → V → List V → Trees V
at n h base memory p α = slice_index_or memory (cell n h p α) base

-- the memory that holds the first m of the trees; entries past them are those of the old memory
abbrev pub planted : {V : Type 0} → ℕ → ℕ → ℕ → ℕ → Trees V → List V → List V
planted m n s h trees old = flat_map (λ p. map (trees p) (order n s h)) (units m) ++ drop (m * tree_size n h) old

-- a rack's memory: a tree for each of its n units
abbrev pub laid : {V : Type 0} → ℕ → ℕ → ℕ → Trees V → List V → List V
laid n s h trees old = planted n n s h trees old

-- the memory after a rule has changed the trees that it holds
abbrev pub stepped : {V : Type 0} → ℕ → ℕ → ℕ → V → (Trees V → Trees V) → List V → List V
stepped n s h base rule old = laid n s h (rule (at n h base old)) old
