-- The rounds of a run. Round 1 is followed by blocks, and each block ends in a conversion.
use Rattle.std.specs.Prelude.{ℕ, ◌+◌, ◌-◌, ◌*◌, ◌/◌, ◌%◌, Bool, cond, List, [], ◌∷◌, ◌++◌, replicate, sum, ◌==◌}
use Rattle.masks.specs.Lists.{some}

-- how many levels a tree has: t + 1 in gear 0, b + 1 in gear b
abbrev pub height : ℕ → ℕ → ℕ
height t gear = cond (gear == 0) (t + 1) (gear + 1)

-- how many blocks of full length gear b has: (t - 1) / (b - 1), rounded down
abbrev pub full_blocks : ℕ → ℕ → ℕ
full_blocks t b = (t - 1) / (b - 1)

-- the last block, where b - 1 does not divide t - 1
abbrev pub short_block : ℕ → ℕ → List ℕ
short_block t b = cond ((t - 1) % (b - 1) == 0) [] ((t - full_blocks t b * (b - 1)) ∷ [])

-- the rounds of each block: in gear 0 one block of t rounds, in gear b blocks of b rounds and the last, shorter one
abbrev pub blocks : ℕ → ℕ → List ℕ
blocks t gear = cond (gear == 0) (t ∷ []) (replicate (full_blocks t gear) gear ++ short_block t gear)

-- the rounds of a run
abbrev pub rounds : ℕ → ℕ → ℕ
rounds t gear = 1 + sum (blocks t gear)

-- the last round of each block, where the first block follows on round r
abbrev pub block_ends : ℕ → List ℕ → List ℕ
block_ends r [] = []
block_ends r (b ∷ bs) = (r + b) ∷ block_ends (r + b) bs

-- a conversion is due after this round: it is the last of a block
abbrev pub due_after : ℕ → ℕ → ℕ → Bool
due_after t gear round = some (λ end. round == end) (block_ends 1 (blocks t gear))
