-- A sequence is a list of distinct units that begins with the source. It is written here with its last unit first: the child of α that ends in w is w ∷ α.
use Rattle.std.specs.Prelude.{ℕ, zero, suc, ◌+◌, ◌-◌, ◌*◌, Bool, false, not, ◌&&◌, List, [], ◌∷◌, map, length, count_by, filter, ◌==◌, nat_lt}
use Rattle.std.specs.List.{flat_map}
use Rattle.masks.specs.Lists.{some, units}

-- the unit w is one of α
abbrev pub among : List ℕ → ℕ → Bool
among α w = some (λ u. w == u) α

-- the units that are not in α, lowest first
abbrev pub absent : ℕ → List ℕ → List ℕ
absent n α = filter (λ w. not (among α w)) (units n)

-- the sequences d steps below the root, in the order of their places: after each one's children come those of the next
abbrev pub sequences : ℕ → ℕ → ℕ → List (List ℕ)
sequences n s zero = (s ∷ []) ∷ []
sequences n s (suc d) = flat_map (λ α. map (λ w. w ∷ α) (absent n α)) (sequences n s d)

-- the sequences of level k, those of k units; level 1 has only the root, the source alone
abbrev pub level : ℕ → ℕ → ℕ → List (List ℕ)
level n s k = sequences n s (k - 1)

-- the place of a sequence in its level: child j of the sequence at place i of level k has place i (n - k) + j, and j counts the absent units below the last one
abbrev pub place : ℕ → List ℕ → ℕ
place n [] = 0
place n (w ∷ []) = 0
place n (w ∷ (u ∷ α)) = place n (u ∷ α) * (n - length (u ∷ α)) + count_by (λ x. nat_lt x w) (absent n (u ∷ α))

-- α is a sequence: the source alone, or a sequence lengthened by an absent unit
abbrev pub proper : ℕ → ℕ → List ℕ → Bool
proper n s [] = false
proper n s (w ∷ []) = w == s
proper n s (w ∷ (u ∷ α)) = nat_lt w n && (not (among (u ∷ α) w) && proper n s (u ∷ α))

-- the last unit of a sequence, and the sequence without it
abbrev pub last_of : List ℕ → ℕ
last_of [] = 0
last_of (w ∷ α) = w

abbrev pub parent_of : List ℕ → List ℕ
parent_of [] = []
parent_of (w ∷ α) = α
