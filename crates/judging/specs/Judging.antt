-- Which units a unit finds at a closing, from what it holds.
use Rattle.std.specs.Prelude.{ℕ, ◌-◌, ◌*◌, Bool, true, false, not, ◌&&◌, List, [], ◌∷◌, map, length, Some, None, count_by, filter, Option, ◌==◌, nat_lt}
use Rattle.masks.specs.Lists.{some}
use Rattle.masks.specs.Masks.{holds, size, mask_of}
use Rattle.kinds.specs.Models.{KindModel, same_value}
use Rattle.sequences.specs.Sequences.{absent, sequences}

-- u is the last unit of the sequence
abbrev pub ends_in : ℕ → List ℕ → Bool
ends_in u [] = false
ends_in u (w ∷ α) = u == w

-- the first of a list, if it has one
abbrev pub first : {X : Type 0} → List X → Option X
first [] = None
first (x ∷ xs) = Some x

module _ {V : Type 0} (kind : KindModel V) where
  -- v is in more than half of the values
  abbrev pub in_most : List V → V → Bool
  in_most values v = nat_lt (length values) (2 * count_by (λ x. same_value kind x v) values)

  -- the value in more than half of the values, if there is one
  abbrev pub leading : List V → Option V
  leading values = first (filter (in_most values) values)

  -- of the children that end in the units ws and hold `held w` each, how many are from units off the list and differ from v
  abbrev pub differing : ℕ → (ℕ → V) → List ℕ → V → ℕ
  differing list held ws v = count_by (λ w. not (holds list w) && not (same_value kind (held w) v)) ws

  -- the children give their sequence's last unit away: they have no leading value, or more than `bound` off the list differ from it
  abbrev pub exposed_by : ℕ → ℕ → (ℕ → V) → List ℕ → Option V → Bool
  exposed_by list bound held ws None = true
  exposed_by list bound held ws (Some v) = nat_lt bound (differing list held ws v)

  abbrev pub exposed : ℕ → ℕ → (ℕ → V) → List ℕ → Bool
  exposed list bound held ws = exposed_by list bound held ws (leading (map held ws))

  -- A unit that holds `held` and lists the units of the mask `list` finds u: u is off the list and ends a sequence d steps below the root whose children
  -- give it away. The bound is t less the number of the listed units, or 0.
  abbrev pub found : ℕ → ℕ → ℕ → ℕ → ℕ → (List ℕ → V) → ℕ → Bool
  found list n s t d held u =
      not (holds list u) && some (λ α. ends_in u α && exposed list (t - size list) (λ w. held (w ∷ α)) (absent n α)) (sequences n s d)

  -- the mask of all units that it finds
  abbrev pub found_units : ℕ → ℕ → ℕ → ℕ → ℕ → (List ℕ → V) → ℕ
  found_units list n s t d held = mask_of (found list n s t d held) n
