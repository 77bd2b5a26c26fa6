-- What the letters of a round do to the trees.
use Rattle.std.specs.Prelude.{ℕ, suc, Bool, false, cond, ◌&&◌, List, [], ◌∷◌, length, ◌==◌}
use Rattle.kinds.specs.Models.{KindModel}
use Rattle.lines.specs.Lines.{LineModel}
use Rattle.sequences.specs.Sequences.{place}
use Rattle.trees.specs.Layouts.{Trees}
use Rattle.gathering.specs.Letters.{letter, own_letter}

-- Unit `to` holds `letter α` at each sequence α, d steps below the root, lengthened by unit `from`. (Only sequences without the unit can be lengthened by it.)
abbrev pub lengthened_by : {V : Type 0} → ℕ → ℕ → ℕ → (List ℕ → V) → Trees V → Trees V
lengthened_by d from to letter trees p [] = trees p []
lengthened_by d from to letter trees p (w ∷ α) = cond (p == to && (w == from && length α == suc d)) (letter α) (trees p (w ∷ α))

module _ {V : Type 0} (kind : KindModel V) where
  -- round 1: the receiver's root becomes what arrives of the source's value, place 0
  abbrev pub greeted : LineModel → ℕ → ℕ → Trees V → Trees V
  greeted line source to trees p α =
      cond (p == to && length α == 1) (letter kind line false (record { round = 1; from = source; to = to; place = 0 }) (trees source (source ∷ []))) (trees p α)

  -- a later round: the newest closed level is d steps below the root, and each letter tells a sequence's place there and the code of the sender's value there
  abbrev pub delivered : LineModel → ℕ → ℕ → ℕ → ℕ → ℕ → Bool → Trees V → Trees V
  delivered line n d round from to listed trees =
      lengthened_by d from to (λ α. letter kind line listed (record { round = round; from = from; to = to; place = place n α }) (trees from α)) trees

  -- the unit's own values, stored in the same way without a line
  abbrev pub own_kept : ℕ → ℕ → Bool → Trees V → Trees V
  own_kept d unit listed trees = lengthened_by d unit unit (λ α. own_letter kind listed (trees unit α)) trees
