-- What a walk through a level knows at the place that it has come to.
use Rattle.std.specs.Prelude.{◌≡◌, ℕ, ◌+◌, ◌-◌, ◌*◌, ◌<◌, false, [], length, slice_index_or}
use Rattle.masks.specs.Masks.{holds}
use Rattle.sequences.specs.Sequences.{sequences, last_of}
use Rattle.sequences.specs.Units.{Shows, free}

-- the sequence at place i, d steps below the root, ends in a unit that its parent, whose place and units are given, leaves out
pub record Under (n s d i parent above last : ℕ) : Type 0 where
  pub low : parent < length (sequences n s (d - 1))
  pub shows : Shows above (slice_index_or (sequences n s (d - 1)) parent [])
  pub unit : last < n
  pub out : holds above last ≡ false
  pub rank : i ≡ parent * (n - d) + length (free above last)

-- the walk through the level d steps below the root has come to place i, which so many places follow, and has the units of the sequence there and the last of them
pub record On (n s d i left units last parent above : ℕ) : Type 0 where
  pub rest : i + 1 + left ≡ length (sequences n s d)
  pub shows : Shows units (slice_index_or (sequences n s d) i [])
  pub ends : last_of (slice_index_or (sequences n s d) i []) ≡ last
  pub under : 0 < d → Under n s d i parent above last
