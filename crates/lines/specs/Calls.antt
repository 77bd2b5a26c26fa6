-- The calls that change a script: when each is refused, the smaller number first, and what the script holds afterwards.
use Rattle.std.specs.Prelude.{ℕ, ◌+◌, ◌&&◌, length, None, Option, nat_le, nat_lt, slice_set}
use Rattle.masks.specs.Masks.{joined_by}
use Rattle.lines.specs.declared.fault.ScriptFault.{ScriptFault}
use Rattle.lines.specs.declared.fault.ScriptFault.TheVariants.{Sender, Full}
use Rattle.lines.specs.declared.script.Record.{Record}
use Rattle.lines.specs.Faults.{unless, if_granted}
use Rattle.lines.specs.States.{ScriptState}

-- why adding a record is refused: its sender is above 20; the table is full, or 65,535 records are in use
abbrev pub add_refusal : ScriptState → Record → Option ScriptFault
add_refusal s e = unless (nat_le e.way.from 20) Sender (unless (nat_lt s.used (length s.table) && nat_lt s.used 65535) Full None)

-- the table's next free entry holds the record, and its sender is in the mask
abbrev pub extended : ScriptState → Record → ScriptState
extended s e = record { table = slice_set s.table s.used e; used = s.used + 1; loose = joined_by s.loose e.way.from }

-- the script once a record was added, or refused
abbrev pub after_add : ScriptState → Record → ScriptState
after_add s e = if_granted (add_refusal s e) (extended s e) s

-- why so many entries cannot become the script's records: the table has fewer, or they are more than 65,535
abbrev pub preset_refusal : ScriptState → ℕ → Option ScriptFault
preset_refusal s used = unless (nat_le used (length s.table) && nat_le used 65535) Full None

-- the script once so many entries became its records, with this mask, or were refused; the table stays as it is
abbrev pub after_preset : ScriptState → ℕ → ℕ → ScriptState
after_preset s used loose = if_granted (preset_refusal s used) (record { table = s.table; used = used; loose = loose }) s
