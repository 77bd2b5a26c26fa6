-- All that a script holds, and the line that it is.
use Rattle.std.specs.Prelude.{◌≡◌, ℕ, List, take}
use Rattle.lines.specs.declared.script.Record.{Record}
use Rattle.lines.specs.declared.script.Script.{Script}
use Rattle.lines.specs.Lines.{LineModel}
use Rattle.lines.specs.Scripts.{scripted}

pub record ScriptState : Type 0 where
  pub table : List Record  -- the whole lent memory
  pub used : ℕ  -- how many of its entries, from the first on, are the script's records
  pub loose : ℕ  -- the mask of the loose units

-- what a script holds
abbrev pub view : Script → ScriptState
view s = record { table = s.table.now; used = s.used; loose = s.loose }

-- a call made the old script the new one: it holds this, and its memory is the same loan as before, so that the lender learns what it holds
abbrev pub Becomes : Script → Script → ScriptState → Type 0
Becomes old new state = (view new ≡ state) × (new.table.ghost_name ≡ old.table.ghost_name)

-- no record and no loose unit, over this memory
abbrev pub blank : List Record → ScriptState
blank table = record { table = table; used = 0; loose = 0 }

-- the script's records; the entries of the table beyond them say nothing
abbrev pub in_use : ScriptState → List Record
in_use s = take s.used s.table

-- the line that a script is
abbrev pub meaning : ScriptState → LineModel
meaning s = scripted (in_use s) s.loose
