-- What a receiver stores of one value.
use Rattle.std.specs.Prelude.{ℕ, Bool, cond, Some, None, Option}
use Rattle.std.specs.Option.{unwrap_or}
use Rattle.kinds.specs.Models.{KindModel}
use Rattle.lines.specs.Lines.{LineModel}
use Rattle.lines.specs.declared.way.Way.{Way}

module _ {V : Type 0} (kind : KindModel V) where
  -- what arrives, as a value: nothing, or a code that cannot be read, is ground
  abbrev pub stored : Option ℕ → V
  stored None = kind.base
  stored (Some c) = unwrap_or (kind.value_of c) kind.base

  -- what a receiver stores of the value v that a sender gives on a way: what arrives of its code, or ground if it lists the sender, whatever the line does
  abbrev pub letter : LineModel → Bool → Way → V → V
  letter line listed way v = cond listed kind.base (stored (line.arrives way (kind.code_of v)))

  -- what a unit stores of a value v of its own: v itself, or ground if it lists itself
  abbrev pub own_letter : Bool → V → V
  own_letter listed v = cond listed kind.base v
