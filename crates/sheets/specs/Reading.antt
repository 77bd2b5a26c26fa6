-- What the reading of a line gives.
use Rattle.std.specs.Prelude.{◌≡◌, Ok, Err, Result}
use Rattle.fields.specs.declared.forms.Misread.{Misread}
use Rattle.sheets.specs.declared.forms.Unread.{Unread}
use Rattle.sheets.specs.declared.forms.Unread.TheVariants.{Flaw, NoMemory}

-- what the program answers is what was to be read, or the same flaw; only where memory runs out is nothing said
abbrev pub Gives : {A B : Type 0} → (A → B) → Result A Unread → Result B Misread → Type 0
Gives view (Ok a) wanted = Ok (view a) ≡ wanted
Gives view (Err (Flaw m)) wanted = Err m ≡ wanted
Gives view (Err (NoMemory e)) wanted = Unit {0}
