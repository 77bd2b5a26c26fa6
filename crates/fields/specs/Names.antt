-- The words that name a kind, a slope, a vote or a right. They are compared byte for byte. i is the number of the word.
use Rattle.std.specs.Prelude.{ℕ, Bool, cond, Ok, Err, codes, Result}
use Prim.Native.String.{String}
use Rattle.std.specs.Str.{bytes_eq}
use Rattle.fields.specs.declared.forms.KindName.{KindName}
use Rattle.fields.specs.declared.forms.KindName.TheVariants.{Right, Trigger}
use Rattle.fields.specs.declared.forms.Misread.{Misread}
use Rattle.fields.specs.declared.forms.Misread.TheVariants.{UnknownWord}
use Rattle.fields.specs.declared.forms.VoteName.{VoteName}
use Rattle.fields.specs.declared.forms.VoteName.TheVariants.{Majority, Threshold}
use Rattle.kinds.specs.declared.trigger.Slope.{Slope}
use Rattle.kinds.specs.declared.trigger.Slope.TheVariants.{Rising, Falling}
use Rattle.words.specs.Words.{Word}

-- whether the word is the text
abbrev pub says : Word → String → Bool
says w text = bytes_eq w (codes text)

-- one of two names
abbrev pub either : {A : Type 0} → Word → A → Word → A → ℕ → Word → Result A Misread
either first x second y i w =
    cond (bytes_eq w first) (Ok x)
    (cond (bytes_eq w second) (Ok y)
    (Err (UnknownWord i)))

abbrev pub kind : ℕ → Word → Result KindName Misread
kind = either (codes "right") Right (codes "trigger") Trigger

abbrev pub slope : ℕ → Word → Result Slope Misread
slope = either (codes "rising") Rising (codes "falling") Falling

abbrev pub vote : ℕ → Word → Result VoteName Misread
vote = either (codes "majority") Majority (codes "threshold") Threshold
