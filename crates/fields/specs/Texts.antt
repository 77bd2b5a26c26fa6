-- Names and flaws in words.
use Rattle.std.specs.Prelude.{ℕ, List, ◌++◌, codes, decimal}
use Prim.Native.String.{String}
use Rattle.fields.specs.declared.forms.KindName.{KindName}
use Rattle.fields.specs.declared.forms.KindName.TheVariants.{Right, Trigger}
use Rattle.fields.specs.declared.forms.Misread.{Misread}
use Rattle.fields.specs.declared.forms.Misread.TheVariants.{UnknownQuestion, TooFew, TooMany, UnknownWord, NotNumber, Negative, TooLarge}

-- the word that names the kind
abbrev pub kind_text : KindName → List ℕ
kind_text Right = codes "right"
kind_text Trigger = codes "trigger"

-- word i, and what is wrong with it
abbrev pub about_word : ℕ → String → List ℕ
about_word i flaw = codes "word " ++ decimal i ++ codes flaw

-- what is wrong with the line
abbrev pub misread_text : Misread → List ℕ
misread_text UnknownQuestion = codes "no such question"
misread_text TooFew = codes "words are missing"
misread_text TooMany = codes "too many words"
misread_text (UnknownWord i) = about_word i " is not one of the names that may stand there"
misread_text (NotNumber i) = about_word i " is not a number"
misread_text (Negative i) = about_word i " is negative"
misread_text (TooLarge i) = about_word i " is out of range"
