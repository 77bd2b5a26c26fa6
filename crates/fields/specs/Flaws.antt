-- What can be wrong with a line: each case by its number, and the word that it is about.
use Rattle.std.specs.Prelude.{ℕ, Some, None, Option}
use Rattle.fields.specs.declared.forms.Misread.{Misread}
use Rattle.fields.specs.declared.forms.Misread.TheVariants.{UnknownQuestion, TooFew, TooMany, UnknownWord, NotNumber, Negative, TooLarge}

abbrev pub misread_number : Misread → ℕ
misread_number UnknownQuestion = 1
misread_number TooFew = 2
misread_number TooMany = 3
misread_number (UnknownWord i) = 4
misread_number (NotNumber i) = 5
misread_number (Negative i) = 6
misread_number (TooLarge i) = 7

-- the number of the word, from 1; none where the flaw is the line's
abbrev pub misread_word : Misread → Option ℕ
misread_word UnknownQuestion = None
misread_word TooFew = None
misread_word TooMany = None
misread_word (UnknownWord i) = Some i
misread_word (NotNumber i) = Some i
misread_word (Negative i) = Some i
misread_word (TooLarge i) = Some i
