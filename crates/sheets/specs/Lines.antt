-- What a line asks: nothing, if it has no words.
use Rattle.std.specs.Prelude.{ℕ, List, [], ◌∷◌, Some, None, Ok, Option, Result}
use Rattle.fields.specs.declared.forms.Misread.{Misread}
use Rattle.sheets.specs.Asked.{Asked}
use Rattle.sheets.specs.Questions.{question_of}
use Rattle.fields.specs.Steps.{and_then}
use Rattle.words.specs.Words.{Word, words}

abbrev pub asks : List Word → Result (Option Asked) Misread
asks [] = Ok None
asks (w ∷ ws) = and_then (question_of (w ∷ ws)) λ q. Ok (Some q)

abbrev pub line_of : List ℕ → Result (Option Asked) Misread
line_of line = asks (words line)
