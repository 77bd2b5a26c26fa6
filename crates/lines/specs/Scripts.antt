-- What arrives by a script: the first record for a letter's way tells it.
use Rattle.std.specs.Prelude.{ℕ, Bool, cond, ◌&&◌, List, Some, None, Option, find, ◌==◌}
use Rattle.masks.specs.Masks.{holds}
use Rattle.lines.specs.declared.script.Record.{Record}
use Rattle.lines.specs.declared.way.Way.{Way}
use Rattle.lines.specs.Lines.{LineModel}

-- the record is for the way: for its round, sender, receiver and place
abbrev pub fitting : Way → Record → Bool
fitting w e = e.way.round == w.round && (e.way.from == w.from && (e.way.to == w.to && e.way.place == w.place))

-- the first record for the way, if there is one
abbrev pub first_match : Way → List Record → Option Record
first_match w es = find (fitting w) es

-- what arrives by a record: its code, where 4294967295 means that nothing arrives
abbrev pub brought : Record → Option ℕ
brought e = cond (e.code == 4294967295) None (Some e.code)

-- what arrives by the match for a letter, or the given code where there is none
abbrev pub told : Option Record → ℕ → Option ℕ
told (Some e) code = brought e
told None code = Some code

-- a script of these records: they tell what arrives from the loose units, and every other letter arrives as given
abbrev pub scripted : List Record → ℕ → LineModel
scripted records loose = record {
  mask = loose;
  arrives = λ w code. cond (holds loose w.from) (told (first_match w records) code) (Some code);
}
