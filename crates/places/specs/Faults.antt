-- Refusals of this layer, the number of each and what it says.
use Rattle.std.specs.Prelude.{ℕ, List, codes}
use Rattle.places.specs.declared.fault.PlaceFault.{PlaceFault}
use Rattle.places.specs.declared.fault.PlaceFault.TheVariants.{Units, Source, Absent}

abbrev pub fault_number : PlaceFault → ℕ
fault_number Units = 1
fault_number Source = 4
fault_number Absent = 13

-- the text, as a list of bytes
abbrev pub fault_text : PlaceFault → List ℕ
fault_text Units = codes "n outside 4 to 21"
fault_text Source = codes "source not below n"
fault_text Absent = codes "no such unit, level or place"
