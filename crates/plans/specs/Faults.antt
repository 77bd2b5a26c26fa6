-- Refusals of numbers to open a rack with, the number of each and what it says.
use Rattle.std.specs.Prelude.{ℕ, List, codes}
use Rattle.plans.specs.declared.fault.PlanFault.{PlanFault}
use Rattle.plans.specs.declared.fault.PlanFault.TheVariants.{Units, Gear, Tolerance, Source}

abbrev pub fault_number : PlanFault → ℕ
fault_number Units = 1
fault_number Gear = 2
fault_number Tolerance = 3
fault_number Source = 4

-- the text, as a list of bytes
abbrev pub fault_text : PlanFault → List ℕ
fault_text Units = codes "n outside 4 to 21"
fault_text Gear = codes "gear 1, or above 3"
fault_text Tolerance = codes "t outside what n and the gear allow"
fault_text Source = codes "source not below n"
