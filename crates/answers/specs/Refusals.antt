-- The number of a refusal, from whichever layer it comes.
use Rattle.std.specs.Prelude.{ℕ}
use Rattle.lines.specs.Faults as lines
use Rattle.places.specs.Faults as places
use Rattle.plans.specs.Faults as plans
use Rattle.answers.specs.declared.forms.Refusal.{Refusal}
use Rattle.answers.specs.declared.forms.Refusal.TheVariants.{Place, Plan, Script}

abbrev pub refusal_number : Refusal → ℕ
refusal_number (Place fault) = places.fault_number fault
refusal_number (Plan fault) = plans.fault_number fault
refusal_number (Script fault) = lines.fault_number fault
