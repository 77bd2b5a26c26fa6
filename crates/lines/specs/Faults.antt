-- The refusals of a script: their numbers, and what a refused call answers and leaves.
use Rattle.std.specs.Prelude.{ℕ, Bool, cond, List, Some, None, Ok, Err, Option, Result, codes}
use Rattle.lines.specs.declared.fault.ScriptFault.{ScriptFault}
use Rattle.lines.specs.declared.fault.ScriptFault.TheVariants.{Sender, Full}

-- the number of each refusal
abbrev pub fault_number : ScriptFault → ℕ
fault_number Sender = 16  -- the sender of an added record is above 20
fault_number Full = 18  -- more records than the table holds, or than 65,535

-- the text of each refusal
abbrev pub fault_text : ScriptFault → List ℕ
fault_text Sender = codes "sender above 20"
fault_text Full = codes "script full"

-- refused by this fault unless the test holds; else by what follows
abbrev pub unless : Bool → ScriptFault → Option ScriptFault → Option ScriptFault
unless ok fault rest = cond ok rest (Some fault)

-- the answer to a call that is refused by this fault, or granted
abbrev pub answer : Option ScriptFault → Result Unit ScriptFault
answer None = Ok tt
answer (Some fault) = Err fault

-- the new state of a granted call, and the old one of a refused call
abbrev pub if_granted : {X : Type 0} → Option ScriptFault → X → X → X
if_granted None new old = new
if_granted (Some fault) new old = old
