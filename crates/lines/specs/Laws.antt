-- Each line keeps the law: what a unit outside its mask gives arrives as given.
use Rattle.std.specs.Prelude.{ℕ, List, refl}
use Rattle.std.proofs.Common.{sym, ◌∙◌}
use Rattle.std.proofs.lemmas.Bool.{or_parts}
use Rattle.masks.specs.Masks.{holds}
use Rattle.masks.proofs.Bits.{or_holds}
use Rattle.lines.specs.declared.script.Record.{Record}
use Rattle.lines.specs.Lines.{LineModel, Faithful}
use Rattle.lines.specs.Piles.{clean, muted}
use Rattle.lines.specs.Scripts.{scripted}

-- the clean line changes nothing
pub clean_faithful : Faithful clean
clean_faithful w code out = refl

-- a unit outside the joined mask is in neither mask
pub muted_faithful : (m : ℕ) (below : LineModel) → Faithful below → Faithful (muted m below)
muted_faithful m below law w code out =
    let apart = or_parts (holds m w.from) (holds below.mask w.from) (sym (or_holds m below.mask w.from) ∙ out) in
    rw apart.0 (law w code apart.1)

-- a script changes nothing of a unit outside its mask
pub scripted_faithful : (records : List Record) (loose : ℕ) → Faithful (scripted records loose)
scripted_faithful records loose w code out = rw out
