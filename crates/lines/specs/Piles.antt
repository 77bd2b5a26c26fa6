-- The clean line, and a line that mutes units over another one.
use Rattle.std.specs.Prelude.{ℕ, cond, Some, None, bit_or}
use Rattle.masks.specs.Masks.{holds}
use Rattle.lines.specs.Lines.{LineModel}

-- nobody is loose, and every letter arrives as given
abbrev pub clean : LineModel
clean = record { mask = 0; arrives = λ w code. Some code }

-- letters from the units of the mask m bring nothing, and all else is as below; m joins the mask below
abbrev pub muted : ℕ → LineModel → LineModel
muted m below = record {
  mask = bit_or m below.mask;
  arrives = λ w code. cond (holds m w.from) None (below.arrives w code);
}
