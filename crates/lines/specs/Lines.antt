-- What a line is: whom it names as loose, what arrives by it, and the law that joins the two.
use Rattle.std.specs.Prelude.{◌≡◌, ℕ, false, Some, Option}
use Rattle.masks.specs.Masks.{holds}
use Rattle.lines.specs.declared.way.Way.{Way}

-- what a line means
pub record LineModel : Type 0 where
  pub mask : ℕ  -- the units that it names as loose
  pub arrives : Way → ℕ → Option ℕ  -- what arrives of the code that is given on a way: a code, or nothing

-- the law of a line: what a unit outside the mask gives arrives as given
abbrev pub Faithful : LineModel → Type 0
Faithful line = (w : Way) (code : ℕ) → holds line.mask w.from ≡ false → line.arrives w code ≡ Some code
