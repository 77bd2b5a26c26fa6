-- How rights, slopes and triggers are printed.
use Rattle.std.specs.Prelude.{ℕ, List, ◌++◌, codes, decimal}
use Rattle.std.specs.Fmt.{signed_decimal}
use Rattle.kinds.specs.declared.right.Right.{Right}
use Rattle.kinds.specs.declared.right.Right.TheVariants.{Withdrawn, Watch, Operate}
use Rattle.kinds.specs.declared.trigger.Slope.{Slope}
use Rattle.kinds.specs.declared.trigger.Slope.TheVariants.{Rising, Falling}
use Rattle.kinds.specs.declared.trigger.Trigger.{Trigger}

-- What a user may do, with the minutes in decimal.
abbrev pub right_text : Right → List ℕ
right_text Withdrawn = codes "withdrawn"
right_text Watch = codes "watch"
right_text (Operate m) = codes "operate " ++ decimal m.count ++ codes " min"

-- The direction of a slope.
abbrev pub slope_text : Slope → List ℕ
slope_text Rising = codes "rising"
slope_text Falling = codes "falling"

-- The channel, the slope and the level of a trigger; the level is in decimal with its sign where it is below 0.
abbrev pub trigger_text : Trigger → List ℕ
trigger_text t = codes "channel " ++ decimal t.channel ++ codes ", " ++ slope_text t.slope ++ codes ", level " ++ signed_decimal t.level
