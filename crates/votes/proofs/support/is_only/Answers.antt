use Rattle.std.proofs.Common.{◌∙◌, not, ◌||◌, rules, tests}
use Rattle.std.specs.Option.{option_to_list}
use Rattle.std.proofs.lemmas.Iterator.{YieldsList-from_slice}
use Rattle.std.proofs.lemmas.Iterator.Adapters.{YieldsList-from_flatten}
use Rattle.std.proofs.lemmas.Iterator.Search.{all_from_yields_List}
use Rattle.kinds.specs.Models.{same_value}
use Rattle.votes.specs.Meanings.{enough}
use Rattle.votes.proofs.Values.{entry_gives, every_value}
use Rattle.votes.proofs.support.is_only.Goals as goal

pub returns : goal.returns
returns g c =
    let p = enough g.K.Kind.model c.args.entries.now c.args.least in
    let q = same_value g.K.Kind.model c.args.x.now in
    let f = all_from_yields_List (λ y. q y || not (p y)) _ _ c.all.result c.all.ensures.ran
    (YieldsList-from_flatten _ _ (λ y. y.now) option_to_list (λ x j b. entry_gives j x.now b.0 b.1) (YieldsList-from_slice c.args.entries.now cc) c.flatten.ensures.front c.flatten.ensures.back c.flatten.ensures.done)
    (λ x b f k. search (rules, tests)) in
    f ∙ every_value p q c.args.entries.now
