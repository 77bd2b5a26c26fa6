use Rattle.std.proofs.Common.{◌∙◌, rules, tests}
use Rattle.std.specs.Option.{option_to_list}
use Rattle.std.proofs.lemmas.Iterator.{YieldsList-from_slice}
use Rattle.std.proofs.lemmas.Iterator.Adapters.{YieldsList-from_flatten}
use Rattle.std.proofs.lemmas.Iterator.Search.{find_from_yields_List}
use Rattle.votes.specs.Meanings.{enough}
use Rattle.votes.proofs.Values.{entry_gives, first_value}
use Rattle.votes.proofs.support.first_with.Goals as goal

pub returns : goal.returns
returns g c =
    let p = enough g.K.Kind.model c.args.entries.now c.args.least in
    let f = find_from_yields_List p _ _ c.find.result c.find.ensures.ran
    (YieldsList-from_flatten _ _ (λ y. y.now) option_to_list (λ x j b. entry_gives j x.now b.0 b.1) (YieldsList-from_slice c.args.entries.now cc) c.flatten.ensures.front c.flatten.ensures.back c.flatten.ensures.done)
    (λ x b q k. search (rules, tests)) in
    c.copied.ensures ∙ f ∙ first_value p c.args.entries.now
