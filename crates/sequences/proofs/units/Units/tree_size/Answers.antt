use Rattle.std.proofs.Common.{◌+◌, ◌^◌, ◌<◌, map, sum, ◌∙◌, arith, rules, tests}
use Rattle.std.specs.List.{range_with_len}
use Rattle.std.proofs.lemmas.Iterator.{YieldsList-from_range, YieldsList-from_map}
use Rattle.std.proofs.lemmas.Iterator.Consumers.{sum_from_yields_List, fits_from_yields_list}
use Rattle.sequences.specs.Widths.{width}
use Rattle.sequences.proofs.Bounds.{size_most, size_sum}
use Rattle.sequences.proofs.units.Units.tree_size.Goals as goal

pub sum-requires-clause-fits : goal.sum-requires-clause-fits
sum-requires-clause-fits c =
    let n = c.args.self.n in
    let h = c.args.h in
    let low : sum (map (width n) (range_with_len 1 h)) < 2 ^ 32 = omega (arith, size_sum n h, size_most n h c.args.self.most c.requires) in
    fits_from_yields_list c.map.result _
    (YieldsList-from_map _ (width n) (YieldsList-from_range 1 (h + 1) h (cc) (omega arith)) c.map.ensures.closure (λ x r q k. search (rules, tests)))
    low

pub returns-clause-value : goal.returns-clause-value
returns-clause-value c =
    let n = c.args.self.n in
    let h = c.args.h in
    sum_from_yields_List c.map.result c.sum.result c.sum.ensures.ran
    (YieldsList-from_map _ (width n) (YieldsList-from_range 1 (h + 1) h (cc) (omega arith)) c.map.ensures.closure (λ x r q k. search (rules, tests)))
    ∙ size_sum n h

pub returns-clause-bound : goal.returns-clause-bound
returns-clause-bound c = omega (arith, returns-clause-value c, size_most c.args.self.n c.args.h c.args.self.most c.requires)
