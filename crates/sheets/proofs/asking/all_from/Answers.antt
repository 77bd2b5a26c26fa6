use Rattle.std.proofs.Common.{◌≡◌, ◌+◌, ◌-◌, length, ◌∙◌, arith, length-append}
use Rattle.std.proofs.lemmas.Grind.{common_steps}
use Rattle.std.proofs.lemmas.Iterator.{YieldsList-from_slice}
use Rattle.std.proofs.lemmas.Iterator.Adapters.{YieldsList-from_skip}
use Rattle.std.proofs.lemmas.Iterator.Consumers.{YieldsList-from_enumerate, YieldsList-turn}
use Rattle.sheets.proofs.Rows.{sofar_more, placed_present, placed_reads}
use Rattle.sheets.proofs.asking.all_from.Goals as goal

pub returns-in_err-of : goal.returns-in_err-of
returns-in_err-of g c =
    let items = YieldsList-from_skip (c.args.first - 1) (YieldsList-from_enumerate (YieldsList-from_slice c.args.words.now cc) cc) cc in
    let turn = YieldsList-turn items c.loop-i.yielded _ c.loop-i.yielded_by _ _ (c.in-Some.i, c.in-Some.text) c.in-Some.is c.next.ensures.steps in
    let here = placed_present c.args.words.now c.args.first _ _ _ c.requires turn in
    let reads = placed_reads c.args.words.now c.args.first _ _ _ c.requires turn g.T.Field.reads in
    grind (arith, common_steps)

pub loop-i-preserved : goal.loop-i-preserved
loop-i-preserved g c =
    let items = YieldsList-from_skip (c.args.first - 1) (YieldsList-from_enumerate (YieldsList-from_slice c.args.words.now cc) cc) cc in
    let turn = YieldsList-turn items c.loop-i.yielded _ c.loop-i.yielded_by _ _ (c.in-Some.i, c.in-Some.text) c.in-Some.is c.next.ensures.steps in
    let here = placed_present c.args.words.now c.args.first _ _ _ c.requires turn in
    let reads = placed_reads c.args.words.now c.args.first _ _ _ c.requires turn g.T.Field.reads in
    let next : c.args.first + length c.loop-i.yielded + 1 ≡ c.args.first + (length c.loop-i.yielded + 1) = omega arith in
    simp (c.in_ok-push.ensures.items, length-append) (rw next at (sofar_more c.loop-i.invariant here (c.in_ok-of.ensures ∙ reads)))
