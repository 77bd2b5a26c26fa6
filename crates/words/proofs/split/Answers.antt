use Rattle.std.proofs.Common.{sym, ◌∙◌, arith}
use Rattle.words.proofs.Pieces.{found_none, found_blank, found_byte, found_all}
use Rattle.words.proofs.split.Goals as goal
use Rattle.words.proofs.split.Goals.{then-is_blank+in_ok-keep, else-is_blank}

pub loop-i-init : goal.loop-i-init
loop-i-init c = simp c.new-words.ensures.items (found_none c.args.text.now)

pub loop-i-preserved : goal.loop-i-preserved
loop-i-preserved c =
    elim c.if-is_blank.branch [
      | then-is_blank+in_ok-keep w ↦
          simp (w.words-is, w.start-is) (found_blank c.loop-i.invariant c.loop-i-test.true w.if-is_blank.ensures _ w.in_ok-keep.ensures)
      | else-is_blank w ↦
          simp (w.words-is, w.start-is) (found_byte c.loop-i.invariant c.loop-i-test.true w.if-is_blank.ensures)
    ]

pub returns : goal.returns
returns c =
    c.in_ok-keep-2.ensures ∙ sym (found_all c.loop-i.invariant (omega arith))
