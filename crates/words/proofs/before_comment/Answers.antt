use Rattle.std.proofs.Common.{rules, ◌==◌, take, sym, ap}
use Rattle.std.proofs.lemmas.List.Sums.{position_or_len_is}
use Rattle.words.proofs.before_comment.Goals as goal

pub returns : goal.returns
returns c = ap (λ n. take n c.args.line.now) (sym (position_or_len_is (λ b. b == 35) c.args.line.now c.unwrap_or-end.result 0 (search rules) (λ k lt. search rules) (λ lt. search rules)))
