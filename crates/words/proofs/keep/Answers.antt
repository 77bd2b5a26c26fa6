use Rattle.std.proofs.Common.{◌++◌, vec_items, sym, ap, ◌∙◌}
use Rattle.std.proofs.lemmas.List.{map_push}
use Rattle.words.specs.Words.{texts}
use Rattle.words.proofs.Pieces.{filled_one}
use Rattle.words.proofs.keep.Goals as goal

pub returns-in_ok-push : goal.returns-in_ok-push
returns-in_ok-push c =
    ap texts c.in_ok-push.ensures.items
    ∙ map_push (λ w. w.now) _ _
    ∙ ap (λ t. texts (vec_items c.args.words.now) ++ t) (sym (filled_one _ (sym c.if-not-is_empty.ensures)))
