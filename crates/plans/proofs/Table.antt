-- An entry of the table of rounds.
use Rattle.std.proofs.Common.{◌≡◌, ℕ, ◌+◌, ◌-◌, ◌≤◌, true, ◌||◌, eqb, List, [], get_or, sym, ap, ◌∙◌, ap₂, arith}
use Rattle.std.proofs.lemmas.Bool.{eqb-true, le-ltb}
use Rattle.sequences.specs.Tables.{ruled}
use Rattle.sequences.proofs.Table.{entry}
use Rattle.plans.specs.Schedules.{rounds}
use Rattle.plans.specs.Tables.{is_rounds}

pub rounds_entry : (rows : List (List ℕ)) → ruled is_rounds 2 4 rows ≡ true → (t gear : ℕ) → 2 ≤ gear → gear ≤ 3 → gear ≤ t → t ≤ 5
    → get_or (get_or rows (gear - 2) []) (t - 2) 0 ≡ rounds t gear
rounds_entry rows test t gear a b p q =
    let x = get_or (get_or rows (gear - 2) []) (t - 2) 0 in
    let e = entry is_rounds 2 4 rows test (gear - 2) (t - 2) (omega arith) (omega arith) in
    let y : gear - 2 + 2 ≡ gear = omega arith in
    let z : t - 2 + 2 ≡ t = omega arith in
    let f : eqb x (rounds (t - 2 + 2) (gear - 2 + 2)) ≡ true = sym (ap (λ k. k || eqb x (rounds (t - 2 + 2) (gear - 2 + 2))) (le-ltb (t - 2) (gear - 2) (omega arith))) ∙ e in
    eqb-true x _ f ∙ ap₂ rounds z y
