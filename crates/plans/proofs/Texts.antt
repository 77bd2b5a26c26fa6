-- How many blocks a run has, and what is printed of the first of them.
use Rattle.std.proofs.Common.{◌≡◌, ℕ, ◌+◌, ◌-◌, ◌%◌, ◌<◌, ◌≤◌, eqb, List, [], ◌∷◌, ◌++◌, replicate, length, take, sum, Some, None, sym, ap, ◌∙◌, subst, ⊎_elim, arith}
use Rattle.std.specs.List.{slice_get, flat_map}
use Rattle.std.proofs.lemmas.Bool.{cases_Bool, cond-true, cond-false, cond_both, eqb-false}
use Rattle.std.proofs.lemmas.List.{flat_map_more, take_more, take_all, length-append, length-replicate}
use Rattle.std.proofs.lemmas.List.Folds.{sum_by-replicate}
use Rattle.std.proofs.lemmas.List.Sums.{sum_by-append}
use Rattle.std.proofs.lemmas.Nat.{mul-le}
use Rattle.std.proofs.lemmas.Option.{slice_get_within, get_or_from_slice_get, slice_get_cases}
use Rattle.plans.specs.Schedules.{full_blocks, short_block, blocks, rounds}

-- no block is shorter than a round
few_full : (b x : ℕ) (rest : List ℕ) → 0 < b → length rest ≤ 1 → length (replicate x b ++ rest) ≤ 1 + sum (replicate x b ++ rest)
few_full b x rest pos one = omega (
  arith,
  one,
  length-append (replicate x b) rest,
  length-replicate x b,
  sum_by-append (λ y. y) (replicate x b) rest,
  sum_by-replicate (λ y. y) x b,
  mul-le x 1 x b (omega arith) (omega arith),
)

pub few_blocks : (t gear : ℕ) → length (blocks t gear) ≤ rounds t gear
few_blocks t gear = ⊎_elim
    (λ z. let e : blocks t gear ≡ t ∷ [] = cond-true (eqb gear 0) _ _ z in subst (λ bs. length bs ≤ 1 + sum bs) (sym e) (omega arith))
    (λ z. let e : blocks t gear ≡ replicate (full_blocks t gear) gear ++ short_block t gear = cond-false (eqb gear 0) _ _ z in
    let one : length (short_block t gear) ≤ 1 = cond_both (eqb ((t - 1) % (gear - 1)) 0) _ _ (λ bs. length bs ≤ 1) (λ _. omega arith) (λ _. omega arith) in
    let some = eqb-false gear 0 z in
    subst (λ bs. length bs ≤ 1 + sum bs) (sym e) (few_full gear (full_blocks t gear) (short_block t gear) (omega arith) one))
    (cases_Bool (eqb gear 0))

-- the text of the first i, and one more where there is one
module _ (text : ℕ → List ℕ) (bs : List ℕ) (i : ℕ) where
  pub text_more : (b : ℕ) → slice_get bs i ≡ Some b → flat_map text (take i bs) ++ text b ≡ flat_map text (take (i + 1) bs)
  text_more b e =
      flat_map_more text [] (take i bs) b
      ∙ ap (flat_map text) (sym (take_more bs i b (slice_get_within bs i b e) ∙ ap (λ x. take i bs ++ x ∷ []) (get_or_from_slice_get bs i b b e)))

  pub text_done : slice_get bs i ≡ None → flat_map text (take i bs) ≡ flat_map text (take (i + 1) bs)
  text_done e = ⊎_elim
      (λ some. let found = some.2 in cc)
      (λ past. ap (flat_map text) (take_all i bs past.0 ∙ sym (take_all (i + 1) bs (omega (arith, past.0)))))
      (slice_get_cases bs i).1
