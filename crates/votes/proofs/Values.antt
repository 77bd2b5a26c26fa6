-- The first, and all, of the values among entries that pass a test, in the words that the library has for `flatten`, `find` and `all`.
use Rattle.std.proofs.Common.{◌≡◌, Bool, false, not, ◌||◌, List, [], ◌∷◌, Some, None, filter, Option, Bor, cond, length, refl, subst, arith}
use Rattle.std.specs.List.{slice_get, find, flat_map, list_all}
use Rattle.std.specs.Option.{option_to_list}
use Rattle.std.specs.Iterator.Adapters.{option_iter_item, option_iter_done, option_iter_steps}
use Rattle.std.proofs.lemmas.Bool.{cases_Bool}
use Rattle.std.proofs.lemmas.Iterator.{YieldsList}
use Rattle.std.proofs.lemmas.Iterator.Consumers.{YieldsList-from_shown}
use Rattle.masks.specs.Lists.{every}
use Rattle.votes.specs.Entries.{values}

module _ {K : Type 0} (p : K → Bool) where
  pub first_value : (es : List (Option K)) → find p (flat_map option_to_list es) ≡ slice_get (filter p (values es)) 0
  first_value [] = refl
  first_value (None ∷ es) = first_value es
  first_value (Some x ∷ es) = grind (arith, cases_Bool (p x), first_value es)

  pub every_value : (q : K → Bool) (es : List (Option K)) → list_all (λ y. q y || not (p y)) (flat_map option_to_list es) ≡ every q (filter p (values es))
  every_value q [] = refl
  every_value q (None ∷ es) = every_value q es
  every_value q (Some x ∷ es) = grind (arith, cases_Bool (p x), cases_Bool (q x), every_value q es)

-- an entry that is gone over gives its value, or nothing if it is open
module _ {K : Type 0} where
  none_left : (s t : _) → option_iter_steps {A = K} s None t → length (cond (option_iter_done s) [] (option_to_list (option_iter_item s))) ≡ 0
  none_left s t step = grind (arith, cases_Bool (option_iter_done s))

  next_left : (s : _) (x : Bor K) (t : _) → option_iter_steps s (Some x) t
      → cond (option_iter_done s) [] (option_to_list (option_iter_item s)) ≡ x.now ∷ cond (option_iter_done t) [] (option_to_list (option_iter_item t))
  next_left s x t step = grind (arith, cases_Bool (option_iter_done s))

  pub entry_gives : (s : _) (e : Option K) → option_iter_item s ≡ e → option_iter_done s ≡ false → YieldsList option_iter_steps (λ y. y.now) s (option_to_list e)
  entry_gives s e item fresh =
      subst (λ ys. YieldsList option_iter_steps (λ y. y.now) s ys) (cc)
      (YieldsList-from_shown option_iter_steps (λ y. y.now) (λ s. cond (option_iter_done s) [] (option_to_list (option_iter_item s))) none_left next_left s)
