-- The answers of a shape, by the place of a sequence and by its way back.
use Rattle.std.proofs.Common.{◌≡◌, ℕ, zero, suc, ◌+◌, ◌-◌, ◌*◌, ◌/◌, ◌<◌, ◌≤◌, true, not, ◌&&◌, ltb, List, [], ◌∷◌, reverse, length, get_or, Ok, sym, ap, ◌∙◌, subst, ap₂, inl, mul-le-mul_right, arith}
use Rattle.std.proofs.lemmas.List.{reverse-reverse, length-reverse}
use Rattle.std.proofs.lemmas.Nat.{mul-le, div-mul-add, mod-mul-add}
use Rattle.std.proofs.lemmas.Bool.{and_parts, and_from, leb-true, ltb-true, lt-ltb, le-leb, eqb-true, eq-eqb, cond-true}
use Rattle.masks.specs.Lists.{In, units}
use Rattle.masks.proofs.Members.{get_or_in, in_kept, kept_in, in_counting, counting_in}
use Rattle.places.specs.declared.shape.Shape.{Shape}
use Rattle.places.specs.Numbers.{has_level}
use Rattle.sequences.specs.Sequences.{among, absent, sequences, place, proper, last_of, parent_of}
use Rattle.sequences.specs.Units.{Shows, free}
use Rattle.sequences.proofs.Bounds.{wide, width_most}
use Rattle.sequences.proofs.Free.{parent_place, free_absent}
use Rattle.sequences.proofs.Index.{place_of, fans, level_digit, children_count}
use Rattle.sequences.proofs.Levels.{level_length, level_root, level_cons, level_child}
use Rattle.places.proofs.Shapes.{source_in, has_place, sequence_at, back_answer, child_answer, place_answer}

-- what it says that level k has a place i
pub there : (shape : Shape) (k i : ℕ) → has_place shape k i ≡ true
    → (1 ≤ k) × (k ≤ shape.levels) × (i < length (sequences shape.n shape.source (k - 1))) × (i < 6840)
there shape k i t =
    let parts = and_parts _ _ t in
    let range = and_parts _ _ parts.0 in
    let low = leb-true 1 k range.0 in
    let high = leb-true k shape.levels range.1 in
    let below = ltb-true i _ parts.1 in
    let w = wide shape.n shape.source (k - 1) (source_in shape) in
    (low, high, omega arith, omega (arith, width_most shape.n (k - 1) shape.most (omega (arith, shape.few))))

-- the places of the children fit
pub few : (shape : Shape) (k i : ℕ) → has_place shape k i ≡ true → i * (shape.n - k) ≤ 6840 * 21
few shape k i is_there =
    let t = there shape k i is_there in
    mul-le i (shape.n - k) 6840 21 (omega arith) (omega (arith, shape.most))

-- the way back, by the last unit
pub back : (shape : Shape) (k i w : ℕ) → 2 ≤ k → has_place shape k i ≡ true
    → get_or (sequences shape.n shape.source (k - 1)) i [] ≡ w ∷ get_or (sequences shape.n shape.source (k - 1 - 1)) (i / (shape.n - (k - 1))) []
    → Ok (w, i / (shape.n - (k - 1))) ≡ back_answer shape k i
back shape k i w two is_there split =
    let n = shape.n in
    let s = shape.source in
    let is = source_in shape in
    let p = i / (n - (k - 1)) in
    let low = parent_place n s is (k - 1) i (omega arith) (there shape k i is_there).2 in
    let two_up : ltb 1 k ≡ true = lt-ltb 1 k (omega arith) in
    let found : (last_of (sequence_at shape k i), place n (parent_of (sequence_at shape k i))) ≡ (w, p) =
    ap (λ γ. (last_of γ, place n (parent_of γ))) split ∙ ap (λ q. (w, q)) (place_of n s is (k - 1 - 1) p low) in
    sym (cond-true (ltb 1 k && has_place shape k i) _ _ (and_from _ _ two_up is_there) ∙ ap Ok found)

-- child j of the sequence at a place
pub child_at : (n s d i j : ℕ) → In s (units n) → i < length (sequences n s d) → j < n - suc d
    → get_or (sequences n s (suc d)) (i * (n - suc d) + j) [] ≡ get_or (absent n (get_or (sequences n s d) i [])) j 0 ∷ get_or (sequences n s d) i []
child_at n s d i j is li lj =
    let c = n - suc d in
    let low : i * c + j < length (sequences n s (suc d)) = omega (arith, fans n s d is, mul-le-mul_right c li) in
    let at = (level_digit n s is d (i * c + j) low).2 in
    at ∙ ap₂ (λ q r. get_or (absent n (get_or (sequences n s d) q [])) r 0 ∷ get_or (sequences n s d) q []) (div-mul-add i c j lj) (mod-mul-add i c j lj)

module _ (shape : Shape) (k i j m w : ℕ) (is_there : has_place shape k i ≡ true) (more : k < shape.levels) (lj : j < shape.n - k)
    (shows : Shows m (get_or (sequences shape.n shape.source (k - 1)) i [])) (is_w : w ≡ get_or (free m shape.n) j 0) where
  absent_w : w ≡ get_or (absent shape.n (sequence_at shape k i)) j 0
  absent_w = is_w ∙ ap (λ us. get_or us j 0) (free_absent m shape.n (sequence_at shape k i) shows)

  pub child : Ok (w, i * (shape.n - k) + j) ≡ child_answer shape k i j
  child = sym (cond-true (has_place shape k i && (ltb k shape.levels && ltb j (shape.n - k))) _ _ (and_from _ _ is_there (and_from _ _ (lt-ltb k shape.levels more) (lt-ltb j (shape.n - k) lj)))
      ∙ ap (λ u. Ok (u, i * (shape.n - k) + j)) (sym absent_w))

  pub child_stands : sequence_at shape (k + 1) (i * (shape.n - k) + j) ≡ w ∷ sequence_at shape k i
  child_stands =
      let n = shape.n in
      let s = shape.source in
      let t = there shape k i is_there in
      let e : suc (k - 1) ≡ k = omega arith in
      let f : k + 1 - 1 ≡ k = omega arith in
      let at : get_or (sequences n s k) (i * (n - k) + j) [] ≡ get_or (absent n (get_or (sequences n s (k - 1)) i [])) j 0 ∷ get_or (sequences n s (k - 1)) i [] =
      subst (λ x. get_or (sequences n s x) (i * (n - x) + j) [] ≡ get_or (absent n (get_or (sequences n s (k - 1)) i [])) j 0 ∷ get_or (sequences n s (k - 1)) i []) e
      (child_at n s (k - 1) i j (source_in shape) t.2 (omega arith)) in
      ap (λ x. get_or (sequences n s x) (i * (n - k) + j) []) f ∙ (at ∙ ap (λ u. u ∷ sequence_at shape k i) (sym absent_w))

-- as many units as a sequence leaves out
pub left_out : (shape : Shape) (k i m : ℕ) → has_place shape k i ≡ true → Shows m (get_or (sequences shape.n shape.source (k - 1)) i []) → length (free m shape.n) ≡ shape.n - k
left_out shape k i m is_there shows =
    let t = there shape k i is_there in
    let α = get_or (sequences shape.n shape.source (k - 1)) i [] in
    let e : suc (k - 1) ≡ k = omega arith in
    ap length (free_absent m shape.n α shows) ∙ (children_count shape.n shape.source (k - 1) α (source_in shape) (get_or_in _ i [] t.2) ∙ ap (λ x. shape.n - x) e)

-- the sequences of a level are proper, and a proper list stands in its level
pub in_proper : (n s d : ℕ) (α : List ℕ) → In α (sequences n s d) → proper n s α ≡ true
in_proper n s d [] i = absurd (omega (arith, level_length n s d [] i))
in_proper n s zero (w ∷ []) i = eq-eqb w s (level_root n s w [] i).0
in_proper n s zero (w ∷ (u ∷ α)) i = absurd (omega (arith, level_length n s zero (w ∷ (u ∷ α)) i))
in_proper n s (suc d) (w ∷ []) i = absurd (omega (arith, level_length n s (suc d) (w ∷ []) i))
in_proper n s (suc d) (w ∷ (u ∷ α)) i =
    let r = level_cons n s d w (u ∷ α) i in
    let kept = in_kept (λ x. not (among (u ∷ α) x)) (units n) w r.1 in
    and_from _ _ (lt-ltb w n (omega (arith, in_counting 0 n w kept.0))) (and_from _ _ kept.1 (in_proper n s d (u ∷ α) r.0))

pub proper_in : (n s d : ℕ) (α : List ℕ) → length α ≡ suc d → proper n s α ≡ true → In α (sequences n s d)
proper_in n s d [] l t = absurd (omega arith)
proper_in n s zero (w ∷ []) l t = inl (ap (λ x. x ∷ []) (eqb-true w s t))
proper_in n s zero (w ∷ (u ∷ α)) l t = absurd (omega arith)
proper_in n s (suc d) (w ∷ []) l t = absurd (omega arith)
proper_in n s (suc d) (w ∷ (u ∷ α)) l t =
    let a = and_parts (ltb w n) (not (among (u ∷ α) w) && proper n s (u ∷ α)) t in
    let b = and_parts (not (among (u ∷ α) w)) (proper n s (u ∷ α)) a.1 in
    level_child n s d (u ∷ α) w (proper_in n s d (u ∷ α) (omega arith) b.1)
    (kept_in (λ x. not (among (u ∷ α) x)) (units n) w (counting_in 0 n w (omega arith) (omega (arith, ltb-true w n a.0))) b.0)

-- a sequence found at a place has that place
pub found_back : (shape : Shape) (k i : ℕ) (us : List ℕ) → has_place shape k i ≡ true → us ≡ reverse (sequence_at shape k i) → place_answer shape us ≡ Ok i
found_back shape k i us is_there e =
    let n = shape.n in
    let s = shape.source in
    let t = there shape k i is_there in
    let α = sequence_at shape k i in
    let at = get_or_in (sequences n s (k - 1)) i [] t.2 in
    let r : reverse us ≡ α = ap reverse e ∙ reverse-reverse α in
    let l : length us ≡ k = ap length e ∙ (length-reverse α ∙ (level_length n s (k - 1) α at ∙ omega arith)) in
    let has : has_level shape.levels (length us) ≡ true = and_from _ _ (le-leb 1 (length us) (omega arith)) (le-leb (length us) shape.levels (omega arith)) in
    let is_proper : proper n s (reverse us) ≡ true = ap (proper n s) r ∙ in_proper n s (k - 1) α at in
    cond-true (has_level shape.levels (length us) && proper n s (reverse us)) _ _ (and_from _ _ has is_proper)
    ∙ ap Ok (ap (place n) r ∙ place_of n s (source_in shape) (k - 1) i t.2)
