-- The place of a sequence, unit after unit.
use Rattle.std.proofs.Common.{◌≡◌, ℕ, ◌+◌, ◌-◌, ◌*◌, ◌^◌, ◌<◌, ◌≤◌, true, false, not, ◌&&◌, eqb, ltb, leb, ◌⊎◌, List, [], ◌∷◌, ◌++◌, reverse, length, get_or, take, drop, Ok, Err, count_by, sym, refl, ap, ◌∙◌, subst, ap₂, ⊎_elim, arith}
use lib.Bits.{bit_or, or_zero_l}
use Rattle.std.proofs.lemmas.List.{reverse-append, length-append, length-drop, get_or-drop, length-reverse, length-take-le, take_more, take_all, take-append-drop}
use Rattle.std.proofs.lemmas.Nat.{mul-le}
use Rattle.std.proofs.lemmas.Bool.{and_parts, and_from, and_left, and_cases, cases_Bool, both_ways, lt-ltb, le-ltb, leb-true, eqb-true, eq-eqb, not_from_true, not_from_false, cond-true, cond-false}
use Rattle.masks.specs.Masks.{holds, joined_by}
use Rattle.places.specs.declared.fault.PlaceFault.TheVariants.{Absent}
use Rattle.places.specs.declared.shape.Shape.{Shape}
use Rattle.places.specs.Numbers.{has_level}
use Rattle.sequences.specs.Sequences.{among, absent, sequences, place, proper}
use Rattle.sequences.specs.Units.{Shows, free}
use Rattle.sequences.proofs.Bounds.{wide, width_most}
use Rattle.sequences.proofs.Free.{free_rank, free_absent, root_shows, child_shows}
use Rattle.sequences.proofs.Index.{place_at, place_cons}
use Rattle.places.proofs.Places.{proper_in}
use Rattle.places.proofs.Shapes.{source_in, sequence_at, begun, place_answer}

proper_cons : (n s u : ℕ) (α : List ℕ) → 0 < length α → proper n s (u ∷ α) ≡ (ltb u n && (not (among α u) && proper n s α))
proper_cons n s u [] l = absurd (omega arith)
proper_cons n s u (v ∷ α) l = refl

-- the front of a sequence is one
proper_tail : (n s : ℕ) (β α : List ℕ) → 0 < length α → proper n s (β ++ α) ≡ true → proper n s α ≡ true
proper_tail n s [] α l t = t
proper_tail n s (u ∷ β) α l t =
    let long : 0 < length (β ++ α) = omega (arith, length-append β α) in
    let a = and_parts (ltb u n) (not (among (β ++ α) u) && proper n s (β ++ α)) (sym (proper_cons n s u (β ++ α) long) ∙ t) in
    proper_tail n s β α l (and_parts (not (among (β ++ α) u)) (proper n s (β ++ α)) a.1).1

-- the first i units, the last of them first
abbrev pub front : List ℕ → ℕ → List ℕ
front us i = reverse (take i us)

-- the walk has come past i units that are a sequence, has their mask and their place
abbrev pub Come : Shape → List ℕ → ℕ → ℕ → ℕ → Type 0
Come shape us i seen at = (proper shape.n shape.source (front us i) ≡ true) × Shows seen (front us i) × (at ≡ place shape.n (front us i))

module _ (us : List ℕ) where
  pub front_length : (i : ℕ) → i ≤ length us → length (front us i) ≡ i
  front_length i l = length-reverse (take i us) ∙ length-take-le i us l

  pub front_more : (i u d : ℕ) → i < length us → u ≡ get_or us i d → front us (i + 1) ≡ u ∷ front us i
  front_more i u d l e =
      ap reverse (take_more us i d l) ∙ (reverse-append (take i us) (get_or us i d ∷ []) ∙ ap (λ x. x ∷ front us i) (sym e))

  pub front_proper : (n s i : ℕ) → 1 ≤ i → i ≤ length us → proper n s (reverse us) ≡ true → proper n s (front us i) ≡ true
  front_proper n s i one l t =
      let split : reverse us ≡ reverse (drop i us) ++ front us i = ap reverse (sym (take-append-drop i us)) ∙ reverse-append (take i us) (drop i us) in
      proper_tail n s (reverse (drop i us)) (front us i) (omega (arith, front_length i l)) (sym (ap (proper n s) split) ∙ t)

-- of the units after the first one, the one at k is the unit at k + 1 of all
pub after_first : (us : List ℕ) (k : ℕ) → get_or (take (length us - 1) (drop 1 us)) k 0 ≡ get_or us (k + 1) 0
after_first us k =
    let e : 1 + k ≡ k + 1 = omega arith in
    ap (λ xs. get_or xs k 0) (take_all (length us - 1) (drop 1 us) (omega (arith, length-drop 1 us))) ∙ (get_or-drop 1 us k 0 ∙ ap (λ i. get_or us i 0) e)

module _ (shape : Shape) (us : List ℕ) where
  refused : (has_level shape.levels (length us) && proper shape.n shape.source (reverse us)) ≡ false → Err Absent ≡ place_answer shape us
  refused f = sym (cond-false (has_level shape.levels (length us) && proper shape.n shape.source (reverse us)) _ _ f)

  -- refused at the first unit
  pub not_begun : begun shape us ≡ false → Err Absent ≡ place_answer shape us
  not_begun f = ⊎_elim
      (λ g. refused (and_left (has_level shape.levels (length us)) (proper shape.n shape.source (reverse us)) g))
      (λ g. ⊎_elim
      (λ t. let has = and_parts (has_level shape.levels (length us)) (proper shape.n shape.source (reverse us)) t in
      let range = and_parts (leb 1 (length us)) (leb (length us) shape.levels) has.0 in
      let one = leb-true 1 (length us) range.0 in
      let first : front us (0 + 1) ≡ get_or us 0 0 ∷ [] = front_more us 0 (get_or us 0 0) 0 (omega arith) refl in
      absurd (both_ways (eqb (get_or us 0 0) shape.source) g (sym (ap (proper shape.n shape.source) first) ∙ front_proper us shape.n shape.source 1 (omega arith) one has.1)))
      (λ h. refused h)
      (cases_Bool (has_level shape.levels (length us) && proper shape.n shape.source (reverse us))))
      (and_cases (has_level shape.levels (length us)) (eqb (get_or us 0 0) shape.source) f)

  -- what it says that the first unit passed
  pub begun_parts : begun shape us ≡ true → (1 ≤ length us) × (length us ≤ shape.levels) × (get_or us 0 0 ≡ shape.source)
  begun_parts t =
      let a = and_parts (has_level shape.levels (length us)) (eqb (get_or us 0 0) shape.source) t in
      let range = and_parts (leb 1 (length us)) (leb (length us) shape.levels) a.0 in
      (leb-true 1 (length us) range.0, leb-true (length us) shape.levels range.1, eqb-true (get_or us 0 0) shape.source a.1)

  -- one unit more: refused if it is no unit or stands there already
  module _ (i u seen : ℕ) (one : 1 ≤ i) (l : i < length us) (read : u ≡ get_or us i 0) (shows : Shows seen (front us i)) where
    next : front us (i + 1) ≡ u ∷ front us i
    next = front_more us i u 0 l read

    next_proper : proper shape.n shape.source (front us (i + 1))
        ≡ (ltb u shape.n && (not (holds seen u) && proper shape.n shape.source (front us i)))
    next_proper =
        let α = front us i in
        ap (proper shape.n shape.source) next
        ∙ (proper_cons shape.n shape.source u α (omega (arith, front_length us i (omega arith)))
        ∙ ap (λ b. ltb u shape.n && (not b && proper shape.n shape.source α)) (sym (shows u)))

    pub not_next : ((shape.n ≤ u) ⊎ (holds seen u ≡ true)) → Err Absent ≡ place_answer shape us
    not_next bad = ⊎_elim
        (λ t. let has = and_parts (has_level shape.levels (length us)) (proper shape.n shape.source (reverse us)) t in
        let is_next = sym next_proper ∙ front_proper us shape.n shape.source (i + 1) (omega arith) (omega arith) has.1 in
        let a = and_parts (ltb u shape.n) _ is_next in
        let b = and_parts (not (holds seen u)) _ a.1 in
        absurd (⊎_elim (λ h. both_ways (ltb u shape.n) (le-ltb u shape.n h) a.0) (λ h. both_ways (not (holds seen u)) (not_from_true (holds seen u) h) b.0) bad))
        (λ f. refused f)
        (cases_Bool (has_level shape.levels (length us) && proper shape.n shape.source (reverse us)))

    pub come_next : (at rank more : ℕ) → u < shape.n → holds seen u ≡ false → proper shape.n shape.source (front us i) ≡ true → at ≡ place shape.n (front us i)
        → rank ≡ length (free seen u) → more ≡ joined_by seen u → Come shape us (i + 1) more (at * (shape.n - i) + rank)
    come_next at rank more lu out t e f g =
        let α = front us i in
        let long = front_length us i (omega arith) in
        let low : u < 32 = omega (arith, shape.most) in
        let joined : more ≡ bit_or seen (2 ^ u) = g ∙ cond-true (ltb u 32) _ _ (lt-ltb u 32 low) in
        let counted : rank ≡ count_by (λ x. ltb x u) (absent shape.n α) =
        f ∙ (sym (free_rank seen shape.n u (omega arith)) ∙ ap (count_by (λ x. ltb x u)) (free_absent seen shape.n α shows)) in (
          next_proper ∙ and_from _ _ (lt-ltb u shape.n lu) (and_from _ _ (not_from_false (holds seen u) out) t),
          subst (λ γ. Shows more γ) (sym next) (subst (λ x. Shows x (u ∷ α)) (sym joined) (child_shows seen u α shows)),
          sym (ap (place shape.n) next ∙ (place_cons shape.n u α (omega arith) ∙ ap₂ (λ x y. x + y) (ap₂ (λ x y. x * (shape.n - y)) (sym e) long) (sym counted))),
        )

  -- the first unit alone
  pub first : (seen : ℕ) → begun shape us ≡ true → seen ≡ joined_by 0 shape.source
      → Come shape us 1 seen 0
  first seen t e =
      let s = shape.source in
      let parts = begun_parts t in
      let is : front us (0 + 1) ≡ s ∷ [] = front_more us 0 s 0 (omega arith) (sym parts.2) in
      let low : s < 32 = omega (arith, shape.within, shape.most) in
      let f : seen ≡ 2 ^ s = e ∙ (cond-true (ltb s 32) _ _ (lt-ltb s 32 low) ∙ or_zero_l (2 ^ s)) in
      (ap (proper shape.n s) is ∙ eq-eqb s s refl, subst (λ γ. Shows seen γ) (sym is) (root_shows seen s f), sym (ap (place shape.n) is))

  -- a front that is a sequence has a place of its level
  pub front_place : (i : ℕ) → 1 ≤ i → i ≤ length us → length us ≤ shape.levels → proper shape.n shape.source (front us i) ≡ true
      → (place shape.n (front us i) < 6840)
      × (get_or (sequences shape.n shape.source (i - 1)) (place shape.n (front us i)) [] ≡ front us i)
  front_place i one l few t =
      let α = front us i in
      let long = front_length us i l in
      let is = source_in shape in
      let at = place_at shape.n shape.source (i - 1) α is (proper_in shape.n shape.source (i - 1) α (omega arith) t) in
      (omega (arith, at.0, wide shape.n shape.source (i - 1) is, width_most shape.n (i - 1) shape.most (omega (arith, shape.few))), at.1)

  -- the next place fits
  pub next_few : (i at : ℕ) → 1 ≤ i → i ≤ length us → length us ≤ shape.levels → proper shape.n shape.source (front us i) ≡ true
      → at ≡ place shape.n (front us i) → at * (shape.n - i) ≤ 6840 * 21
  next_few i at one l few t e =
      mul-le at (shape.n - i) 6840 21 (omega (arith, (front_place i one l few t).0)) (omega (arith, shape.most))

  pub all_places : (i at : ℕ) → i ≡ length us → begun shape us ≡ true → proper shape.n shape.source (front us i) ≡ true
      → at ≡ place shape.n (front us i)
      → (Ok at ≡ place_answer shape us) × (sequence_at shape (length us) at ≡ reverse us) × (at < 6840)
  all_places i at end t is_proper e =
      let parts = begun_parts t in
      let whole : front us i ≡ reverse us = ap reverse (take_all i us (omega arith)) in
      let has = (and_parts (has_level shape.levels (length us)) (eqb (get_or us 0 0) shape.source) t).0 in
      let p : proper shape.n shape.source (reverse us) ≡ true = sym (ap (proper shape.n shape.source) whole) ∙ is_proper in
      let f : at ≡ place shape.n (reverse us) = e ∙ ap (place shape.n) whole in
      let seat = front_place i (omega arith) (omega arith) parts.1 is_proper in (
        sym (cond-true (has_level shape.levels (length us) && proper shape.n shape.source (reverse us)) _ _ (and_from _ _ has p) ∙ ap Ok (sym f)),
        ap₂ (λ x y. get_or (sequences shape.n shape.source (x - 1)) y []) (sym end) e ∙ (seat.1 ∙ whole),
        omega (arith, e, seat.0),
      )
