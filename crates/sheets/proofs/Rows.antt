-- What each word adds to a row of words that are read by one rule.
use Rattle.std.proofs.Common.{◌≡◌, ℕ, suc, ◌+◌, ◌-◌, ◌<◌, List, [], ◌∷◌, ◌++◌, length, drop, get_or, length-drop, Ok, Result, sym, ap, ◌∙◌, arith, Bor}
use lib.ListN.{length-map}
use Rattle.std.specs.List.{enumerate_from}
use Rattle.std.proofs.lemmas.Grind.{common_steps}
use Rattle.std.proofs.lemmas.List.{drop_more, get_or-drop, get_or-map}
use Rattle.std.proofs.lemmas.List.FromFn.{get_or-enumerate_from, length-enumerate_from}
use Rattle.fields.specs.declared.forms.Misread.{Misread}
use Rattle.fields.specs.Steps.{and_then, Present, at, from}
use Rattle.words.specs.Words.{Word, texts}

-- xs is what the words from `first` on gave, before word i
pub record Sofar {A : Type 0} (rule : ℕ → Word → Result A Misread) (ws : List (Bor Word)) (first : ℕ) (xs : List A) (i : ℕ) : Type 0 where
  pub whole : from rule (texts ws) first ≡ and_then (from rule (texts ws) i) λ rest. Ok (xs ++ rest)

pub sofar_more : {A : Type 0} {rule : ℕ → Word → Result A Misread} {ws : List (Bor Word)} {first : ℕ} {xs : List A} {i : ℕ} {x : A} → Sofar rule ws first xs i → Present ws i → Ok x ≡ at rule (texts ws) i → Sofar rule ws first (xs ++ (x ∷ [])) (i + 1)
sofar_more {ws} {i} h here e = record {
  whole =
      let lt : i - 1 < length (texts ws) = simp length-map (omega arith) in
      let next : suc i ≡ i + 1 = omega arith in
      let past : i - 1 + 1 ≡ i + 1 - 1 = omega arith in
      let more = drop_more (texts ws) (i - 1) [] lt in
      let before = h.whole in
      grind (arith, common_steps);
}

-- the words from `first` on, each with its place, which is its number less one
abbrev pub placed : List (Bor Word) → ℕ → List (ℕ × Bor Word)
placed ws first = drop (first - 1) (enumerate_from 0 ws)

length-placed : (ws : List (Bor Word)) (first : ℕ) → length (placed ws first) ≡ length ws - (first - 1)
length-placed ws first =
    length-drop (first - 1) (enumerate_from 0 ws)
    ∙ ap (λ n. n - (first - 1)) (length-enumerate_from 0 ws)

module _ (ws : List (Bor Word)) (first n i : ℕ) (w : Bor Word) (some : 0 < first) (h : (n < length (placed ws first)) × ((i, w) ≡ get_or (placed ws first) n (i, w))) where
  pub placed_present : Present ws (first + n)
  placed_present =
      let size = length-placed ws first in
      let lt = h.0 in
      (omega arith, omega arith)

  pub placed_reads : {A : Type 0} (rule : ℕ → Word → Result A Misread) → rule (i + 1) w.now ≡ at rule (texts ws) (first + n)
  placed_reads rule =
      let here = placed_present in
      let lt : first - 1 + n < length ws = omega arith in
      let e : ◌≡◌ {A = ℕ × Bor Word} (i, w) (0 + (first - 1 + n), get_or ws (first - 1 + n) w) =
      h.1
      ∙ get_or-drop (first - 1) (enumerate_from 0 ws) n (i, w)
      ∙ get_or-enumerate_from 0 ws (first - 1 + n) (i, w) lt in
      let place : i ≡ 0 + (first - 1 + n) = ap (λ (p : ℕ × Bor Word). p.0) e in
      let number : i + 1 ≡ first + n = omega arith in
      let index : first - 1 + n ≡ first + n - 1 = omega arith in
      ap (λ j. rule j w.now) number
      ∙ ap (λ (p : ℕ × Bor Word). rule (first + n) p.1.now) e
      ∙ ap (rule (first + n)) (sym (get_or-map (λ v. v.now) ws (first - 1 + n) w [] lt) ∙ ap (λ j. get_or (texts ws) j []) index)
