-- What each byte of a text adds to its pieces and its words.
use Rattle.std.proofs.Common.{◌≡◌, ℕ, ◌+◌, ◌<◌, ◌≤◌, Bool, true, false, cond, not, ◌==◌, List, [], ◌∷◌, ◌++◌, length, get_or, drop, sym, refl, ap, ◌∙◌, append_assoc, append-nil, arith}
use Rattle.std.specs.List.{between, onto_first}
use Rattle.std.proofs.lemmas.List.Edits.{between_none, between_more}
use Rattle.std.proofs.lemmas.List.{at_drop_more, at_drop_all}
use Rattle.std.proofs.lemmas.Bool.{cond-true, cond-false}
use Rattle.words.specs.Words.{Word, blank, pieces, filled}

-- the bytes w in front of the first piece
abbrev pub onward : List ℕ → List Word → List Word
onward w [] = w ∷ []
onward w (p ∷ ps) = (w ++ p) ∷ ps

onward_onto : (w : List ℕ) (b : ℕ) (ps : List Word) → onward w (onto_first b ps) ≡ onward (w ++ (b ∷ [])) ps
onward_onto w b [] = refl
onward_onto w b (p ∷ ps) = ap (λ x. x ∷ ps) (sym (append_assoc w (b ∷ []) p))

onto_onward : (b : ℕ) (ps : List Word) → onward [] (onto_first b ps) ≡ onto_first b ps
onto_onward b [] = refl
onto_onward b (p ∷ ps) = refl

onward_none : (bs : List ℕ) → onward [] (pieces bs) ≡ pieces bs
onward_none [] = refl
onward_none (b ∷ bs) = go (blank b)
  where
    go : (t : Bool) → onward [] (cond t ([] ∷ pieces bs) (onto_first b (pieces bs))) ≡ cond t ([] ∷ pieces bs) (onto_first b (pieces bs))
    go true = refl
    go false = onto_onward b (pieces bs)

-- a piece that is not empty is a word
pub filled_one : (w : Word) → length w == 0 ≡ false → filled (w ∷ []) ≡ w ∷ []
filled_one w e = ap (λ x. cond (not x) (w ∷ []) []) e

filled_cons : (w : Word) (ps : List Word) → filled (w ∷ ps) ≡ filled (w ∷ []) ++ filled ps
filled_cons w ps = by (length w == 0)
  where
    by : (x : Bool) → cond (not x) (w ∷ filled ps) (filled ps) ≡ cond (not x) (w ∷ []) [] ++ filled ps
    by true = refl
    by false = refl

-- the words from the byte at i on, with the bytes from start to i before it
abbrev left : List ℕ → ℕ → ℕ → List Word
left text start i = filled (onward (between start i text) (pieces (drop i text)))

-- ws are the words that end before start, and the next one begins there
pub record Found (text : List ℕ) (ws : List Word) (start i : ℕ) : Type 0 where
  pub order : start ≤ i
  pub whole : filled (pieces text) ≡ ws ++ left text start i

pub found_none : (text : List ℕ) → Found text [] 0 0
found_none text = record { order = omega arith; whole = ap filled (sym (onward_none text)) }

module _ {text : List ℕ} {ws : List Word} {start i : ℕ} (h : Found text ws start i) where
  w : Word
  w = between start i text

  ps : List Word
  ps = pieces (drop (i + 1) text)

  pub found_blank : i < length text → true ≡ blank (get_or text i 0) → (ws' : List Word) → ws' ≡ ws ++ filled (between start i text ∷ []) → Found text ws' (i + 1) (i + 1)
  unfolding w ps
  found_blank lt e ws' more = record {
    order = omega arith;
    whole =
        h.whole
        ∙ ap (λ qs. ws ++ filled (onward w qs)) (at_drop_more pieces text i 0 lt ∙ cond-true _ _ _ (sym e))
        ∙ ap (λ v. ws ++ filled (v ∷ ps)) (append-nil w)
        ∙ ap (λ vs. ws ++ vs) (filled_cons w ps)
        ∙ sym (append_assoc ws (filled (w ∷ [])) (filled ps))
        ∙ ap (λ vs. vs ++ filled ps) (sym more)
        ∙ ap (λ qs. ws' ++ filled qs) (sym (onward_none (drop (i + 1) text)))
        ∙ ap (λ v. ws' ++ filled (onward v ps)) (sym (between_none text (i + 1)));
  }

  pub found_byte : i < length text → false ≡ blank (get_or text i 0) → Found text ws start (i + 1)
  unfolding w ps
  found_byte lt e = record {
    order = omega (arith, h.order);
    whole =
        h.whole
        ∙ ap (λ qs. ws ++ filled (onward w qs)) (at_drop_more pieces text i 0 lt ∙ cond-false _ _ _ (sym e))
        ∙ ap (λ qs. ws ++ filled qs) (onward_onto w (get_or text i 0) ps)
        ∙ ap (λ v. ws ++ filled (onward v ps)) (sym (between_more text start i 0 h.order lt));
  }

  pub found_all : i ≡ length text → filled (pieces text) ≡ ws ++ filled (between start (length text) text ∷ [])
  unfolding w ps
  found_all e =
      h.whole
      ∙ ap (λ qs. ws ++ filled (onward w qs)) (at_drop_all pieces text i (omega arith))
      ∙ ap (λ v. ws ++ filled (v ∷ [])) (append-nil w)
      ∙ ap (λ n. ws ++ filled (between start n text ∷ [])) e
