-- A word that has the bytes of a text, one by one, is that text.
use Rattle.std.proofs.Common.{◌≡◌, ℕ, ◌+◌, ◌<◌, ◌≤◌, List, [], ◌∷◌, length, get_or, drop, ap, ◌∙◌}
use Rattle.std.proofs.lemmas.List.{drop_more, drop_all}
use Rattle.words.specs.Words.{Word}

-- the bytes of w from place i on are those of the text, and there are no more
abbrev pub Spells : Word → ℕ → List ℕ → Type 0
Spells w i [] = length w ≤ i
Spells w i (b ∷ bs) = (i < length w) × (get_or w i 0 ≡ b) × Spells w (i + 1) bs

spelled_from : (w : Word) (i : ℕ) (text : List ℕ) → Spells w i text → drop i w ≡ text
spelled_from w i [] h = drop_all i w h
spelled_from w i (b ∷ bs) h =
    drop_more w i 0 h.0 ∙ ap (λ x. x ∷ drop (i + 1) w) h.1 ∙ ap (λ x. b ∷ x) (spelled_from w (i + 1) bs h.2)

pub spelled : (w : Word) (text : List ℕ) → Spells w 0 text → w ≡ text
spelled w text h = spelled_from w 0 text h
