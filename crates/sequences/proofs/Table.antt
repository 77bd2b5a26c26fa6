-- A rule of a table is proved at all of its entries by one test that computes over the whole table.
use Rattle.std.proofs.Common.{◌≡◌, ℕ, zero, suc, ◌+◌, ◌-◌, ◌<◌, ◌≤◌, Bool, true, ◌&&◌, eqb, List, [], ◌∷◌, length, get_or, sym, ◌∙◌, subst, add-zero, add-suc, suc-add, zero-add, arith}
use Rattle.std.proofs.lemmas.Bool.{and_parts, eqb-true}
use Rattle.sequences.specs.Tables.{each, ruled, is_width}
use Rattle.sequences.specs.Widths.{width}

from : {X : Type 0} (f : ℕ → X → Bool) (d : X) (xs : List X) (i : ℕ) → each f i xs ≡ true → (k : ℕ) → k < length xs → f (i + k) (get_or xs k d) ≡ true
from f d [] i t k h = absurd (omega arith)
from f d (x ∷ xs) i t zero h = rw add-zero (and_parts (f i x) (each f (suc i) xs) t).0
from f d (x ∷ xs) i t (suc k) h =
    subst (λ (m : ℕ). f m (get_or xs k d) ≡ true) (suc-add i k ∙ sym (add-suc i k))
    (from f d xs (suc i) (and_parts (f i x) (each f (suc i) xs) t).1 k (omega arith))

pub at : {X : Type 0} (f : ℕ → X → Bool) (d : X) (xs : List X) → each f 0 xs ≡ true → (k : ℕ) → k < length xs → f k (get_or xs k d) ≡ true
at f d xs t k h = subst (λ (m : ℕ). f m (get_or xs k d) ≡ true) (zero-add k) (from f d xs 0 t k h)

pub entry : (rule : ℕ → ℕ → ℕ → Bool) (high wide : ℕ) (rows : List (List ℕ)) → ruled rule high wide rows ≡ true → (i j : ℕ) → i < high → j < wide
    → rule i j (get_or (get_or rows i []) j 0) ≡ true
entry rule high wide rows t i j li lj =
    let parts = and_parts (eqb (length rows) high) _ t in
    let rows_long = eqb-true (length rows) high parts.0 in
    let row = at (λ i row. eqb (length row) wide && each (rule i) 0 row) [] rows parts.1 i (omega arith) in
    let row_parts = and_parts (eqb (length (get_or rows i [])) wide) _ row in
    let row_long = eqb-true (length (get_or rows i [])) wide row_parts.0 in
    at (rule i) 0 (get_or rows i []) row_parts.1 j (omega arith)

pub width_entry : (rows : List (List ℕ)) → ruled is_width 18 4 rows ≡ true → (n k : ℕ) → 4 ≤ n → n ≤ 21 → 1 ≤ k → k ≤ 4
    → get_or (get_or rows (n - 4) []) (k - 1) 0 ≡ width n k
width_entry rows t n k a b p q =
    let e = eqb-true _ _ (entry is_width 18 4 rows t (n - 4) (k - 1) (omega arith) (omega arith)) in
    let z : n - 4 + 4 ≡ n = omega arith in
    rw z at e
