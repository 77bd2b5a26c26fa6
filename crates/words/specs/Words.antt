-- The words of a line. A line is a list of bytes, without the byte 10 that ends it.
use Rattle.std.specs.Prelude.{ℕ, Bool, ◌||◌, not, List, map, filter, length, ◌==◌}
use Rattle.std.specs.Borrow.{Bor}
use Rattle.std.specs.List.{before_first, slice_split}

-- a word is its bytes
abbrev pub Word : Type 0
Word = List ℕ

-- the blanks are the space, the tab and the byte 13, which some editors write at the end of a line
abbrev pub blank : ℕ → Bool
blank b = (b == 32 || b == 9) || b == 13

-- what stands before the first `#`, byte 35
abbrev pub uncommented : List ℕ → List ℕ
uncommented bs = before_first (λ b. b == 35) bs

-- a text cut at each blank: between two blanks in a row there is an empty piece
abbrev pub pieces : List ℕ → List Word
pieces bs = slice_split blank bs

-- the pieces that are not empty
abbrev pub filled : List Word → List Word
filled ps = filter (λ p. not (length p == 0)) ps

-- the words of a line
abbrev pub words : List ℕ → List Word
words line = filled (pieces (uncommented line))

-- the words that a list of references refers to
abbrev pub texts : List (Bor Word) → List Word
texts ws = map (λ w. w.now) ws
