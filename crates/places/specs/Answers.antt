-- What the functions of this layer answer, granted or refused.
use Rattle.std.specs.Prelude.{ℕ, ◌+◌, ◌-◌, ◌*◌, Bool, cond, ◌&&◌, List, [], reverse, length, Ok, Err, Result, ◌==◌, nat_lt, slice_index, slice_index_or}
use Rattle.places.specs.declared.fault.PlaceFault.{PlaceFault}
use Rattle.places.specs.declared.fault.PlaceFault.TheVariants.{Units, Source, Absent}
use Rattle.places.specs.declared.shape.Shape.{Shape}
use Rattle.places.specs.Numbers.{units_wrong, source_wrong, has_level}
use Rattle.sequences.specs.Sequences.{absent, level, place, proper, last_of, parent_of}
use Rattle.sequences.specs.Sizes.{first_entry}
use Rattle.sequences.specs.Widths.{width}

-- the answer where a test passes; else there is no such unit, level or place
abbrev pub if_there : {X : Type 0} → Bool → X → Result X PlaceFault
if_there there x = cond there (Ok x) (Err Absent)

-- the numbers of a shape: n, source and levels
abbrev pub shape_parts : Shape → ℕ × ℕ × ℕ
shape_parts shape = (shape.n, shape.source, shape.levels)

-- trees have 1 to 4 levels
abbrev pub shape_answer : ℕ → ℕ → ℕ → Result (ℕ × ℕ × ℕ) PlaceFault
shape_answer n source levels =
    cond (units_wrong n) (Err Units)
    (cond (source_wrong n source) (Err Source)
    (if_there (has_level 4 levels) (n, source, levels)))

abbrev pub width_answer : ℕ → ℕ → ℕ → Result ℕ PlaceFault
width_answer n h k = if_there (has_level h k) (width n k)

-- in trees of h levels, level k exists and has a place i
abbrev pub has_place : ℕ → ℕ → ℕ → ℕ → Bool
has_place n h k i = has_level h k && nat_lt i (width n k)

-- the sequence at place i of level k, its last unit first
abbrev pub sequence_at : ℕ → ℕ → ℕ → ℕ → List ℕ
sequence_at n s k i = slice_index_or (level n s k) i []

-- the units of the sequence at a place, the source first
abbrev pub sequence_answer : ℕ → ℕ → ℕ → ℕ → ℕ → Result (List ℕ) PlaceFault
sequence_answer n s h k i = if_there (has_place n h k i) (reverse (sequence_at n s k i))

-- there is a level of as many units, and the first is the source
abbrev pub begun : ℕ → ℕ → List ℕ → Bool
begun s h us = has_level h (length us) && slice_index us 0 == s

-- the place of a sequence that is given with the source first
abbrev pub place_answer : ℕ → ℕ → ℕ → List ℕ → Result ℕ PlaceFault
place_answer n s h us = if_there (has_level h (length us) && proper n s (reverse us)) (place n (reverse us))

-- the last unit and the parent's place; the root has no way back
abbrev pub back_answer : ℕ → ℕ → ℕ → ℕ → ℕ → Result (ℕ × ℕ) PlaceFault
back_answer n s h k i =
    if_there (nat_lt 1 k && has_place n h k i) (last_of (sequence_at n s k i), place n (parent_of (sequence_at n s k i)))

-- child j ends in the j-th lowest absent unit and has place i (n - k) + j of level k + 1
abbrev pub child_answer : ℕ → ℕ → ℕ → ℕ → ℕ → ℕ → Result (ℕ × ℕ) PlaceFault
child_answer n s h k i j =
    if_there (has_place n h k i && (nat_lt k h && nat_lt j (n - k))) (slice_index (absent n (sequence_at n s k i)) j, i * (n - k) + j)

-- where level k of unit u begins
abbrev pub entry_answer : ℕ → ℕ → ℕ → ℕ → Result ℕ PlaceFault
entry_answer n h u k = if_there (nat_lt u n && has_level h k) (first_entry n h u k)
