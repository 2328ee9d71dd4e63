-- Which places, and which neighboring intervals, are opened together.
use Rattle.std.specs.Prelude.{◌≡◌, ◌<◌, ◌≤◌, ◌+◌, ◌%◌, ℕ, List, [], ◌∷◌, IsTrue}
use Rattle.nmt_tree.specs.Roots.{is_leaf_count}

-- places ascend from `low` on, and are below `high`
abbrev pub AreAscending : ℕ → ℕ → List ℕ → Type 0
AreAscending low high [] = Unit {0}
AreAscending low high (pos ∷ places) = (low ≤ pos) × (pos < high) × AreAscending (pos + 1) high places

-- neighboring intervals from a place on, each a power of two of places that begins at a multiple of its size, end at
-- or before `high`
abbrev pub AreAligned : ℕ → ℕ → List ℕ → Type 0
AreAligned from high [] = from ≤ high
AreAligned from high (size ∷ sizes) =
    IsTrue (is_leaf_count size) × (from % size ≡ 0) × AreAligned (from + size) high sizes
