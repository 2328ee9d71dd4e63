-- How many cells of each row and column are known, and the rows and columns that came to have k.
use Rattle.std.specs.Prelude.{◌≡◌, ◌≢◌, ℕ, ◌+◌, ◌<◌, ◌≤◌, List, length, get_or, drop}
use Rattle.std.specs.List.{Contains}
use Rattle.namespace_id.specs.declared.cells.Axis.{Axis}
use Rattle.namespace_id.specs.declared.cells.Axis.TheVariants.{Row, Col}
use Rattle.repair_queue.specs.declared.counts.Counts.{Counts}
use Rattle.repair_queue.specs.Counting.{low}

-- a number for each row and column
abbrev pub Numbers : Type 0
Numbers = Axis → ℕ → ℕ

-- the numbers, by the list of each kind
abbrev pub numbers_of : List ℕ → List ℕ → Numbers
numbers_of rows cols Row i = get_or rows i 0
numbers_of rows cols Col i = get_or cols i 0

-- how many cells of a row or a column were counted
abbrev pub count_of : Counts → Numbers
count_of c = numbers_of c.rows.items c.cols.items

-- the rows and columns that came to have k, and weren't taken yet
abbrev pub pending : Counts → List (Axis × ℕ)
pending c = drop c.next c.queue.items

-- one number is greater by one, and no other changed
pub record IsRaised (old new : Numbers) (axis : Axis) (i : ℕ) : Type 0 where
  pub here : new axis i ≡ old axis i + 1
  pub elsewhere : (other : Axis) (j : ℕ) → ((other ≡ axis) × (j ≡ i) → ⊥) → new other j ≡ old other j

-- each row or column that came to have k waits, and so do those before
pub record AreQueued (k : ℕ) (old new : Numbers) (before after : List (Axis × ℕ)) : Type 0 where
  pub stay : (x : Axis × ℕ) → Contains before x → Contains after x
  pub come : (axis : Axis) (i : ℕ) → old axis i < k → k ≤ new axis i → Contains after (axis, i)

-- in the lists of numbers one is greater by one, and one less is below each number that it came to be
pub record IsOneMore (rows cols new_rows new_cols : List ℕ) (axis : Axis) (i more : ℕ) : Type 0 where
  pub row_count : length new_rows ≡ length rows
  pub col_count : length new_cols ≡ length cols
  pub falls : (k : ℕ) → more ≡ k → low k new_rows + low k new_cols + 1 ≡ low k rows + low k cols
  pub stays : (k : ℕ) → more ≢ k → low k new_rows + low k new_cols ≡ low k rows + low k cols
  pub raised : IsRaised (numbers_of rows cols) (numbers_of new_rows new_cols) axis i
