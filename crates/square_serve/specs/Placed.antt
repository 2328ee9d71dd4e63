-- Entries that stand where one is wanted.
use Rattle.std.specs.Prelude.{◌≡◌, ◌<◌, ℕ, ◌==◌, ◌&&◌, List, [], ◌∷◌, Bool, true, false}
use Rattle.axis_roots.specs.declared.answers.NsEntry.{NsEntry}
use Rattle.square_serve.specs.Answers.{is_placed}

-- whether entries begin with that of a row, in the columns of the original square
abbrev pub stands_at : ℕ → ℕ → List NsEntry → Bool
stands_at k row [] = false
stands_at k row (entry ∷ rest) = (entry.row == row) && is_placed k entry.found

-- an entry stands in a row and the columns of the original square
pub record IsPlacedEntry (k : ℕ) (entry : NsEntry) : Type 0 where
  pub row : entry.row < k
  pub found : is_placed k entry.found ≡ true
