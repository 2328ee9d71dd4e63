-- Values of one size, one after another.
use Rattle.std.specs.Prelude.{ℕ, zero, suc, List, [], ◌∷◌, drop}

-- so many values, each read of bytes from which on it lies, and each so many bytes behind the one before
unfoldable pub entries : {A : Type 0} → (List ℕ → A) → ℕ → ℕ → List ℕ → List A
entries value size zero bytes = []
entries value size (suc count) bytes = value bytes ∷ entries value size count (drop size bytes)
