-- The hashes that lead from an axis root to a data root: up to `most_hashes`, with zeros behind them.
use Rattle.std.specs.Prelude.{◌≡◌, ◌≤◌, ℕ, suc, List, take, replicate, slice_get, IfSome}
use Rattle.namespace_id.specs.Sizes.{most_depth}

-- the most hashes that lead to a data root: one more than lead to the root over the digests of one kind of axis
abbrev pub most_hashes : ℕ
most_hashes = suc most_depth

-- the hashes that are used
abbrev pub used_hashes : ℕ → List (List ℕ) → List (List ℕ)
used_hashes count hashes = take count hashes

-- at most so many hashes are used, and the others are 32 zeros
pub record IsRootPath (count : ℕ) (hashes : List (List ℕ)) : Type 0 where
  pub few : count ≤ most_hashes
  pub zeros : (i : ℕ) → count ≤ i → IfSome (slice_get hashes i) (λ hash. hash ≡ replicate 32 0)
