-- The nodes of an opening in an array: those that are used, with zeros behind them.
use Rattle.std.specs.Prelude.{◌≡◌, ◌≤◌, ℕ, List, take, replicate, slice_get, IfSome}
use Rattle.namespace_id.specs.declared.digests.Digest.{Digest}

-- the nodes that are used
abbrev pub used_nodes : ℕ → List Digest → List Digest
used_nodes count nodes = take count nodes

-- at most `limit` nodes are used, and the others are 90 zeros
pub record AreUsed (limit count : ℕ) (nodes : List Digest) : Type 0 where
  pub few : count ≤ limit
  pub zeros : (i : ℕ) → count ≤ i → IfSome (slice_get nodes i) (λ node. node ≡ record { 0 = replicate 90 0 })
