-- A string of up to 542 bytes, with zeros behind it.
use Rattle.std.specs.Prelude.{◌≡◌, ◌≤◌, ℕ, List, take, slice_index}

-- the length of the longest string that a tree hashes: a prefix, a namespace and a share
abbrev pub longest : ℕ
longest = 542

-- the bytes that are used
abbrev pub used_bytes : ℕ → List ℕ → List ℕ
used_bytes len bytes = take len bytes

-- no more bytes are used than the longest string has, and the others are zeros
pub record IsPreimage (len : ℕ) (bytes : List ℕ) : Type 0 where
  pub few : len ≤ longest
  pub zeros : (i : ℕ) → len ≤ i → slice_index bytes i ≡ 0
