-- The namespaces of the digest over some neighbors among leaves (Celestia specifications, "Data Structures").
use Rattle.std.specs.Prelude.{◌≡◌, ℕ, ◌+◌, ◌^◌, ◌≤◌, ◌<◌, List, length, get_or, true, false}
use Rattle.namespace_id.specs.declared.namespaces.Namespace.{Namespace}
use Rattle.namespace_id.specs.declared.digests.Digest.{Digest}
use Rattle.namespace_id.specs.Names.{is_at_most, is_parity, parity}
use Rattle.namespace_id.specs.Digests.{least_of, greatest_of}

-- the namespace at a place of a list, PARITY where there is none
abbrev pub name_at : List Namespace → ℕ → Namespace
name_at names i = get_or names i parity

-- a digest over 2 ^ depth leaves from `start` on: its least namespace is that of the first of them, its
-- greatest is that of one of them, and is PARITY only where its least is
pub record IsOver (names : List Namespace) (start depth : ℕ) (digest : Digest) : Type 0 where
  pub size : length digest.0 ≡ 90
  pub least : least_of digest ≡ name_at names start
  pub place : ℕ
  pub low : start ≤ place
  pub high : place < start + 2 ^ depth
  pub greatest : greatest_of digest ≡ name_at names place
  pub parity : is_parity (greatest_of digest) ≡ true → is_parity (least_of digest) ≡ true

-- no namespace of these leaves but PARITY is above the digest's greatest
abbrev pub IsAbove : List Namespace → ℕ → ℕ → Digest → Type 0
IsAbove names start depth digest =
    (i : ℕ) → start ≤ i → i < start + 2 ^ depth → is_parity (name_at names i) ≡ false
    → is_at_most (name_at names i) (greatest_of digest) ≡ true
