-- Blocks and squares as contracts see them.
use Rattle.std.specs.Prelude.{◌≡◌, ◌≤◌, ℕ, ◌*◌, List, length, true, Option, IfSome, ◌<◌, ◌^◌}
use Rattle.std.specs.List.{AllByRecursion}
use Rattle.namespace_id.specs.declared.shares.Share.{Share}
use Rattle.namespace_id.specs.Cells.{is_width}
use Rattle.share_split.specs.Blobs.{NamedBytes, IsNamed}
use Rattle.namespace_id.specs.Bytes.{AreBytes}

-- a block: units of transactions, units of payments for blobs, blobs, and the width that it asks for
pub record BlockParts : Type 0 where
  pub units : List (List ℕ)
  pub pay_units : List (List ℕ)
  pub blobs : List NamedBytes
  pub width : Option ℕ

-- a block of bytes, whose width has two bytes
pub record IsBlock (block : BlockParts) : Type 0 where
  pub units : AllByRecursion AreBytes block.units
  pub pay_units : AllByRecursion AreBytes block.pay_units
  pub blobs : AllByRecursion IsNamed block.blobs
  pub width : IfSome block.width (λ k. k < 2 ^ 16)

-- each blob has a byte
abbrev pub HaveBytes : List NamedBytes → Type 0
HaveBytes blobs = AllByRecursion (λ blob. 1 ≤ length blob.bytes) blobs

-- a width k, and shares, row-major: k * k of a square, 2k by 2k of a grid
pub record SquareShares : Type 0 where
  pub k : ℕ
  pub shares : List Share

-- k is a width, and there are k * k shares
pub record IsSquare (square : SquareShares) : Type 0 where
  pub width : is_width square.k ≡ true
  pub count : length square.shares ≡ square.k * square.k
