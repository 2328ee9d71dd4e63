-- Shares that are blobs, or units, and nothing else.
use Rattle.std.specs.Prelude.{◌≡◌, ◌≢◌, ◌≤◌, ◌⊎◌, ℕ, true, List, [], ◌∷◌, length, IfSome}
use Rattle.std.specs.List.{flat_map, AllByRecursion}
use Rattle.std.specs.Int.{w32, to_be_bytes}
use Rattle.namespace_id.specs.declared.namespaces.Namespace.{Namespace}
use Rattle.namespace_id.specs.declared.shares.Share.{Share}
use Rattle.namespace_id.specs.Bytes.{AreBytes, IsString}
use Rattle.namespace_id.specs.Names.{IsNamespace}
use Rattle.share_split.specs.Blobs.{NamedBytes, signer_size, max_sequence_length, sequence_share, blob_shares_of}
use Rattle.share_split.specs.Units.{units_text, compact_shares}

-- a padding share of a version: the first of a sequence of length 0, and zeros
abbrev pub padding_of : ℕ → Namespace → Share
padding_of version name = sequence_share name version true (to_be_bytes w32 0) []

-- the padding share that is laid, which has version 0
abbrev pub padding_share : Namespace → Share
padding_share name = padding_of 0 name

-- ---- blobs

-- what stands in a list of blobs' shares: a padding share, or the shares of a blob
pub data Piece : Type 0 where
  padding : (version : ℕ) (name : Namespace) → Piece
  blob : (named : NamedBytes) → Piece

-- the shares of such a piece
abbrev pub piece_shares : Piece → List Share
piece_shares (padding version name) = padding_of version name ∷ []
piece_shares (blob named) = blob_shares_of named.namespace named.signer named.bytes

-- the blob that it is, none for padding
abbrev pub piece_blobs : Piece → List NamedBytes
piece_blobs (padding version name) = []
piece_blobs (blob named) = named ∷ []

-- a blob has bytes, as many as four bytes state, and a signer of 20 bytes, if it has one
pub record IsBlob (named : NamedBytes) : Type 0 where
  pub name : IsNamespace named.namespace
  pub some : named.bytes ≢ []
  pub few : length named.bytes ≤ max_sequence_length
  pub fits : AreBytes named.bytes
  pub signer : IfSome named.signer (IsString signer_size)

-- a padding share has version 0 or 1 and a namespace, and a blob is one
abbrev pub IsPiece : Piece → Type 0
IsPiece (padding version name) = (version ≤ 1) × IsNamespace name
IsPiece (blob named) = IsBlob named

-- shares that are these blobs, in their order, with padding shares before, between and behind them
pub record AreBlobs (shares : List Share) (blobs : List NamedBytes) : Type 0 where
  pub pieces : List Piece
  pub are_pieces : AllByRecursion IsPiece pieces
  pub parts : shares ≡ flat_map piece_shares pieces
  pub shown : blobs ≡ flat_map piece_blobs pieces

-- ---- units

-- shares that are the one compact sequence of these units
pub record AreCompact (shares : List Share) (units : List (List ℕ)) : Type 0 where
  pub name : Namespace
  pub name_is : IsNamespace name
  pub few : length (units_text units) ≤ max_sequence_length
  pub fits : AllByRecursion AreBytes units
  pub parts : shares ≡ compact_shares name units

-- shares that are these units: none, or their compact sequence, which has length 0 for no units
abbrev pub AreUnits : List Share → List (List ℕ) → Type 0
AreUnits shares units = ((shares ≡ []) × (units ≡ [])) ⊎ AreCompact shares units
