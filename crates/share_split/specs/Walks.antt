-- What a list of shares is read as, and the first check that fails, share by share (docs/RULES.md,
-- "Reading shares").
use Rattle.std.specs.Prelude.{◌≡◌, ◌⊎◌, ℕ, zero, suc, ◌+◌, ◌-◌, ◌/◌, ◌%◌, ◌^◌, ◌==◌, ◌&&◌, nat_le, nat_lt, not, Bool, List, [], ◌∷◌, ◌++◌, length, take, drop, slice_index, Option, Some, None, Result, Ok, Err, if◌then◌else◌}
use Rattle.std.specs.Int.{w32, from_be_bytes}
use Rattle.std.specs.Str.{bytes_eq}
use Rattle.std.specs.Option.{option_map_or}
use Rattle.namespace_id.specs.declared.namespaces.Namespace.{Namespace}
use Rattle.namespace_id.specs.declared.shares.Share.{Share}
use Rattle.namespace_id.specs.Names.{is_zeros}
use Rattle.namespace_id.specs.Shares.{name_in}
use Rattle.namespace_id.specs.Sizes.{namespace_size}
use Rattle.proto_fields.specs.Varints.{varint_in}
use Rattle.share_split.specs.declared.joining.JoinError.{JoinError}
use Rattle.share_split.specs.declared.joining.JoinError.TheVariants.{NoStart, Short, BadVersion, NonZeroFill, BadVarint, BadReserved, MixedNamespace, NoMemory}
use Rattle.share_split.specs.declared.walking.Form.{Form}
use Rattle.share_split.specs.declared.walking.Form.TheVariants.{Blobs, Units}
use Rattle.share_split.specs.Blobs.{length_place, signer_size, signer_bytes, NamedBytes}
use Rattle.share_split.specs.Units.{first_compact_content, later_compact_content, starts_from, reserved_of}

-- ---- the fields of a share, behind its namespace

-- the share version: the upper seven bits of the info byte
abbrev pub version_in : Share → ℕ
version_in share = slice_index share.0 namespace_size / 2

-- whether it is the first share of a sequence
abbrev pub is_start : Share → Bool
is_start share = slice_index share.0 namespace_size % 2 == 1

-- the length of the sequence that a first share begins
abbrev pub size_in : Share → ℕ
size_in share = from_be_bytes w32 (take 4 (drop length_place share.0))

-- the bytes after the namespace, the info byte and, in a first share, the length
abbrev pub share_fields : Share → List ℕ
share_fields share = drop (if is_start share then length_place + 4 else length_place) share.0

-- whether it is the first share of a signed blob; a share of version 1 that begins a sequence of length 0 is
-- padding, and has no signer
abbrev pub is_signed : Share → Bool
is_signed share = is_start share && version_in share == 1 && not (size_in share == 0)

-- the signer of the blob that a first share begins, if there is one
abbrev pub signer_in : Share → Option (List ℕ)
signer_in share = if is_signed share then Some (take signer_size (share_fields share)) else None

-- how many bytes come before the content: the signer in the shares of blobs, four reserved bytes in compact shares
abbrev pub bytes_before : Form → Share → ℕ
bytes_before Blobs share = length (signer_bytes (signer_in share))
bytes_before Units share = 4

-- the content of a share of this form
abbrev pub content_in : Form → Share → List ℕ
content_in form share = drop (bytes_before form share) (share_fields share)

-- the number that the reserved bytes of a compact share state
abbrev pub reserved_in : Share → ℕ
reserved_in share = from_be_bytes w32 (take 4 (share_fields share))

-- ---- sequences

-- a sequence as far as its shares were read: the number of its first share, its namespace, the version of its
-- shares, its signer, if it has one, its length and its content so far
pub record Sequence : Type 0 where
  pub first : ℕ
  pub name : Namespace
  pub version : ℕ
  pub signer : Option (List ℕ)
  pub size : ℕ
  pub content : List ℕ

-- how many bytes of content are still to come
abbrev pub missing : Sequence → ℕ
missing s = s.size - length s.content

-- whether no content of a sequence is still to come
abbrev pub is_complete : Sequence → Bool
is_complete s = nat_le s.size (length s.content)

-- the sequence that share i begins, and one that a share goes on
abbrev pub begun_by : Form → ℕ → Share → Sequence
begun_by form i share = record {
  first = i;
  name = name_in share;
  version = version_in share;
  signer = signer_in share;
  size = size_in share;
  content = take (size_in share) (content_in form share);
}

-- a sequence with the content of one more share
abbrev pub extended_by : Form → Sequence → Share → Sequence
extended_by form s share = record {
  first = s.first;
  name = s.name;
  version = s.version;
  signer = s.signer;
  size = s.size;
  content = s.content ++ take (missing s) (content_in form share);
}

-- ---- the checks of share i, in their order; the first that fails

-- whether a sequence of this form may have this version: 0, and in the shares of blobs 1 too
abbrev pub is_version : Form → ℕ → Bool
is_version Blobs version = nat_le version 1
is_version Units version = version == 0

-- whether all bytes after the last one of content are zero, where so many are to come
abbrev pub is_filled : Form → ℕ → Share → Bool
is_filled form bytes share = is_zeros (drop bytes (content_in form share))

-- where no sequence is open
abbrev pub first_refusal : Form → ℕ → Share → Option JoinError
first_refusal form i share =
    if not (is_version form (version_in share)) then Some (BadVersion i) else
    (if not (is_start share) then Some (NoStart i) else
    (if is_filled form (size_in share) share then None else Some (NonZeroFill i)))

-- where this one is open
abbrev pub later_refusal : Form → ℕ → Sequence → Share → Option JoinError
later_refusal form i s share =
    if not (version_in share == s.version) then Some (BadVersion i) else
    (if not (bytes_eq (name_in share).0 s.name.0) then Some (MixedNamespace i) else
    (if is_start share then Some (Short s.first) else
    (if is_filled form (missing s) share then None else Some (NonZeroFill i))))

-- where the one sequence of the list is complete
abbrev pub surplus_refusal : ℕ → Share → JoinError
surplus_refusal i share = if version_in share == 0 then NoStart i else BadVersion i

-- ---- blobs

-- the blob that a complete sequence is: none where its length is 0, which is that of padding
abbrev pub with_blob : Sequence → Result (List NamedBytes) JoinError → Result (List NamedBytes) JoinError
with_blob s (Err e) = Err e
with_blob s (Ok blobs) =
    Ok (if s.size == 0 then blobs else
    record { namespace = s.name; bytes = s.content; signer = s.signer } ∷ blobs)

-- what is checked of share i, and what is read of its sequence then, where one may be open
abbrev pub blob_share_refusal : ℕ → Option Sequence → Share → Option JoinError
blob_share_refusal i None share = first_refusal Blobs i share
blob_share_refusal i (Some s) share = later_refusal Blobs i s share

-- the sequence after share i, where one may be open
abbrev pub sequence_after : Form → ℕ → Option Sequence → Share → Sequence
sequence_after form i None share = begun_by form i share
sequence_after form i (Some s) share = extended_by form s share

-- the blobs that shares are, from share i on, where a sequence may be open
unfoldable pub blobs_from : ℕ → Option Sequence → List Share → Result (List NamedBytes) JoinError
blobs_from i None [] = Ok []
blobs_from i (Some s) [] = Err (Short s.first)
blobs_from i so_far (share ∷ shares) =
    option_map_or Err (blob_share_refusal i so_far share)
    (if is_complete (sequence_after Blobs i so_far share)
    then with_blob (sequence_after Blobs i so_far share) (blobs_from (suc i) None shares)
    else blobs_from (suc i) (Some (sequence_after Blobs i so_far share)) shares)

-- the blobs that shares are, or the first check that fails
abbrev pub blobs_joined : List Share → Result (List NamedBytes) JoinError
blobs_joined shares = blobs_from 0 None shares

-- ---- the one sequence of units

-- what is checked of share i of a compact sequence, where it may have begun
abbrev pub unit_refusal : ℕ → Option Sequence → Share → Option JoinError
unit_refusal i None share = first_refusal Units i share
unit_refusal i (Some s) share =
    if is_complete s then Some (surplus_refusal i share) else later_refusal Units i s share

-- the compact sequence that shares are, from share i on, as far as it was read; none for no shares
unfoldable pub sequence_from : ℕ → Option Sequence → List Share → Result (Option Sequence) JoinError
sequence_from i None [] = Ok None
sequence_from i (Some s) [] = if is_complete s then Ok (Some s) else Err (Short s.first)
sequence_from i so_far (share ∷ shares) =
    option_map_or Err (unit_refusal i so_far share)
    (sequence_from (suc i) (Some (sequence_after Units i so_far share)) shares)

-- ---- the units in its content

-- a unit at the front, whose length has up to 32 bits, and how many bytes it takes with its length
abbrev pub unit_of : ℕ → Option (ℕ × List ℕ) → Option (List ℕ × ℕ)
unit_of all None = None
unit_of all (Some length_read) =
    if nat_lt length_read.0 (2 ^ 32) && nat_le length_read.0 (length length_read.1)
    then Some (take length_read.0 length_read.1, all - length length_read.1 + length_read.0)
    else None

-- the unit at the front of a text, and how many bytes it takes with its length
abbrev pub text_unit : List ℕ → Option (List ℕ × ℕ)
text_unit bytes = unit_of (length bytes) (varint_in 5 bytes)

-- a unit in front of those that follow it
abbrev pub with_unit : List ℕ → Result (List (List ℕ)) ℕ → Result (List (List ℕ)) ℕ
with_unit unit (Err at) = Err at
with_unit unit (Ok units) = Ok (unit ∷ units)

-- the units of a text, one after another, or where the first length begins that is none or whose unit
-- isn't all there; the first `skip` bytes belong to the unit before
unfoldable pub units_from : ℕ → ℕ → List ℕ → Result (List (List ℕ)) ℕ
units_from skip at [] = Ok []
units_from (suc skip) at (byte ∷ rest) = units_from skip (suc at) rest
units_from zero at (byte ∷ rest) =
    option_map_or (λ unit. with_unit unit.0 (units_from (unit.1 - 1) (suc at) rest))
    (text_unit (byte ∷ rest)) (Err at)

-- which share has the byte at this place of the text
abbrev pub share_with : ℕ → ℕ
share_with at =
    if nat_lt at first_compact_content then 0 else
    suc ((at - first_compact_content) / later_compact_content)

-- the first share, from share i on, whose reserved bytes don't state what they should
unfoldable pub bad_reserved : ℕ → List ℕ → List Share → Option ℕ
bad_reserved i starts [] = None
bad_reserved i starts (share ∷ shares) =
    if reserved_in share == reserved_of i starts then bad_reserved (suc i) starts shares else Some i

-- the units of a text, where the reserved bytes of its shares are theirs
abbrev pub reserved_units : List Share → Result (List (List ℕ)) ℕ → Result (List (List ℕ)) JoinError
reserved_units shares (Err at) = Err (BadVarint (share_with at))
reserved_units shares (Ok units) =
    option_map_or (λ i. Err (BadReserved i)) (bad_reserved 0 (starts_from 0 units) shares) (Ok units)

-- the units of the one compact sequence of shares, none for no shares
abbrev pub units_in : List Share → Result (Option Sequence) JoinError → Result (List (List ℕ)) JoinError
units_in shares (Err e) = Err e
units_in shares (Ok None) = Ok []
units_in shares (Ok (Some s)) = reserved_units shares (units_from 0 0 s.content)

-- the units that shares are
abbrev pub units_of : List Share → Result (List (List ℕ)) JoinError
units_of shares = units_in shares (sequence_from 0 None shares)

-- ---- what a call answered is what reading gives, unless memory ran out

-- the value or the first check that fails, or out of memory
abbrev pub Joins : {X Y : Type 0} → (X → Y) → Result X JoinError → Result Y JoinError → Type 0
Joins view (Ok x) read = read ≡ Ok (view x)
Joins view (Err e) read = (e ≡ NoMemory) ⊎ (read ≡ Err e)
