-- Namespaces, their order and the namespace of parity shares (Celestia specifications, "Namespace").
use Rattle.std.specs.Prelude.{ℕ, List, [], ◌∷◌, ◌++◌, replicate, length, slice_index, slice_range, if◌then◌else◌, Bool, ◌==◌, ◌&&◌, not, Option, Some, None}
use Rattle.std.specs.List.{list_all, AllByRecursion}
use Rattle.std.specs.declared.cmp.Ordering.{Ordering}
use Rattle.std.specs.Str.{bytes_eq}
use Rattle.std.specs.Ordering.{nat_cmp, is_le}
use Rattle.std.specs.Cmp.Lexicographic.{slice_cmp}
use Rattle.namespace_id.specs.declared.namespaces.Namespace.{Namespace}
use Rattle.namespace_id.specs.Bytes.{IsString}
use Rattle.namespace_id.specs.Sizes.{namespace_size}
use Rattle.namespace_id.specs.declared.namespaces.NsError.{NsError}
use Rattle.namespace_id.specs.declared.namespaces.NsError.TheVariants.{Length, Version, Prefix, Reserved}

-- the namespace that bytes are
abbrev pub named_by : List ℕ → Namespace
named_by bytes = record { 0 = bytes }

-- a namespace has 29 bytes
abbrev pub IsNamespace : Namespace → Type 0
IsNamespace name = IsString namespace_size name.0

-- each of these is a namespace
abbrev pub AreNamespaces : List Namespace → Type 0
AreNamespaces names = AllByRecursion IsNamespace names

-- namespaces compare as byte strings
abbrev pub namespace_cmp : Namespace → Namespace → Ordering
namespace_cmp a b = slice_cmp nat_cmp a.0 b.0

-- whether the first isn't above the second
abbrev pub is_at_most : Namespace → Namespace → Bool
is_at_most a b = is_le (namespace_cmp a b)

-- whether the first is below the second
abbrev pub is_below : Namespace → Namespace → Bool
is_below a b = not (is_at_most b a)

-- the greater of two namespaces
abbrev pub greater_of : Namespace → Namespace → Namespace
greater_of a b = if is_at_most a b then b else a

-- the namespace of the shares that erasure coding adds: 29 bytes 0xFF
abbrev pub parity : Namespace
parity = record { 0 = replicate namespace_size 0xFF }

-- whether a namespace is that of these shares
abbrev pub is_parity : Namespace → Bool
is_parity name = bytes_eq name.0 parity.0

-- the greatest of the reserved namespaces of version 0: the id 0xFF
abbrev pub primary_reserved_padding : Namespace
primary_reserved_padding = record { 0 = replicate 28 0 ++ 0xFF ∷ [] }

-- the namespace of transactions: version 0, the id 1
abbrev pub transaction : Namespace
transaction = record { 0 = replicate 28 0 ++ 1 ∷ [] }

-- the namespace of payments for blobs: version 0, the id 4
abbrev pub pay_for_blob : Namespace
pay_for_blob = record { 0 = replicate 28 0 ++ 4 ∷ [] }

-- the namespace of the padding behind everything else: 28 bytes 0xFF, and 0xFE
abbrev pub tail_padding : Namespace
tail_padding = record { 0 = replicate 28 0xFF ++ 0xFE ∷ [] }

-- whether all bytes are 0
abbrev pub is_zeros : List ℕ → Bool
is_zeros bytes = list_all (λ b. b == 0) bytes

-- whether a namespace of version 0 is reserved: not above PRIMARY_RESERVED_PADDING
abbrev pub is_reserved : List ℕ → Bool
is_reserved bytes = is_at_most (record { 0 = bytes }) primary_reserved_padding

-- whether these bytes are the namespace of a blob: of version 0, with 18 zero bytes before the ten that
-- a blob may choose, and not reserved
abbrev pub is_blob_namespace : List ℕ → Bool
is_blob_namespace bytes =
    (length bytes == namespace_size) && (slice_index bytes 0 == 0) && is_zeros (slice_range bytes 1 19)
    && not (is_reserved bytes)

-- why bytes are no namespace of a blob: the first check that fails
abbrev pub namespace_refusal : List ℕ → Option NsError
namespace_refusal bytes =
    if not (length bytes == namespace_size) then Some Length else
    (if not (slice_index bytes 0 == 0) then Some Version else
    (if not (is_zeros (slice_range bytes 1 19)) then Some Prefix else
    (if is_reserved bytes then Some Reserved else None)))
