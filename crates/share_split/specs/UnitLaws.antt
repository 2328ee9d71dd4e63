-- Laws of units and of their compact shares.
use Rattle.std.specs.Prelude.{◌≡◌, ◌≢◌, ◌≤◌, ◌<◌, ◌+◌, ◌-◌, ◌^◌, ◌==◌, ◌&&◌, nat_le, nat_lt, ℕ, suc, Bool, true, false, List, [], ◌++◌, length, Some}
use Rattle.std.specs.List.{list_any, AllByRecursion}
use Rattle.namespace_id.specs.declared.namespaces.Namespace.{Namespace}
use Rattle.namespace_id.specs.Bytes.{AreBytes}
use Rattle.namespace_id.specs.Names.{IsNamespace}
use Rattle.namespace_id.specs.Shares.{AreShares}
use Rattle.proto_fields.specs.Varints.{stated, is_marked, varint, varint_in}
use Rattle.share_split.specs.Blobs.{max_sequence_length}
use Rattle.share_split.specs.Units.{units_text, starts_from, content_start, content_place, reserved_of, unit_shares_of, unit_share_count}

-- the compact shares of units are as many as counted
abbrev pub UnitSharesAreCounted : Type 0
UnitSharesAreCounted = (name : Namespace) (units : List (List ℕ))
    → length (unit_shares_of name units) ≡ unit_share_count units

-- units whose text no sequence holds take more shares than 2 ^ 23
abbrev pub LongTextsTakeManyShares : Type 0
LongTextsTakeManyShares = (units : List (List ℕ)) → max_sequence_length < length (units_text units)
    → 2 ^ 23 < unit_share_count units

-- the compact shares of units are shares
abbrev pub UnitSharesAreShares : Type 0
UnitSharesAreShares = (name : Namespace) (units : List (List ℕ)) → IsNamespace name
    → AllByRecursion AreBytes units → AreShares (unit_shares_of name units)

-- the varint of a length is read back, whatever follows it
abbrev pub VarintIsRead : Type 0
VarintIsRead = (n : ℕ) (rest : List ℕ) → n < 2 ^ 32 → varint_in 5 (varint n ++ rest) ≡ Some (n, rest)

-- what is read as a number is its varint, so that a number has one
abbrev pub ReadIsVarint : Type 0
ReadIsVarint = (bytes rest : List ℕ) (n : ℕ) → AreBytes bytes → varint_in 5 bytes ≡ Some (n, rest)
    → bytes ≡ varint n ++ rest

-- a varint states its number
abbrev pub VarintStates : Type 0
VarintStates = (n : ℕ) → n < 2 ^ 64 → stated (varint n) ≡ n

-- a varint is marked so
abbrev pub VarintIsMarked : Type 0
VarintIsMarked = (n : ℕ) → n < 2 ^ 64 → is_marked (varint n) ≡ true

-- no bytes that state a number are fewer than its varint
abbrev pub VarintIsShortest : Type 0
VarintIsShortest = (n : ℕ) (bytes : List ℕ) → n < 2 ^ 64 → bytes ≢ [] → stated bytes ≡ n
    → length (varint n) ≤ length bytes

-- whether this place of the text is in the content of share i
abbrev pub is_in_content : ℕ → ℕ → Bool
is_in_content i at = nat_le (content_start i) at && nat_lt at (content_start (suc i))

-- the least of some starts that are in the content of share i
pub record IsFirstInside (i : ℕ) (starts : List ℕ) (start : ℕ) : Type 0 where
  pub inside : is_in_content i start ≡ true
  pub among : list_any (λ other. other == start) starts ≡ true
  pub least : AllByRecursion (λ other. is_in_content i other ≡ true → start ≤ other) starts

-- the reserved bytes of a share state the place in it of the first unit that starts in its content
abbrev pub ReservedIsFirst : Type 0
ReservedIsFirst = (i at start : ℕ) (units : List (List ℕ))
    → IsFirstInside i (starts_from at units) start
    → reserved_of i (starts_from at units) ≡ content_place i + (start - content_start i)

-- and 0 where no unit starts in it
abbrev pub ReservedIsNone : Type 0
ReservedIsNone = (i at : ℕ) (units : List (List ℕ))
    → AllByRecursion (λ start. is_in_content i start ≡ false) (starts_from at units)
    → reserved_of i (starts_from at units) ≡ 0
