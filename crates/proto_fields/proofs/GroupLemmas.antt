-- Groups: how many tags they may have doesn't matter, and they are readers like other values.
use Rattle.std.proofs.Common.{◌≡◌, ◌≢◌, ◌∙◌, ℕ, zero, suc, ◌-◌, ◌≤◌, ◌<◌, ◌==◌, Bool, true, false, cond, List, [], ◌∷◌, ◌++◌, length, Option, Some, None, option_map, option_and_then, refl, sym, ap, arith, length-append}
use Rattle.std.proofs.lemmas.Bool.Decides.{nat_tests}
use Rattle.std.proofs.lemmas.Option.{none-some, cond_some}
use Rattle.proto_fields.specs.declared.tags.Tag.{Tag}
use Rattle.proto_fields.specs.declared.tags.Wire.{Wire}
use Rattle.proto_fields.specs.declared.tags.Wire.TheVariants.{Varint, EightBytes, Delimited, GroupStart, GroupEnd, FourBytes}
use Rattle.proto_fields.specs.Fields.{ValueParts, other_value, tag_at, is_end, value_of_wire, no_group, behind_group, value_at, FieldParts, field_at, most_open}
use Rattle.proto_fields.proofs.Options.{and_then_parts, map_parts}
use Rattle.proto_fields.proofs.Readers.{IsReader, IsSkipper, reader_then, reader_map, wire_reader, tag_reader, tag_shorter}

-- how a value behind a tag is read
abbrev ReadsValue : Type 0
ReadsValue = Tag → List ℕ → Option (ValueParts × List ℕ)

-- what follows a tag in a group, where `go` says what follows the fields after it
abbrev behind_tag : ReadsValue → ℕ → (List ℕ → Option (List ℕ)) → Bool → Tag × List ℕ → Option (List ℕ)
behind_tag value n go ends read =
    cond ends (cond (read.0.number == n) (Some read.1) None) (option_and_then (λ passed. go passed.1) (value read.0 read.1))

-- a group of at most one tag more
group-next : (value : ReadsValue) (n more : ℕ) (bytes : List ℕ) → behind_group value n (suc more) bytes
    ≡ option_and_then (λ read. behind_tag value n (behind_group value n more) (is_end read.0.wire) read) (tag_at bytes)
unfolding behind_group
group-next value n more bytes = refl

-- a group of no tags
group-none : (value : ReadsValue) (n : ℕ) (bytes : List ℕ) → behind_group value n zero bytes ≡ None
unfolding behind_group
group-none value n bytes = refl

-- ---- how many tags it may have

-- no tag is at the front of no bytes
no_tag : (bytes : List ℕ) → length bytes ≤ 0 → (o : Option (Tag × List ℕ)) → tag_at bytes ≡ o → tag_at bytes ≡ None
no_tag bytes few None e = e
no_tag bytes few (Some x) e = absurd (omega (arith, tag_shorter bytes x e))

-- a group of no bytes doesn't end
group-empty : (value : ReadsValue) (n more : ℕ) (bytes : List ℕ) → length bytes ≤ 0 → behind_group value n more bytes ≡ None
group-empty value n zero bytes few = group-none value n bytes
group-empty value n (suc more) bytes few =
    group-next value n more bytes
    ∙ ap (option_and_then (λ read. behind_tag value n (behind_group value n more) (is_end read.0.wire) read)) (no_tag bytes few (tag_at bytes) refl)

-- two steps agree behind a value
passed_same : (value : ReadsValue) (readers : (tag : Tag) → IsReader (value tag)) (go other : List ℕ → Option (List ℕ)) (read : Tag × List ℕ)
    → ((behind : List ℕ) → length behind ≤ length read.1 → go behind ≡ other behind)
    → (o : Option (ValueParts × List ℕ)) → value read.0 read.1 ≡ o → option_and_then (λ passed. go passed.1) o ≡ option_and_then (λ passed. other passed.1) o
passed_same value readers go other read same None e = refl
passed_same value readers go other read same (Some passed) e = same passed.1 ((readers read.0).shorter read.1 passed e)

-- and behind a tag
tag_same : (value : ReadsValue) (readers : (tag : Tag) → IsReader (value tag)) (n : ℕ) (go other : List ℕ → Option (List ℕ)) (ends : Bool) (read : Tag × List ℕ)
    → ((behind : List ℕ) → length behind ≤ length read.1 → go behind ≡ other behind)
    → behind_tag value n go ends read ≡ behind_tag value n other ends read
tag_same value readers n go other true read same = refl
tag_same value readers n go other false read same = passed_same value readers go other read same (value read.0 read.1) refl

-- and from the tag on
step_same : (value : ReadsValue) (readers : (tag : Tag) → IsReader (value tag)) (n : ℕ) (go other : List ℕ → Option (List ℕ)) (bytes : List ℕ)
    → ((behind : List ℕ) → length behind < length bytes → go behind ≡ other behind)
    → (o : Option (Tag × List ℕ)) → tag_at bytes ≡ o
    → option_and_then (λ read. behind_tag value n go (is_end read.0.wire) read) o ≡ option_and_then (λ read. behind_tag value n other (is_end read.0.wire) read) o
step_same value readers n go other bytes same None e = refl
step_same value readers n go other bytes same (Some read) e =
    tag_same value readers n go other (is_end read.0.wire) read (λ behind few. same behind (omega (arith, tag_shorter bytes read e)))

-- it may have any number of tags that isn't below that of its bytes
pub group_same : (value : ReadsValue) (readers : (tag : Tag) → IsReader (value tag)) (n more other : ℕ) (bytes : List ℕ)
    → length bytes ≤ more → length bytes ≤ other → behind_group value n more bytes ≡ behind_group value n other bytes
group_same value readers n zero other bytes few small = group-none value n bytes ∙ sym (group-empty value n other bytes few)
group_same value readers n (suc more) zero bytes few small = group-empty value n (suc more) bytes small ∙ sym (group-none value n bytes)
group_same value readers n (suc more) (suc other) bytes few small =
    group-next value n more bytes
    ∙ step_same value readers n (behind_group value n more) (behind_group value n other) bytes
    (λ behind less. group_same value readers n more other behind (omega arith) (omega arith)) (tag_at bytes) refl
    ∙ sym (group-next value n other bytes)

-- ---- a tag in it

-- a wire that ends no group
goes_on : (wire : Wire) → (wire ≡ GroupEnd → ⊥) → is_end wire ≡ false
goes_on Varint other = refl
goes_on EightBytes other = refl
goes_on Delimited other = refl
goes_on GroupStart other = refl
goes_on GroupEnd other = absurd (other refl)
goes_on FourBytes other = refl

-- another tag than its end goes on behind its value
pub group_goes : (value : ReadsValue) (readers : (tag : Tag) → IsReader (value tag)) (n : ℕ) (bytes : List ℕ) (read : Tag × List ℕ) (passed : ValueParts × List ℕ)
    → tag_at bytes ≡ Some read → (read.0.wire ≡ GroupEnd → ⊥) → value read.0 read.1 ≡ Some passed
    → behind_group value n (length bytes) bytes ≡ behind_group value n (length passed.1) passed.1
group_goes value readers n [] read passed e goes there = absurd (omega (arith, tag_shorter [] read e))
group_goes value readers n (byte ∷ bytes) read passed e goes there =
    let whole : List ℕ = byte ∷ bytes in
    group-next value n (length bytes) whole
    ∙ ap (option_and_then (λ read. behind_tag value n (behind_group value n (length bytes)) (is_end read.0.wire) read)) e
    ∙ ap (λ (ends : Bool). behind_tag value n (behind_group value n (length bytes)) ends read) (goes_on read.0.wire goes)
    ∙ ap (option_and_then (λ passed. behind_group value n (length bytes) passed.1)) there
    ∙ group_same value readers n (length bytes) (length passed.1) passed.1
    (omega (arith, tag_shorter whole read e, (readers read.0).shorter read.1 passed there)) (omega arith)

-- it isn't one where no value is behind such a tag
pub group_stops : (value : ReadsValue) (n : ℕ) (bytes : List ℕ) (read : Tag × List ℕ)
    → tag_at bytes ≡ Some read → (read.0.wire ≡ GroupEnd → ⊥) → value read.0 read.1 ≡ None
    → behind_group value n (length bytes) bytes ≡ None
group_stops value n [] read e goes none = absurd (omega (arith, tag_shorter [] read e))
group_stops value n (byte ∷ bytes) read e goes none =
    group-next value n (length bytes) (byte ∷ bytes)
    ∙ ap (option_and_then (λ read. behind_tag value n (behind_group value n (length bytes)) (is_end read.0.wire) read)) e
    ∙ ap (λ (ends : Bool). behind_tag value n (behind_group value n (length bytes)) ends read) (goes_on read.0.wire goes)
    ∙ ap (option_and_then (λ passed. behind_group value n (length bytes) passed.1)) none

-- behind its end the number decides
group_ends : (value : ReadsValue) (n : ℕ) (bytes : List ℕ) (read : Tag × List ℕ)
    → tag_at bytes ≡ Some read → read.0.wire ≡ GroupEnd
    → behind_group value n (length bytes) bytes ≡ cond (read.0.number == n) (Some read.1) None
group_ends value n [] read e ends = absurd (omega (arith, tag_shorter [] read e))
group_ends value n (byte ∷ bytes) read e ends =
    group-next value n (length bytes) (byte ∷ bytes)
    ∙ ap (option_and_then (λ read. behind_tag value n (behind_group value n (length bytes)) (is_end read.0.wire) read)) e
    ∙ ap (λ (wire : Wire). behind_tag value n (behind_group value n (length bytes)) (is_end wire) read) ends

-- an end of this number is its end
pub group_done : (value : ReadsValue) (n : ℕ) (bytes : List ℕ) (read : Tag × List ℕ)
    → tag_at bytes ≡ Some read → read.0.wire ≡ GroupEnd → read.0.number ≡ n → behind_group value n (length bytes) bytes ≡ Some read.1
group_done value n bytes read e ends same =
    let is : (read.0.number == n) ≡ true = grind (arith, nat_tests) in
    group_ends value n bytes read e ends ∙ ap (λ (b : Bool). cond b (Some read.1) None) is

-- that of another isn't
pub group_crossed : (value : ReadsValue) (n : ℕ) (bytes : List ℕ) (read : Tag × List ℕ)
    → tag_at bytes ≡ Some read → read.0.wire ≡ GroupEnd → read.0.number ≢ n → behind_group value n (length bytes) bytes ≡ None
group_crossed value n bytes read e ends other =
    let is : (read.0.number == n) ≡ false = grind (arith, nat_tests) in
    group_ends value n bytes read e ends ∙ ap (λ (b : Bool). cond b (Some read.1) None) is

-- it isn't one where no tag is at the front
pub group_untagged : (value : ReadsValue) (n : ℕ) (bytes : List ℕ) → tag_at bytes ≡ None → behind_group value n (length bytes) bytes ≡ None
group_untagged value n [] e = group-none value n []
group_untagged value n (byte ∷ bytes) e =
    group-next value n (length bytes) (byte ∷ bytes)
    ∙ ap (option_and_then (λ read. behind_tag value n (behind_group value n (length bytes)) (is_end read.0.wire) read)) e

-- ---- groups are readers

-- behind a tag more may follow
tag_follows : (value : ReadsValue) (readers : (tag : Tag) → IsReader (value tag)) (n : ℕ) (go : List ℕ → Option (List ℕ)) (after : List ℕ)
    → ((behind rest : List ℕ) → go behind ≡ Some rest → go (behind ++ after) ≡ Some (rest ++ after))
    → (ends : Bool) (read : Tag × List ℕ) (rest : List ℕ) → behind_tag value n go ends read ≡ Some rest
    → behind_tag value n go ends (read.0, read.1 ++ after) ≡ Some (rest ++ after)
tag_follows value readers n go after goes true read rest e =
    let h = cond_some (read.0.number == n) read.1 rest e in
    ap (λ (b : Bool). cond b (Some (read.1 ++ after)) None) h.0 ∙ ap (λ (l : List ℕ). Some (l ++ after)) h.1
tag_follows value readers n go after goes false read rest e =
    let h = and_then_parts (λ (passed : ValueParts × List ℕ). go passed.1) (value read.0 read.1) rest e in
    ap (option_and_then (λ passed. go passed.1)) ((readers read.0).follows read.1 after h.0 h.1) ∙ goes h.0.1 rest h.2

-- a group is one whatever follows
group_follows : (value : ReadsValue) (readers : (tag : Tag) → IsReader (value tag)) (n more : ℕ) (bytes after rest : List ℕ)
    → behind_group value n more bytes ≡ Some rest → behind_group value n more (bytes ++ after) ≡ Some (rest ++ after)
group_follows value readers n zero bytes after rest e = absurd (none-some rest (sym (group-none value n bytes) ∙ e))
group_follows value readers n (suc more) bytes after rest e =
    let go : Tag × List ℕ → Option (List ℕ) = λ read. behind_tag value n (behind_group value n more) (is_end read.0.wire) read in
    let h = and_then_parts go (tag_at bytes) rest (sym (group-next value n more bytes) ∙ e) in
    group-next value n more (bytes ++ after)
    ∙ ap (option_and_then go) (tag_reader.follows bytes after h.0 h.1)
    ∙ tag_follows value readers n (behind_group value n more) after
    (λ behind left. group_follows value readers n more behind after left) (is_end h.0.0.wire) h.0 rest h.2

-- behind a tag no more is left
tag_leaves : (value : ReadsValue) (readers : (tag : Tag) → IsReader (value tag)) (n : ℕ) (go : List ℕ → Option (List ℕ))
    → ((behind rest : List ℕ) → go behind ≡ Some rest → length rest ≤ length behind)
    → (ends : Bool) (read : Tag × List ℕ) (rest : List ℕ) → behind_tag value n go ends read ≡ Some rest → length rest ≤ length read.1
tag_leaves value readers n go leaves true read rest e =
    let h = cond_some (read.0.number == n) read.1 rest e in
    omega (arith, ap length h.1)
tag_leaves value readers n go leaves false read rest e =
    let h = and_then_parts (λ (passed : ValueParts × List ℕ). go passed.1) (value read.0 read.1) rest e in
    omega (arith, (readers read.0).shorter read.1 h.0 h.1, leaves h.0.1 rest h.2)

-- behind a group no more is left
group_leaves : (value : ReadsValue) (readers : (tag : Tag) → IsReader (value tag)) (n more : ℕ) (bytes rest : List ℕ)
    → behind_group value n more bytes ≡ Some rest → length rest ≤ length bytes
group_leaves value readers n zero bytes rest e = absurd (none-some rest (sym (group-none value n bytes) ∙ e))
group_leaves value readers n (suc more) bytes rest e =
    let go : Tag × List ℕ → Option (List ℕ) = λ read. behind_tag value n (behind_group value n more) (is_end read.0.wire) read in
    let h = and_then_parts go (tag_at bytes) rest (sym (group-next value n more bytes) ∙ e) in
    let left = tag_leaves value readers n (behind_group value n more) (λ behind left. group_leaves value readers n more behind left) (is_end h.0.0.wire) h.0 rest h.2 in
    omega (arith, tag_shorter bytes h.0 h.1, left)

-- what follows a group is told so
group_skipper : (value : ReadsValue) (readers : (tag : Tag) → IsReader (value tag)) (n : ℕ) → IsSkipper (λ inside. behind_group value n (length inside) inside)
group_skipper value readers n = record {
  follows = λ bytes after rest e.
      let more : ℕ = length (bytes ++ after) in
      let enough : length bytes ≤ more = omega (arith, length-append bytes after) in
      group_follows value readers n more bytes after rest (group_same value readers n more (length bytes) bytes enough (omega arith) ∙ e);
  shorter = λ bytes rest e. group_leaves value readers n (length bytes) bytes rest e;
}

-- no group may be open
no_group_skips : IsSkipper no_group
no_group_skips = record { follows = λ bytes after rest e. absurd (none-some rest e); shorter = λ bytes rest e. absurd (none-some rest e) }

-- values are read so
pub value_reader : (most : ℕ) (tag : Tag) → IsReader (value_at most tag)
unfolding value_at
value_reader zero tag = wire_reader no_group no_group_skips tag.wire
value_reader (suc most) tag =
    wire_reader (λ inside. behind_group (value_at most) tag.number (length inside) inside)
    (group_skipper (value_at most) (value_reader most) tag.number) tag.wire

-- ---- values, by their wires

-- what follows a group doesn't matter for other wires
wire_plain : (group : List ℕ → Option (List ℕ)) (wire : Wire) (bytes : List ℕ) → (wire ≡ GroupStart → ⊥) → value_of_wire group wire bytes ≡ value_of_wire no_group wire bytes
wire_plain group Varint bytes other = refl
wire_plain group EightBytes bytes other = refl
wire_plain group Delimited bytes other = refl
wire_plain group GroupStart bytes other = absurd (other refl)
wire_plain group GroupEnd bytes other = refl
wire_plain group FourBytes bytes other = refl

-- a value that is no group
pub value_at-plain : (most : ℕ) (tag : Tag) (bytes : List ℕ) → (tag.wire ≡ GroupStart → ⊥) → value_at most tag bytes ≡ value_of_wire no_group tag.wire bytes
unfolding value_at
value_at-plain zero tag bytes other = refl
value_at-plain (suc most) tag bytes other =
    wire_plain (λ inside. behind_group (value_at most) tag.number (length inside) inside) tag.wire bytes other

-- a group where none may be open
pub value_at-closed : (most : ℕ) (tag : Tag) (bytes : List ℕ) → tag.wire ≡ GroupStart → most ≡ 0 → value_at most tag bytes ≡ None
unfolding value_at
value_at-closed zero tag bytes is none = ap (λ (wire : Wire). value_of_wire no_group wire bytes) is
value_at-closed (suc most) tag bytes is none = absurd (omega arith)

-- a group where some may be open
pub value_at-group : (most : ℕ) (tag : Tag) (bytes : List ℕ) → tag.wire ≡ GroupStart → 0 < most
    → value_at most tag bytes ≡ option_map (λ rest. (other_value, rest)) (behind_group (value_at (most - 1)) tag.number (length bytes) bytes)
unfolding value_at
value_at-group zero tag bytes is some = absurd (omega arith)
value_at-group (suc most) tag bytes is some =
    let less : most ≡ suc most - 1 = omega arith in
    ap (λ (wire : Wire). value_of_wire (λ inside. behind_group (value_at most) tag.number (length inside) inside) wire bytes) is
    ∙ ap (λ (deep : ℕ). option_map (λ rest. (other_value, rest)) (behind_group (value_at deep) tag.number (length bytes) bytes)) less

-- ---- fields

-- fields are read so
pub field_reader : IsReader field_at
field_reader =
    reader_then tag_at (λ tag bytes. option_map (λ value. (record { number = tag.number; value = value.0 }, value.1)) (value_at most_open tag bytes)) tag_reader
    (λ tag. reader_map (value_at most_open tag) (λ value. record { number = tag.number; value = value }) (value_reader most_open tag))

-- a field takes a byte
pub field_shorter : (bytes : List ℕ) (x : FieldParts × List ℕ) → field_at bytes ≡ Some x → length x.1 < length bytes
field_shorter bytes x e =
    let go : Tag × List ℕ → Option (FieldParts × List ℕ) = λ read.
    option_map (λ value. (record { number = read.0.number; value = value.0 }, value.1)) (value_at most_open read.0 read.1) in
    let h = and_then_parts go (tag_at bytes) x e in
    let see : ValueParts × List ℕ → FieldParts × List ℕ = λ value. (record { number = h.0.0.number; value = value.0 }, value.1) in
    let m = map_parts see (value_at most_open h.0.0 h.0.1) x h.2 in
    omega (arith, tag_shorter bytes h.0 h.1, (value_reader most_open h.0.0).shorter h.0.1 m.0 m.1, ap (λ (z : FieldParts × List ℕ). length z.1) m.2)
