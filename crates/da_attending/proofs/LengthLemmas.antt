-- How long the payloads of headers and namespace answers are at most, whatever their numbers.
use Rattle.std.proofs.Common.{◌≡◌, ℕ, ◌*◌, ◌≤◌, Bool, true, false, cond, eqb, List, length, Option, None, Some, arith, inl, inr, ⊎_elim, eqb-true}
use Rattle.std.specs.Prelude.{◌⊎◌, not}
use Rattle.std.specs.Int.{w16}
use Rattle.std.proofs.lemmas.Bool.{not-false}
use Rattle.namespace_id.specs.declared.namespaces.Namespace.{Namespace}
use Rattle.namespace_id.specs.Cells.{is_width}
use Rattle.namespace_id.specs.Shares.{share_of}
use Rattle.namespace_id.specs.Sizes.{share_size}
use Rattle.namespace_id.proofs.WidthLemmas.{is_width-le}
use Rattle.data_header.specs.Headers.{Roots}
use Rattle.axis_roots.specs.declared.answers.Found.{Found}
use Rattle.axis_roots.specs.declared.answers.NsEntry.{NsEntry}
use Rattle.frame_fields.specs.Fields.{byte_at, string_at, big_endian_at, split_into, path_at, count_at}
use Rattle.frame_payloads.specs.Payloads.{max_payload}
use Rattle.frame_payloads.specs.kinds.Header.{header_at}
use Rattle.frame_payloads.specs.kinds.Names.{share_list_at, range_at, absence_at, found_at, entry_at, entries_at, names_at}
use Rattle.frame_payloads.proofs.Fields.Readers.{bind_some, if_false, if_true}
use Rattle.frame_payloads.proofs.Fields.ReadLengths.{TakesFew, left_of, byte_few, front_few, number_few, path_few, counted_few, list_few}

-- ---- answers

-- shares
shares_few : TakesFew 262146 share_list_at
unfolding share_list_at
shares_few bytes r e =
    let count = bind_some (count_at w16 512 bytes) _ r e in
    let few = counted_few 512 bytes count.0 count.1 in
    omega (arith, few.0, few.1, front_few (split_into share_of share_size count.0.0) (512 * count.0.0) count.0.1 r count.2)

range_few : TakesFew 263949 range_at
unfolding range_at
range_few bytes r e =
    let start = bind_some (big_endian_at w16 bytes) _ r e in
    let shares = bind_some (share_list_at start.0.1) _ r start.2 in
    let nodes = bind_some (path_at 20 shares.0.1) _ r shares.2 in
    omega (
      arith,
      number_few bytes start.0 start.1,
      shares_few start.0.1 shares.0 shares.1,
      path_few 20 shares.0.1 nodes.0 nodes.1,
      left_of _ r nodes.2,
    )

absence_few : TakesFew 1893 absence_at
unfolding absence_at
absence_few bytes r e =
    let pos = bind_some (big_endian_at w16 bytes) _ r e in
    let leaf = bind_some (string_at 90 pos.0.1) _ r pos.2 in
    let nodes = bind_some (path_at 20 leaf.0.1) _ r leaf.2 in
    omega (
      arith,
      number_few bytes pos.0 pos.1,
      front_few (λ l. l) 90 pos.0.1 leaf.0 leaf.1,
      path_few 20 leaf.0.1 nodes.0 nodes.1,
      left_of _ r nodes.2,
    )

-- what one of two readers read
one_read : (a b : Bool) (x y : Option (Found × List ℕ)) (r : Found × List ℕ) → cond a x (cond b y None) ≡ Some r → (x ≡ Some r) ⊎ (y ≡ Some r)
one_read true b x y r e = inl e
one_read false true x y r e = inr e
one_read false false x y r e = absurd cc

found_few : TakesFew 263950 found_at
unfolding found_at
found_few bytes r e =
    let tag = bind_some (byte_at bytes) _ r e in
    let first = byte_few bytes tag.0 tag.1 in
    ⊎_elim (λ (h : range_at tag.0.1 ≡ Some r). let few = range_few tag.0.1 r h in omega (arith, first, few))
    (λ (h : absence_at tag.0.1 ≡ Some r). let few = absence_few tag.0.1 r h in omega (arith, first, few))
    (one_read (eqb tag.0.0 0) (eqb tag.0.0 1) (range_at tag.0.1) (absence_at tag.0.1) r tag.2)

entry_few : TakesFew 263952 entry_at
unfolding entry_at
entry_few bytes r e =
    let row = bind_some (big_endian_at w16 bytes) _ r e in
    let found = bind_some (found_at row.0.1) _ r row.2 in
    omega (arith, number_few bytes row.0 row.1, found_few row.0.1 found.0 found.1, left_of _ r found.2)

entries_few : TakesFew 135143426 entries_at
entries_few = list_few 263952 512 entry_at entry_few

-- no namespace answer is longer than a payload may be
pub names_few : (payload : List ℕ) (r : Namespace × List NsEntry) → names_at payload ≡ Some r → length payload ≤ max_payload
unfolding names_at
names_few payload r e =
    let name = bind_some (string_at 29 payload) _ r e in
    let entries = bind_some (entries_at name.0.1) _ r name.2 in
    let whole = if_true (eqb (length entries.0.1) 0) _ r entries.2 in
    omega (
      arith,
      front_few (λ l. l) 29 payload name.0 name.1,
      entries_few name.0.1 entries.0 entries.1,
      eqb-true (length entries.0.1) 0 whole.0,
    )

-- ---- headers

-- no header is longer either
pub header_few : (payload : List ℕ) (r : Roots) → header_at payload ≡ Some r → length payload ≤ max_payload
unfolding header_at
header_few payload r e =
    let k = bind_some (big_endian_at w16 payload) _ r e in
    let width = if_false (not (is_width k.0.0)) _ r k.2 in
    let long = if_true (eqb (length k.0.1) (360 * k.0.0)) _ r width.1 in
    omega (
      arith,
      number_few payload k.0 k.1,
      is_width-le k.0.0 (not-false (is_width k.0.0) width.0),
      eqb-true (length k.0.1) (360 * k.0.0) long.0,
    )
