-- Half rows, written and read.
use Rattle.std.proofs.Common.{◌≡◌, ◌∙◌, ℕ, ◌+◌, ◌*◌, ◌≤◌, Bool, true, false, cond, ◌&&◌, ◌==◌, eqb, eqb-true, List, [], ◌∷◌, ◌++◌, length, map, Option, Some, None, option_and_then, Ok, Err, refl, sym, ap, ap₂, subst, arith, append-nil, length-append, mul_comm}
use Rattle.std.proofs.lemmas.Bool.{and_parts}
use Rattle.std.proofs.lemmas.List.{nil_from_length}
use Rattle.std.proofs.lemmas.Option.{same_Some}
use Rattle.namespace_id.specs.declared.shares.Share.{Share}
use Rattle.namespace_id.specs.Bytes.{AreBytes}
use Rattle.namespace_id.specs.Cells.{is_width}
use Rattle.namespace_id.specs.Shares.{AreShares}
use Rattle.namespace_id.proofs.WidthLemmas.{is_width-le}
use Rattle.proto_fields.specs.Fields.{FieldParts, fields_of, last_of, all_bytes, all_numbers, last_number}
use Rattle.proto_fields.specs.Varints.{varint_within}
use Rattle.proto_fields.specs.Spelled.{field_size}
use Rattle.proto_fields.specs.Canonical.{number_text, number_fields, part_field, begins_part, canonical_number}
use Rattle.proto_fields.proofs.FieldLemmas.{no_fields, all_bytes_in_a_row, all_numbers_in_a_row}
use Rattle.proto_fields.proofs.Options.{and_then_parts}
use Rattle.proto_fields.proofs.CanonicalLemmas.{number_fields_of, part_fields_of, number_is_read, read_is_number}
use Rattle.celestia_pb.specs.ShareLists.{share_behind}
use Rattle.celestia_pb.specs.declared.half_row.Side.{Side}
use Rattle.celestia_pb.specs.declared.half_row.Side.TheVariants.{Left, Right}
use Rattle.celestia_pb.specs.Reading.{then_read, or_left, with_offset}
use Rattle.celestia_pb.specs.Samples.{share_message}
use Rattle.celestia_pb.specs.RowShares.{shares_text, shares_at, tagged_shares}
use Rattle.celestia_pb.specs.HalfRows.{HalfParts, IsHalf, side_number, half_row_text, side_of, side_at, half_row_end, half_row_side, half_row_left, half_row_value}
use Rattle.celestia_pb.proofs.Steps.{cond_ok, then_ok, placed_ok}
use Rattle.celestia_pb.proofs.MessageLemmas.{field_few, begins_number}
use Rattle.celestia_pb.proofs.SampleLemmas.{or_left_some}
use Rattle.celestia_pb.proofs.CommonLemmas.{number_bytes, own_number}
use Rattle.celestia_pb.proofs.ShareLemmas.{shares_text-next, shares_are_read, read_are_shares}
use Rattle.celestia_pb.proofs.ShareEntries.{length-shares_text}
use Rattle.celestia_pb.proofs.EntryListLemmas.{length-entries}

-- ---- what is written is read

-- the message of a share is short
share_short : (share : Share) → length share.0 ≡ 512 → length (share_message share) ≤ 532
share_short share size = omega (arith, size, field_few 1 share.0)

-- the number of a side, behind which nothing follows
side_is_read : (side : Side) → side_at (number_text 2 (side_number side)) ≡ Some (side, [])
side_is_read Left =
    ap side_at (sym (append-nil (number_text 2 0))) ∙ ap (option_and_then side_of) (number_is_read 2 0 [] (omega arith) (omega arith) refl)
side_is_read Right =
    ap side_at (sym (append-nil (number_text 2 1))) ∙ ap (option_and_then side_of) (number_is_read 2 1 [] (omega arith) (omega arith) refl)

-- it begins no share
side_begins : (side : Side) → begins_part 1 (number_text 2 (side_number side)) ≡ false
side_begins side =
    ap (begins_part 1) (sym (append-nil (number_text 2 (side_number side)))) ∙ begins_number 10 2 (side_number side) [] (omega arith) refl refl

-- the message of half a row is read as the half
left_is_read : (h : HalfParts) → IsHalf h → AreShares h.shares → half_row_left (half_row_text h) ≡ Ok h
left_is_read h is are =
    let few : length h.shares ≤ 512 = is_width-le (length h.shares) is.width in
    let side : List ℕ = number_text 2 (side_number h.side) in
    ap (then_read half_row_side) (shares_are_read 512 h.shares side are few (side_begins h.side))
    ∙ ap (λ (o : Option (Side × List ℕ)). then_read (half_row_end h.shares) (or_left side o)) (side_is_read h.side)
    ∙ ap (λ (b : Bool). cond ((0 == 0) && b) (Ok h) (Err 0)) is.width

pub half_row_is_read : (h : HalfParts) → IsHalf h → AreShares h.shares → half_row_value (half_row_text h) ≡ Ok h
half_row_is_read h is are = ap (with_offset (length (half_row_text h))) (left_is_read h is are)

-- a share as a message in its field has 518 bytes
pub entry_size : field_size 1 (field_size 1 512) ≡ 518
unfolding varint_within
entry_size = refl

-- how long a side is, and how long both
pub half_row_sized : (h : HalfParts) (side : Side) (shares : List Share) (count each number : ℕ) → record { side = side; shares = shares } ≡ h → AreShares shares
    → count ≡ length shares → each ≡ 518 → number ≡ length (number_text 2 (side_number side)) → count * each + number ≡ length (half_row_text h)
half_row_sized h side shares count each number seen are is_count is_each is_number =
    let whole : count * each ≡ length (shares_text shares) =
    ap₂ (λ (m n : ℕ). m * n) is_count is_each ∙ mul_comm (length shares) 518 ∙ sym (length-shares_text shares are) in
    ap₂ (λ (m n : ℕ). m + n) whole is_number
    ∙ sym (length-append (shares_text shares) (number_text 2 (side_number side)))
    ∙ ap (λ (g : HalfParts). length (half_row_text g)) seen

-- ---- what is read was written

-- of the numbers 0 and 1
side_cases : (zero one : Bool) (n : ℕ) (rest : List ℕ) (x : Side × List ℕ) → eqb n 0 ≡ zero → eqb n 1 ≡ one
    → cond zero (Some (Left, rest)) (cond one (Some (Right, rest)) None) ≡ Some x → (n ≡ side_number x.0) × (rest ≡ x.1)
side_cases true one n rest x z o e =
    let same : ◌≡◌ {A = Side × List ℕ} (Left, rest) x = same_Some (Left, rest) x e in
    (eqb-true n 0 z ∙ ap (λ (p : Side × List ℕ). side_number p.0) same, ap (λ (p : Side × List ℕ). p.1) same)
side_cases false true n rest x z o e =
    let same : ◌≡◌ {A = Side × List ℕ} (Right, rest) x = same_Some (Right, rest) x e in
    (eqb-true n 1 o ∙ ap (λ (p : Side × List ℕ). side_number p.0) same, ap (λ (p : Side × List ℕ). p.1) same)
side_cases false false n rest x z o e = absurd cc

-- the side at the front
side_back : (bytes : List ℕ) (x : Side × List ℕ) → AreBytes bytes → side_at bytes ≡ Some x → bytes ≡ number_text 2 (side_number x.0) ++ x.1
side_back bytes x fits e =
    let read = and_then_parts side_of (canonical_number 2 bytes) x e in
    let is = side_cases (eqb read.0.0 0) (eqb read.0.0 1) read.0.0 read.0.1 x refl refl read.2 in
    (read_is_number 2 read.0.0 bytes read.0.1 (omega arith) fits read.1).1 ∙ ap₂ (λ (n : ℕ) (l : List ℕ). number_text 2 n ++ l) is.0 is.1

-- what is read as half a row
record WasRead (bytes : List ℕ) (h : HalfParts) : Type 0 where
  is : IsHalf h
  are : AreShares h.shares
  text : bytes ≡ half_row_text h

-- it was written so
was_read : (bytes : List ℕ) (h : HalfParts) → AreBytes bytes → half_row_value bytes ≡ Ok h → WasRead bytes h
was_read bytes h fits e =
    let left = placed_ok (length bytes) (half_row_left bytes) h e in
    let a = then_ok half_row_side (shares_at 512 bytes) h left in
    let shares = read_are_shares 512 bytes a.0.0 a.0.1 fits a.1 in
    let b = then_ok (half_row_end a.0.0) (or_left a.0.1 (side_at a.0.1)) h a.2 in
    let test = cond_ok ((length b.0.1 == 0) && is_width (length a.0.0)) (record { side = b.0.0; shares = a.0.0 }) h (length b.0.1) b.2 in
    let both = and_parts (eqb (length b.0.1) 0) (is_width (length a.0.0)) test.0 in
    let none : b.0.1 ≡ [] = nil_from_length b.0.1 (eqb-true (length b.0.1) 0 both.0) in
    let side : a.0.1 ≡ number_text 2 (side_number b.0.0) =
    side_back a.0.1 b.0 shares.fits (or_left_some a.0.1 (side_at a.0.1) b.0 b.1)
    ∙ ap (λ (l : List ℕ). number_text 2 (side_number b.0.0) ++ l) none ∙ append-nil (number_text 2 (side_number b.0.0)) in
    subst (λ (g : HalfParts). WasRead bytes g) test.1 (record {
      is = record { width = both.1 };
      are = shares.are;
      text = shares.parts ∙ ap (λ (l : List ℕ). shares_text a.0.0 ++ l) side;
    })

pub read_is_half_row : (bytes : List ℕ) (h : HalfParts) → AreBytes bytes → half_row_value bytes ≡ Ok h → (IsHalf h × AreShares h.shares) × (bytes ≡ half_row_text h)
read_is_half_row bytes h fits e = let was = was_read bytes h fits e in ((was.is, was.are), was.text)

-- ---- lenient reading

-- the fields of shares
abbrev share_fields : List Share → List FieldParts
share_fields shares = map (λ (share : Share). part_field 1 (share_message share)) shares

-- shares that were written are these fields, and then those that follow
share_fields_of : (shares : List Share) (rest : List ℕ) (fields : List FieldParts) → AreShares shares → fields_of rest ≡ Some fields
    → fields_of (shares_text shares ++ rest) ≡ Some (share_fields shares ++ fields)
share_fields_of [] rest fields all others = others
share_fields_of (share ∷ shares) rest fields all others =
    let short : length (share_message share) ≤ 532 = share_short share all.0.size_is in
    ap fields_of (shares_text-next share shares rest)
    ∙ part_fields_of 1 (share_message share) (shares_text shares ++ rest) (share_fields shares ++ fields) (omega arith) (omega arith) (omega arith)
    (share_fields_of shares rest fields all.1 others)

-- all of them are bytes
own_shares : (shares : List Share) → all_bytes 1 (share_fields shares) ≡ map share_message shares
own_shares [] = refl
own_shares (share ∷ shares) = ap (λ (l : List (List ℕ)). share_message share ∷ l) (own_shares shares)

no_numbers : (shares : List Share) → all_numbers 2 (share_fields shares) ≡ []
no_numbers [] = refl
no_numbers (share ∷ shares) = no_numbers shares

-- a side is one field or none
side_fields : (side : Side) → fields_of (number_text 2 (side_number side)) ≡ Some (number_fields 2 (side_number side) ++ [])
side_fields Left = no_fields
side_fields Right =
    ap fields_of (sym (append-nil (number_text 2 1))) ∙ number_fields_of 2 1 [] [] (omega arith) (omega arith) (omega arith) no_fields

pub half_row_is_common : (bytes : List ℕ) (h : HalfParts) → AreBytes bytes → half_row_value bytes ≡ Ok h
    → (fields : List FieldParts) × (fields_of bytes ≡ Some fields) × (all_bytes 1 fields ≡ map share_message h.shares) × (last_number 2 fields ≡ side_number h.side)
half_row_is_common bytes h fits e =
    let was = was_read bytes h fits e in
    let side : List FieldParts = number_fields 2 (side_number h.side) in
    let behind : side ++ [] ≡ side = append-nil side in (
      share_fields h.shares ++ (side ++ []),
      ap fields_of was.text ∙ share_fields_of h.shares (number_text 2 (side_number h.side)) (side ++ []) was.are (side_fields h.side),
      all_bytes_in_a_row 1 (share_fields h.shares) (side ++ [])
          ∙ ap₂ (λ (x y : List (List ℕ)). x ++ y) (own_shares h.shares) (ap (all_bytes 1) behind ∙ number_bytes 2 1 (side_number h.side))
          ∙ append-nil (map share_message h.shares),
      ap (last_of 0) (all_numbers_in_a_row 2 (share_fields h.shares) (side ++ [])
          ∙ ap₂ (λ (x y : List ℕ). x ++ y) (no_numbers h.shares) (ap (all_numbers 2) behind))
          ∙ own_number 2 (side_number h.side),
    )

-- ---- what the calls find

module _ (bytes behind : List ℕ) (count : ℕ) (first : shares_at 512 bytes ≡ Ok (tagged_shares count bytes, behind)) (side : Side) (rest : List ℕ)
    (second : side_at behind ≡ Some (side, rest)) where
  -- the test of what was found
  behind_side : (b : Bool) → ((length rest == 0) && is_width count) ≡ b
      → half_row_left bytes ≡ cond b (Ok (record { side = side; shares = tagged_shares count bytes })) (Err (length rest))
  behind_side b test =
      ap (then_read half_row_side) first
      ∙ ap (λ (o : Option (Side × List ℕ)). then_read (half_row_end (tagged_shares count bytes)) (or_left behind o)) second
      ∙ ap (λ (n : ℕ). cond ((length rest == 0) && is_width n) (Ok (record { side = side; shares = tagged_shares count bytes })) (Err (length rest))) (length-entries (share_behind 6) 518 count bytes)
      ∙ ap (λ (c : Bool). cond c (Ok (record { side = side; shares = tagged_shares count bytes })) (Err (length rest))) test

  -- something is left, or the number is no width
  pub wrong_end : ((length rest == 0) && is_width count) ≡ false → half_row_left bytes ≡ Err (length rest)
  wrong_end test = behind_side false test

  -- half a row
  pub right_end : ((length rest == 0) && is_width count) ≡ true → half_row_left bytes ≡ Ok (record { side = side; shares = tagged_shares count bytes })
  right_end test = behind_side true test
