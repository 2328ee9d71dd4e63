-- What lenient reading has of a bad encoding proof.
use Rattle.std.proofs.Common.{◌≡◌, ◌∙◌, ℕ, suc, ◌*◌, ◌^◌, ◌<◌, ◌≤◌, eqb, List, [], ◌∷◌, ◌++◌, length, map, Option, Some, Ok, refl, sym, ap, ap₂, arith, append-nil}
use Rattle.namespace_id.specs.declared.cells.Axis.{Axis}
use Rattle.namespace_id.specs.declared.cells.Axis.TheVariants.{Row, Col}
use Rattle.namespace_id.specs.Bytes.{AreBytes}
use Rattle.proto_fields.specs.Fields.{FieldParts, fields_of, last_of, all_bytes, all_numbers, last_number}
use Rattle.proto_fields.specs.Spelled.{bytes_field}
use Rattle.proto_fields.specs.Canonical.{number_text, number_fields, part_field}
use Rattle.proto_fields.proofs.FieldLemmas.{no_fields, all_bytes_in_a_row, all_numbers_in_a_row}
use Rattle.proto_fields.proofs.CanonicalLemmas.{number_fields_of, part_fields_of}
use Rattle.axis_roots.specs.declared.message.messages.Message.{Message}
use Rattle.axis_roots.specs.Messages.{IsMessage, position}
use Rattle.axis_roots.specs.Claims.{ClaimParts}
use Rattle.celestia_pb.specs.declared.befp_entries.Accused.{Accused}
use Rattle.celestia_pb.specs.Samples.{axis_number}
use Rattle.celestia_pb.specs.BefpEntries.{proof_text, befp_entry, befp_place, places_text, places_of}
use Rattle.celestia_pb.specs.Befp.{befp_text, befp_value}
use Rattle.celestia_pb.specs.BefpLaws.{ClaimHasMessage, IsBefp}
use Rattle.celestia_pb.proofs.CommonLemmas.{cond_same, number_bytes, own_number, other_number}
use Rattle.celestia_pb.proofs.FlagLemmas.{proof_few}
use Rattle.celestia_pb.proofs.PlaceCells.{StandAt}
use Rattle.celestia_pb.proofs.PlaceLemmas.{places_text-next, first_short}
use Rattle.celestia_pb.proofs.BefpLemmas.{tested, accused_by, claim_laid, befp_back, parts_spelled}

-- ---- the last field

-- a number is one field or none
number_last : (n value : ℕ) → 0 < n → n < 16 → value < 2 ^ 64 → fields_of (number_text n value) ≡ Some (number_fields n value ++ [])
number_last n value some few lt =
    ap fields_of (sym (append-nil (number_text n value))) ∙ number_fields_of n value [] [] some few lt no_fields

-- that of an axis is small
axis_few : (axis : Axis) → axis_number axis < 2 ^ 64
axis_few Row = omega arith
axis_few Col = omega arith

-- ---- shares with their proofs

-- the fields of one
abbrev entry_fields : ℕ → Message → List FieldParts
entry_fields flag m =
    part_field 1 m.share.0 ∷ part_field 2 (proof_text flag (position m.axis m.cell) m.path) ∷ (number_fields 3 (axis_number m.axis) ++ [])

pub entry_is_common : (flag : ℕ) (m : Message) → IsMessage m
    → (fields : List FieldParts) × (fields_of (befp_entry flag m) ≡ Some fields) × (all_bytes 1 fields ≡ m.share.0 ∷ [])
    × (all_bytes 2 fields ≡ proof_text flag (position m.axis m.cell) m.path ∷ []) × (last_number 3 fields ≡ axis_number m.axis)
entry_is_common flag m is =
    let share : List ℕ = m.share.0 in
    let proof : List ℕ = proof_text flag (position m.axis m.cell) m.path in
    let axis : List ℕ = number_text 3 (axis_number m.axis) in
    let numbers : List FieldParts = number_fields 3 (axis_number m.axis) in
    let size : length share ≡ 512 = is.share.size_is in
    let few : length m.path ≤ 10 = is.few in
    let small : length proof < 2 ^ 64 = omega (arith, proof_few flag (position m.axis m.cell) m.path is.nodes) in
    let behind : numbers ++ [] ≡ numbers = append-nil numbers in (
      entry_fields flag m,
      part_fields_of 1 share (bytes_field 2 proof ++ axis) _ (omega arith) (omega arith) (omega arith)
          (part_fields_of 2 proof axis _ (omega arith) (omega arith) small (number_last 3 (axis_number m.axis) (omega arith) (omega arith) (axis_few m.axis))),
      ap (λ (l : List (List ℕ)). share ∷ l) (ap (all_bytes 1) behind ∙ number_bytes 3 1 (axis_number m.axis)),
      ap (λ (l : List (List ℕ)). proof ∷ l) (ap (all_bytes 2) behind ∙ number_bytes 3 2 (axis_number m.axis)),
      ap (λ (l : List FieldParts). last_of 0 (all_numbers 3 l)) behind ∙ own_number 3 (axis_number m.axis),
    )

-- ---- places

-- the fields of places
abbrev place_fields : ℕ → List (Option Message) → List FieldParts
place_fields flag places = map (λ (place : Option Message). part_field 3 (befp_place flag place)) places

-- places that were written are these fields, and then those that follow
place_fields_of : (accused : Accused) (place flag : ℕ) (places : List (Option Message)) (rest : List ℕ) (fields : List FieldParts) → StandAt accused place places
    → fields_of rest ≡ Some fields → fields_of (places_text flag places ++ rest) ≡ Some (place_fields flag places ++ fields)
place_fields_of accused place flag [] rest fields stand others = others
place_fields_of accused place flag (o ∷ places) rest fields stand others =
    let first = first_short accused place flag o places stand in
    ap fields_of (places_text-next flag o places rest)
    ∙ part_fields_of 3 (befp_place flag o) (places_text flag places ++ rest) (place_fields flag places ++ fields) (omega arith) (omega arith) first.0
    (place_fields_of accused (suc place) flag places rest fields first.1 others)

-- those of their number are all of them
own_places : (flag : ℕ) (places : List (Option Message)) → all_bytes 3 (place_fields flag places) ≡ map (befp_place flag) places
own_places flag [] = refl
own_places flag (o ∷ places) = ap (λ (l : List (List ℕ)). befp_place flag o ∷ l) (own_places flag places)

-- the hash isn't among them
other_places : (flag : ℕ) (places : List (Option Message)) → all_bytes 1 (place_fields flag places) ≡ []
other_places flag [] = refl
other_places flag (o ∷ places) = other_places flag places

-- they have no numbers
place_numbers : (m flag : ℕ) (places : List (Option Message)) → all_numbers m (place_fields flag places) ≡ []
place_numbers m flag [] = refl
place_numbers m flag (o ∷ places) = ap₂ (λ (x y : List ℕ). x ++ y) (cond_same (eqb 3 m)) (place_numbers m flag places)

-- ---- the message

module _ (flag k : ℕ) (hash : List ℕ) (height : ℕ) (claim : ClaimParts) where
  -- its places
  abbrev places : List (Option Message)
  places = places_of claim.axis (2 * k) 0 claim.cells

  -- the number of its axis
  abbrev kind : ℕ
  kind = axis_number claim.axis

  -- the fields of its axis, of its places and the axis, of all behind the hash, and of the whole
  abbrev axis_fields : List FieldParts
  axis_fields = number_fields 4 claim.index ++ (number_fields 5 kind ++ [])

  abbrev behind_height : List FieldParts
  behind_height = place_fields flag places ++ axis_fields

  abbrev behind_hash : List FieldParts
  behind_hash = number_fields 2 height ++ behind_height

  abbrev fields_in : List FieldParts
  fields_in = part_field 1 hash ∷ behind_hash

  -- the message is its fields
  text_fields : ClaimHasMessage k claim → length hash < 2 ^ 64 → height < 2 ^ 64 → fields_of (befp_text flag k hash height claim) ≡ Some fields_in
  text_fields has few short =
      let axis : List ℕ = number_text 4 claim.index ++ number_text 5 kind in
      let index_few : claim.index < 2 ^ 16 = has.is.index_bytes in
      let laid = claim_laid k claim has.is (tested k claim has.has) in
      part_fields_of 1 hash (number_text 2 height ++ (places_text flag places ++ axis)) behind_hash (omega arith) (omega arith) few
      (number_fields_of 2 height (places_text flag places ++ axis) behind_height (omega arith) (omega arith) short
      (place_fields_of (accused_by claim) 0 flag places axis axis_fields laid.stand
      (number_fields_of 4 claim.index (number_text 5 kind) (number_fields 5 kind ++ []) (omega arith) (omega arith) (omega arith)
      (number_last 5 kind (omega arith) (omega arith) (axis_few claim.axis)))))

  -- the numbers in them
  numbers_in : (m : ℕ) (a b c : List ℕ) → all_numbers m (number_fields 2 height) ≡ a → all_numbers m (number_fields 4 claim.index) ≡ b
      → all_numbers m (number_fields 5 kind) ≡ c → all_numbers m fields_in ≡ a ++ (b ++ (c ++ []))
  numbers_in m a b c is_a is_b is_c =
      ap (λ (l : List ℕ). l ++ all_numbers m behind_hash) (cond_same (eqb 1 m))
      ∙ all_numbers_in_a_row m (number_fields 2 height) behind_height
      ∙ ap₂ (λ (x y : List ℕ). x ++ y) is_a (
      all_numbers_in_a_row m (place_fields flag places) axis_fields
      ∙ ap₂ (λ (x y : List ℕ). x ++ y) (place_numbers m flag places) (
      all_numbers_in_a_row m (number_fields 4 claim.index) (number_fields 5 kind ++ [])
      ∙ ap₂ (λ (x y : List ℕ). x ++ y) is_b (all_numbers_in_a_row m (number_fields 5 kind) [] ∙ ap (λ (x : List ℕ). x ++ []) is_c)))

  -- the bytes in those behind the hash
  bytes_in : (m : ℕ) (c : List (List ℕ)) → all_bytes m (place_fields flag places) ≡ c → all_bytes m behind_hash ≡ c ++ []
  bytes_in m c is_c =
      all_bytes_in_a_row m (number_fields 2 height) behind_height
      ∙ ap₂ (λ (x y : List (List ℕ)). x ++ y) (number_bytes 2 m height) (
      all_bytes_in_a_row m (place_fields flag places) axis_fields
      ∙ ap₂ (λ (x y : List (List ℕ)). x ++ y) is_c (
      all_bytes_in_a_row m (number_fields 4 claim.index) (number_fields 5 kind ++ [])
      ∙ ap₂ (λ (x y : List (List ℕ)). x ++ y) (number_bytes 4 m claim.index)
      (all_bytes_in_a_row m (number_fields 5 kind) [] ∙ ap (λ (x : List (List ℕ)). x ++ []) (number_bytes 5 m kind))))

  -- the message has one hash, the height, the bytes of each place, the index and the number of the axis
  text_is_common : ClaimHasMessage k claim → length hash < 2 ^ 64 → height < 2 ^ 64
      → (fields : List FieldParts) × (fields_of (befp_text flag k hash height claim) ≡ Some fields)
      × (all_bytes 1 fields ≡ hash ∷ []) × (last_number 2 fields ≡ height) × (all_bytes 3 fields ≡ map (befp_place flag) places)
      × (last_number 4 fields ≡ claim.index) × (last_number 5 fields ≡ kind)
  text_is_common has few short = (
    fields_in,
    text_fields has few short,
    ap (λ (l : List (List ℕ)). hash ∷ l) (bytes_in 1 [] (other_places flag places)),
    ap (last_of 0) (numbers_in 2 _ [] [] refl (other_number 4 2 claim.index refl) (other_number 5 2 kind refl) ∙ append-nil (all_numbers 2 (number_fields 2 height)))
        ∙ own_number 2 height,
    bytes_in 3 (map (befp_place flag) places) (own_places flag places) ∙ append-nil (map (befp_place flag) places),
    ap (last_of 0) (numbers_in 4 [] _ [] (other_number 2 4 height refl) refl (other_number 5 4 kind refl) ∙ append-nil (all_numbers 4 (number_fields 4 claim.index)))
        ∙ own_number 4 claim.index,
    ap (last_of 0) (numbers_in 5 [] [] _ (other_number 2 5 height refl) (other_number 4 5 claim.index refl) refl ∙ append-nil (all_numbers 5 (number_fields 5 kind)))
        ∙ own_number 5 kind,
  )

pub befp_is_common : (hash : List ℕ) (height : ℕ) (bytes : List ℕ) (claim : ClaimParts) → AreBytes bytes → befp_value hash height bytes ≡ Ok claim
    → (is : IsBefp hash height bytes claim) × (fields : List FieldParts) × (fields_of bytes ≡ Some fields)
    × (all_bytes 1 fields ≡ hash ∷ []) × (last_number 2 fields ≡ height)
    × (all_bytes 3 fields ≡ map (befp_place is.flag) (places_of claim.axis (2 * is.k) 0 claim.cells))
    × (last_number 4 fields ≡ claim.index) × (last_number 5 fields ≡ axis_number claim.axis)
befp_is_common hash height bytes claim fits e =
    let parts = befp_back hash height bytes claim fits e in
    let is = parts_spelled hash height bytes claim parts in
    let h = text_is_common is.flag is.k hash height claim is.has parts.hash_few parts.height_few in
    (is, h.0, ap fields_of is.text ∙ h.1, h.2, h.3, h.4, h.5, h.6)
