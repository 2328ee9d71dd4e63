-- Samples, written and read.
use Rattle.std.proofs.Common.{◌≡◌, ◌∙◌, ℕ, ◌^◌, ◌<◌, ◌≤◌, Bool, true, false, cond, ◌||◌, ◌==◌, eqb, eqb-true, List, [], ◌∷◌, ◌++◌, length, Option, Some, None, option_and_then, Result, Ok, Err, refl, sym, ap, ap₂, subst, arith, append-nil}
use Rattle.std.proofs.lemmas.Bool.Decides.{nat_tests}
use Rattle.std.proofs.lemmas.List.{nil_from_length}
use Rattle.std.proofs.lemmas.Option.{cond_some, same_Some}
use Rattle.namespace_id.specs.declared.cells.Axis.{Axis}
use Rattle.namespace_id.specs.declared.cells.Axis.TheVariants.{Row, Col}
use Rattle.namespace_id.specs.declared.cells.Cell.{Cell}
use Rattle.namespace_id.specs.declared.digests.Digest.{Digest}
use Rattle.namespace_id.specs.declared.shares.Share.{Share}
use Rattle.namespace_id.specs.Bytes.{AreBytes}
use Rattle.namespace_id.specs.Digests.{AreDigests}
use Rattle.namespace_id.specs.Shares.{IsShare}
use Rattle.proto_fields.specs.Fields.{FieldParts, fields_of, all_bytes, last_number}
use Rattle.proto_fields.specs.Spelled.{bytes_field}
use Rattle.proto_fields.specs.Canonical.{number_text, number_fields, part_field, canonical_number, canonical_part}
use Rattle.proto_fields.proofs.FieldLemmas.{no_fields, last_of-none}
use Rattle.proto_fields.proofs.Options.{and_then_parts}
use Rattle.proto_fields.proofs.CanonicalLemmas.{number_fields_of, part_fields_of, number_is_read, read_is_number, part_read_back, read_is_part_field}
use Rattle.celestia_pb.specs.declared.sample.Sample.{Sample}
use Rattle.celestia_pb.specs.Reading.{then_read, or_left, with_offset}
use Rattle.celestia_pb.specs.Messages.{optional_message}
use Rattle.celestia_pb.specs.Inclusions.{inclusion_text, inclusion_left}
use Rattle.celestia_pb.specs.Samples.{IsSample, share_message, axis_number, place_on, sample_text, if_share, share_front, share_end, share_left, axis_of_number, axis_at, place_wanted, only_nodes, path_left, sample_of, sample_axis, sample_path, sample_left, sample_value}
use Rattle.namespace_id.specs.Cells.{IsCell}
use Rattle.celestia_pb.proofs.Steps.{same_ok, cond_ok, then_ok, placed_ok}
use Rattle.celestia_pb.proofs.DigestLemmas.{field_fits}
use Rattle.celestia_pb.proofs.MessageLemmas.{field_few, message_is_read, message_back}
use Rattle.celestia_pb.proofs.InclusionLemmas.{inclusion_few, inclusion_is_read, inclusion_back}
use Rattle.celestia_pb.proofs.CommonLemmas.{cond_same, last_of-cons}

-- the place of a cell on an axis has two bytes
place_fits : (axis : Axis) (cell : Cell) → IsCell cell → place_on axis cell < 2 ^ 16
place_fits Row cell is = is.col
place_fits Col cell is = is.row

-- ---- what is written is read

-- the message of a share
pub share_is_read : (share : Share) → IsShare share → share_left (share_message share) ≡ Ok share
share_is_read share is =
    let whole : share_message share ≡ share_message share ++ [] = sym (append-nil (share_message share)) in
    let size : length share.0 ≡ 512 = is.size_is in
    let test : eqb (length share.0) 512 ≡ true = grind (arith, nat_tests) in
    ap share_left whole
    ∙ ap (λ (o : Option (List ℕ × List ℕ)). then_read share_end (or_left (share_message share ++ []) (option_and_then if_share o))) (part_read_back 1 share.0 [] (omega arith) (omega arith))
    ∙ ap (λ (b : Bool). then_read share_end (or_left (share_message share ++ []) (cond b (Some (share, [])) None))) test

-- the number of an axis, behind which nothing follows
axis_is_read : (axis : Axis) → axis_at (number_text 3 (axis_number axis)) ≡ Some (axis, [])
axis_is_read Row =
    ap axis_at (sym (append-nil (number_text 3 0))) ∙ ap (option_and_then axis_of_number) (number_is_read 3 0 [] (omega arith) (omega arith) refl)
axis_is_read Col =
    ap axis_at (sym (append-nil (number_text 3 1))) ∙ ap (option_and_then axis_of_number) (number_is_read 3 1 [] (omega arith) (omega arith) refl)

-- it is 0 or itself
or_self : (n : ℕ) → ((n == 0) || (n == n)) ≡ true
or_self n = grind (arith, nat_tests)

-- the message of a proof, behind which the axis follows
path_is_read : (cell : Cell) (s : Sample) → IsCell cell → IsSample s
    → path_left cell (number_text 3 (axis_number s.axis)) (inclusion_text (place_on s.axis cell) 1 s.path) ≡ Ok s.path
path_is_read cell s is_cell is =
    let place : ℕ = place_on s.axis cell in
    let lt : place < 2 ^ 16 = place_fits s.axis cell is_cell in
    let few : length s.path ≤ 10 = is.few in
    ap (λ (o : Option (Axis × List ℕ)). only_nodes (inclusion_left (place_wanted cell o) 1 10 (inclusion_text place 1 s.path))) (axis_is_read s.axis)
    ∙ ap only_nodes (inclusion_is_read (Some place) place 1 10 s.path refl (or_self place) (omega arith) is.nodes few)

-- the message of a sample is read as the sample
left_is_read : (cell : Cell) (s : Sample) → IsCell cell → IsSample s → sample_left cell (sample_text cell s) ≡ Ok s
left_is_read cell s is_cell is =
    let axis : List ℕ = number_text 3 (axis_number s.axis) in
    let proof : List ℕ = inclusion_text (place_on s.axis cell) 1 s.path in
    let behind : List ℕ = bytes_field 2 proof ++ axis in
    let size : length s.share.0 ≡ 512 = is.share.size_is in
    let few : length s.path ≤ 10 = is.few in
    let short : length (share_message s.share) < 2 ^ 64 = omega (arith, field_few 1 s.share.0) in
    let small : length proof < 2 ^ 64 = omega (arith, inclusion_few (place_on s.axis cell) 1 s.path is.nodes) in
    ap (then_read (sample_path cell)) (message_is_read (λ rest part. share_left part) 1 (share_message s.share) behind s.share (omega arith) short (share_is_read s.share is.share))
    ∙ ap (then_read (sample_axis (Some s.share))) (message_is_read (path_left cell) 2 proof axis s.path (omega arith) small (path_is_read cell s is_cell is))
    ∙ ap (λ (o : Option (Axis × List ℕ)). then_read (sample_of (Some s.share) (Some s.path)) (or_left axis o)) (axis_is_read s.axis)

pub sample_is_read : (cell : Cell) (s : Sample) → IsCell cell → IsSample s → sample_value cell (sample_text cell s) ≡ Ok s
sample_is_read cell s is_cell is = ap (with_offset (length (sample_text cell s))) (left_is_read cell s is_cell is)

-- ---- what is read was written

-- what stands in front of the end of the message of a share
share_parts : (bytes : List ℕ) (share : Share) (o : Option (Share × List ℕ)) → AreBytes bytes → share_front bytes ≡ o → then_read share_end (or_left bytes o) ≡ Ok share
    → IsShare share × (bytes ≡ share_message share)
share_parts bytes share None fits is e = absurd cc
share_parts bytes share (Some x) fits is e =
    let test = cond_ok (eqb (length x.1) 0) x.0 share (length x.1) e in
    let none : x.1 ≡ [] = nil_from_length x.1 (eqb-true (length x.1) 0 test.0) in
    let read = and_then_parts if_share (canonical_part 1 bytes) x is in
    let found = cond_some (eqb (length read.0.0) 512) (record { 0 = read.0.0 }, read.0.1) x read.2 in
    let h = read_is_part_field 1 bytes read.0.0 read.0.1 (omega arith) fits read.1 in
    let held : share.0 ≡ read.0.0 = ap (λ (s : Share). s.0) (sym test.1) ∙ ap (λ (p : Share × List ℕ). p.0.0) (sym found.1) in
    let rest : read.0.1 ≡ [] = ap (λ (p : Share × List ℕ). p.1) found.1 ∙ none in
    let text : bytes ≡ bytes_field 1 share.0 =
    h.1 ∙ ap₂ (λ (l r : List ℕ). bytes_field 1 l ++ r) (sym held) rest ∙ append-nil (bytes_field 1 share.0) in (
      record { size_is = ap length held ∙ eqb-true (length read.0.0) 512 found.0; fits = field_fits 1 share.0 (subst (λ (l : List ℕ). AreBytes l) text fits) },
      text,
    )

-- the share that a message is
pub share_back : (bytes : List ℕ) (share : Share) → AreBytes bytes → share_left bytes ≡ Ok share → IsShare share × (bytes ≡ share_message share)
share_back bytes share fits e = share_parts bytes share (share_front bytes) fits refl e

-- of the numbers 0 and 1
axis_cases : (zero one : Bool) (n : ℕ) (rest : List ℕ) (x : Axis × List ℕ) → eqb n 0 ≡ zero → eqb n 1 ≡ one
    → cond zero (Some (Row, rest)) (cond one (Some (Col, rest)) None) ≡ Some x → (n ≡ axis_number x.0) × (rest ≡ x.1)
axis_cases true one n rest x z o e =
    let same : ◌≡◌ {A = Axis × List ℕ} (Row, rest) x = same_Some (Row, rest) x e in
    (eqb-true n 0 z ∙ ap (λ (p : Axis × List ℕ). axis_number p.0) same, ap (λ (p : Axis × List ℕ). p.1) same)
axis_cases false true n rest x z o e =
    let same : ◌≡◌ {A = Axis × List ℕ} (Col, rest) x = same_Some (Col, rest) x e in
    (eqb-true n 1 o ∙ ap (λ (p : Axis × List ℕ). axis_number p.0) same, ap (λ (p : Axis × List ℕ). p.1) same)
axis_cases false false n rest x z o e = absurd cc

-- the axis that a number is
pub axis_number-is : (n : ℕ) (rest : List ℕ) (x : Axis × List ℕ) → axis_of_number (n, rest) ≡ Some x → (n ≡ axis_number x.0) × (rest ≡ x.1)
axis_number-is n rest x e = axis_cases (eqb n 0) (eqb n 1) n rest x refl refl e

-- the axis at the front
axis_back : (bytes : List ℕ) (x : Axis × List ℕ) → AreBytes bytes → axis_at bytes ≡ Some x → bytes ≡ number_text 3 (axis_number x.0) ++ x.1
axis_back bytes x fits e =
    let read = and_then_parts axis_of_number (canonical_number 3 bytes) x e in
    let is = axis_number-is read.0.0 read.0.1 x read.2 in
    (read_is_number 3 read.0.0 bytes read.0.1 (omega arith) fits read.1).1 ∙ ap₂ (λ (n : ℕ) (l : List ℕ). number_text 3 n ++ l) is.0 is.1

-- what was read at the front
pub or_left_some : {A : Type 0} (bytes : List ℕ) (o : Option A) (x : A) → or_left bytes o ≡ Ok x → o ≡ Some x
or_left_some bytes None x e = absurd cc
or_left_some bytes (Some y) x e = ap (λ v. Some v) (same_ok y x e)

-- the nodes of a proof that was read
only_back : (r : Result (ℕ × List Digest) ℕ) (nodes : List Digest) → only_nodes r ≡ Ok nodes → (x : ℕ × List Digest) × (r ≡ Ok x) × (x.1 ≡ nodes)
only_back (Err left) nodes e = absurd cc
only_back (Ok x) nodes e = (x, refl, same_ok x.1 nodes e)

-- both parts of a sample were there, and nothing follows
record HasParts (share : Option Share) (path : Option (List Digest)) (axis : Axis) (rest : List ℕ) (s : Sample) : Type 0 where
  share_is : share ≡ Some s.share
  path_is : path ≡ Some s.path
  axis_is : axis ≡ s.axis
  none : rest ≡ []

of_parts : (share : Option Share) (path : Option (List Digest)) (axis : Axis) (rest : List ℕ) (s : Sample) → sample_of share path axis rest ≡ Ok s
    → HasParts share path axis rest s
of_parts None path axis rest s e = absurd cc
of_parts (Some share) None axis rest s e = absurd cc
of_parts (Some share) (Some path) axis rest s e =
    let test = cond_ok (eqb (length rest) 0) (record { axis = axis; share = share; path = path }) s (length rest) e in
    record {
      share_is = ap (λ (t : Sample). Some t.share) test.1;
      path_is = ap (λ (t : Sample). Some t.path) test.1;
      axis_is = ap (λ (t : Sample). t.axis) test.1;
      none = nil_from_length rest (eqb-true (length rest) 0 test.0);
    }

-- what is read as a sample
record WasRead (cell : Cell) (bytes : List ℕ) (s : Sample) : Type 0 where
  is : IsSample s
  text : bytes ≡ sample_text cell s

-- what is read as a sample was written so
was_read : (cell : Cell) (bytes : List ℕ) (s : Sample) → AreBytes bytes → sample_left cell bytes ≡ Ok s → WasRead cell bytes s
was_read cell bytes s fits e =
    let a = then_ok (sample_path cell) (optional_message (λ rest part. share_left part) 1 bytes) s e in
    let b = then_ok (sample_axis a.0.0) (optional_message (path_left cell) 2 a.0.1) s a.2 in
    let c = then_ok (sample_of a.0.0 b.0.0) (or_left b.0.1 (axis_at b.0.1)) s b.2 in
    let has = of_parts a.0.0 b.0.0 c.0.0 c.0.1 s c.2 in
    let share = message_back (λ rest part. share_left part) 1 bytes s.share a.0.1 (omega arith) fits (a.1 ∙ ap (λ (o : Option Share). Ok (o, a.0.1)) has.share_is) in
    let path = message_back (path_left cell) 2 a.0.1 s.path b.0.1 (omega arith) share.fits (b.1 ∙ ap (λ (o : Option (List Digest)). Ok (o, b.0.1)) has.path_is) in
    let axis : axis_at b.0.1 ≡ Some (s.axis, []) = or_left_some b.0.1 (axis_at b.0.1) c.0 c.1 ∙ ap₂ (λ (x : Axis) (l : List ℕ). Some (x, l)) has.axis_is has.none in
    let place : ℕ = place_on s.axis cell in
    let nodes = only_back (inclusion_left (place_wanted cell (axis_at b.0.1)) 1 10 path.part) s.path path.read in
    let found : inclusion_left (Some place) 1 10 path.part ≡ Ok nodes.0 =
    ap (λ (o : Option (Axis × List ℕ)). inclusion_left (place_wanted cell o) 1 10 path.part) (sym axis) ∙ nodes.1 in
    let proof = inclusion_back (Some place) 1 10 path.part nodes.0 path.part_fits found in
    let first : nodes.0.0 ≡ place = sym proof.place in
    let shared = share_back share.part s.share share.part_fits share.read in
    let proof_text : path.part ≡ inclusion_text place 1 s.path =
    proof.parts ∙ ap₂ (λ (n : ℕ) (l : List Digest). inclusion_text n 1 l) first nodes.2 in
    let axis_text : b.0.1 ≡ number_text 3 (axis_number s.axis) =
    axis_back b.0.1 (s.axis, []) path.fits axis ∙ append-nil (number_text 3 (axis_number s.axis)) in
    let behind : a.0.1 ≡ bytes_field 2 (inclusion_text place 1 s.path) ++ number_text 3 (axis_number s.axis) =
    path.parts ∙ ap₂ (λ (l r : List ℕ). bytes_field 2 l ++ r) proof_text axis_text in
    record {
      is = record {
        share = shared.0;
        few = subst (λ (l : List Digest). length l ≤ 10) nodes.2 proof.few;
        nodes = subst (λ (l : List Digest). AreDigests l) nodes.2 proof.are;
      };
      text = share.parts ∙ ap₂ (λ (l r : List ℕ). bytes_field 1 l ++ r) shared.1 behind;
    }

pub read_is_sample : (cell : Cell) (bytes : List ℕ) (s : Sample) → AreBytes bytes → sample_value cell bytes ≡ Ok s → IsSample s × (bytes ≡ sample_text cell s)
read_is_sample cell bytes s fits e =
    let was = was_read cell bytes s fits (placed_ok (length bytes) (sample_left cell bytes) s e) in
    (was.is, was.text)

-- ---- lenient reading

-- the fields of a sample
abbrev fields_in : Cell → Sample → List FieldParts
fields_in cell s =
    part_field 1 (share_message s.share) ∷ part_field 2 (inclusion_text (place_on s.axis cell) 1 s.path) ∷ (number_fields 3 (axis_number s.axis) ++ [])

-- an axis is one field or none
axis_fields : (axis : Axis) → fields_of (number_text 3 (axis_number axis)) ≡ Some (number_fields 3 (axis_number axis) ++ [])
axis_fields Row = no_fields
axis_fields Col =
    ap fields_of (sym (append-nil (number_text 3 1))) ∙ number_fields_of 3 1 [] [] (omega arith) (omega arith) (omega arith) no_fields

-- the message of a sample is its fields
text_fields : (cell : Cell) (s : Sample) → IsSample s → fields_of (sample_text cell s) ≡ Some (fields_in cell s)
text_fields cell s is =
    let axis : List ℕ = number_text 3 (axis_number s.axis) in
    let proof : List ℕ = inclusion_text (place_on s.axis cell) 1 s.path in
    let size : length s.share.0 ≡ 512 = is.share.size_is in
    let few : length s.path ≤ 10 = is.few in
    part_fields_of 1 (share_message s.share) (bytes_field 2 proof ++ axis) _ (omega arith) (omega arith) (omega (arith, field_few 1 s.share.0))
    (part_fields_of 2 proof axis _ (omega arith) (omega arith) (omega (arith, inclusion_few (place_on s.axis cell) 1 s.path is.nodes)) (axis_fields s.axis))

-- no bytes are in the field of an axis
axis_bytes : (n : ℕ) (axis : Axis) → all_bytes n (number_fields 3 (axis_number axis) ++ []) ≡ []
axis_bytes n Row = refl
axis_bytes n Col = ap (λ (l : List (List ℕ)). l ++ []) (cond_same (eqb 3 n))

-- its number is that of the axis
axis_last : (share proof : List ℕ) (axis : Axis) → last_number 3 (part_field 1 share ∷ part_field 2 proof ∷ (number_fields 3 (axis_number axis) ++ [])) ≡ axis_number axis
axis_last share proof Row = last_of-none 0
axis_last share proof Col = last_of-cons 0 1 [] ∙ last_of-none 1

pub sample_is_common : (cell : Cell) (bytes : List ℕ) (s : Sample) → AreBytes bytes → sample_value cell bytes ≡ Ok s
    → (fields : List FieldParts) × (fields_of bytes ≡ Some fields) × (all_bytes 1 fields ≡ share_message s.share ∷ [])
    × (all_bytes 2 fields ≡ inclusion_text (place_on s.axis cell) 1 s.path ∷ []) × (last_number 3 fields ≡ axis_number s.axis)
sample_is_common cell bytes s fits e =
    let was = was_read cell bytes s fits (placed_ok (length bytes) (sample_left cell bytes) s e) in
    let share : List ℕ = share_message s.share in
    let proof : List ℕ = inclusion_text (place_on s.axis cell) 1 s.path in (
      fields_in cell s,
      ap fields_of was.text ∙ text_fields cell s was.is,
      ap (λ (l : List (List ℕ)). share ∷ l) (axis_bytes 1 s.axis),
      ap (λ (l : List (List ℕ)). proof ∷ l) (axis_bytes 2 s.axis),
      axis_last share proof s.axis,
    )

-- the message of a share has its bytes
pub share_is_common : (share : Share) → IsShare share
    → (fields : List FieldParts) × (fields_of (share_message share) ≡ Some fields) × (all_bytes 1 fields ≡ share.0 ∷ [])
share_is_common share is =
    let size : length share.0 ≡ 512 = is.size_is in (
      part_field 1 share.0 ∷ [],
      ap fields_of (sym (append-nil (share_message share))) ∙ part_fields_of 1 share.0 [] [] (omega arith) (omega arith) (omega arith) no_fields,
      refl,
    )
