-- Shares with their proofs, written and read.
use Rattle.std.proofs.Common.{◌≡◌, ◌∙◌, ℕ, ◌^◌, ◌<◌, ◌≤◌, Bool, true, false, cond, ◌||◌, ◌==◌, eqb, eqb-true, List, [], ◌++◌, length, Option, Some, None, option_and_then, Result, Ok, Err, refl, sym, ap, ap₂, subst, arith, append-nil, length-append}
use Rattle.std.proofs.lemmas.Bool.Decides.{nat_tests}
use Rattle.std.proofs.lemmas.List.{nil_from_length}
use Rattle.std.proofs.lemmas.Option.{cond_some, same_Some, none-some}
use Rattle.namespace_id.specs.declared.cells.Axis.{Axis}
use Rattle.namespace_id.specs.declared.cells.Axis.TheVariants.{Row, Col}
use Rattle.namespace_id.specs.declared.cells.Cell.{Cell}
use Rattle.namespace_id.specs.declared.digests.Digest.{Digest}
use Rattle.namespace_id.specs.declared.shares.Share.{Share}
use Rattle.namespace_id.specs.Bytes.{AreBytes}
use Rattle.namespace_id.specs.Shares.{IsShare}
use Rattle.proto_fields.specs.Spelled.{bytes_field}
use Rattle.proto_fields.specs.Canonical.{number_text, begins_part, canonical_part}
use Rattle.proto_fields.proofs.Options.{and_then_parts}
use Rattle.proto_fields.proofs.CanonicalVarints.{front_fits, behind_fits}
use Rattle.proto_fields.proofs.CanonicalLemmas.{bytes_field-is, part_read_back, read_is_part_field}
use Rattle.axis_roots.specs.declared.message.messages.Message.{Message}
use Rattle.axis_roots.specs.Messages.{IsMessage, position}
use Rattle.celestia_pb.specs.declared.sample.Sample.{Sample}
use Rattle.celestia_pb.specs.Reading.{then_read, or_left}
use Rattle.celestia_pb.specs.Messages.{optional_message}
use Rattle.celestia_pb.specs.Samples.{IsSample, axis_number, if_share, share_front, place_wanted}
use Rattle.celestia_pb.specs.BefpEntries.{proof_text, befp_entry, is_mark, proof_left, axis_field, start_wanted, some_share, data_at, befp_sample, entry_axis, entry_proof, entry_left}
use Rattle.celestia_pb.specs.Inclusions.{place_stated}
use Rattle.celestia_pb.proofs.Steps.{same_ok, cond_ok, then_ok}
use Rattle.celestia_pb.proofs.Fronts.{begins_own}
use Rattle.celestia_pb.proofs.DigestLemmas.{field_fits, ok_parts}
use Rattle.celestia_pb.proofs.MessageLemmas.{field_few, number_few, message_is_read, message_back}
use Rattle.celestia_pb.proofs.SampleLemmas.{or_left_some}
use Rattle.celestia_pb.proofs.AxisLemmas.{axis_in_is_read, axis_in_back, place_is_position}
use Rattle.celestia_pb.proofs.FlagLemmas.{IsFlag, proof_few, proof_is_read, proof_back}

-- it is 0 or itself
or_self : (n : ℕ) → ((n == 0) || (n == n)) ≡ true
or_self n = grind (arith, nat_tests)

-- the sample of a cell, without the cell
abbrev pub bare : Message → Sample
bare m = record { axis = m.axis; share = m.share; path = m.path }

-- a sample with a cell
abbrev pub with_cell : Cell → Sample → Message
with_cell cell s = record { cell = cell; axis = s.axis; share = s.share; path = s.path }

-- the position of a cell has two bytes
pub position_fits : (m : Message) → IsMessage m → (axis : Axis) → position axis m.cell < 2 ^ 16
position_fits m is Row = is.col
position_fits m is Col = is.row

-- ---- how long

-- a share with its proof isn't long
pub entry_few : (flag : ℕ) (m : Message) → IsMessage m → length (befp_entry flag m) ≤ 2000
entry_few flag m is =
    let start : ℕ = position m.axis m.cell in
    let proof : List ℕ = proof_text flag start m.path in
    let behind : List ℕ = bytes_field 2 proof ++ number_text 3 (axis_number m.axis) in
    let size : length m.share.0 ≡ 512 = is.share.size_is in
    let few : length m.path ≤ 10 = is.few in
    omega (
      arith,
      length-append (bytes_field 1 m.share.0) behind,
      length-append (bytes_field 2 proof) (number_text 3 (axis_number m.axis)),
      field_few 1 m.share.0,
      field_few 2 proof,
      proof_few flag start m.path is.nodes,
      number_few 3 (axis_number m.axis),
    )

-- it has at least the bytes of the share
pub entry_some : (flag : ℕ) (m : Message) → IsMessage m → eqb (length (befp_entry flag m)) 0 ≡ false
entry_some flag m is =
    let behind : List ℕ = bytes_field 2 (proof_text flag (position m.axis m.cell) m.path) ++ number_text 3 (axis_number m.axis) in
    let size : length m.share.0 ≡ 512 = is.share.size_is in
    let some : 0 < length (befp_entry flag m) =
    omega (arith, length-append (bytes_field 1 m.share.0) behind, ap length (bytes_field-is 1 m.share.0 (omega arith))) in
    grind (arith, nat_tests)

-- ---- what is written is read

-- a share, whatever follows
pub data_is_read : (share : Share) (rest : List ℕ) → length share.0 ≡ 512 → data_at (bytes_field 1 share.0 ++ rest) ≡ Ok (Some share, rest)
data_is_read share rest size =
    let bytes : List ℕ = bytes_field 1 share.0 ++ rest in
    let test : eqb (length share.0) 512 ≡ true = grind (arith, nat_tests) in
    ap (λ (b : Bool). cond b (some_share (or_left bytes (share_front bytes))) (Ok (None, bytes))) (begins_own 1 share.0 rest (omega arith))
    ∙ ap (λ (o : Option (List ℕ × List ℕ)). some_share (or_left bytes (option_and_then if_share o))) (part_read_back 1 share.0 rest (omega arith) (omega arith))
    ∙ ap (λ (b : Bool). some_share (or_left bytes (cond b (Some (share, rest)) None))) test

-- the proof of a cell, behind which its axis follows
path_is_read : (mark : Option ℕ) (flag : ℕ) (m : Message) → IsMessage m → IsFlag mark flag
    → proof_left (start_wanted (Some m.cell) (number_text 3 (axis_number m.axis))) mark (proof_text flag (position m.axis m.cell) m.path) ≡ Ok (m.path, flag)
path_is_read mark flag m is marked =
    let place : ℕ = position m.axis m.cell in
    let lt : place < 2 ^ 16 = position_fits m is m.axis in
    let text : List ℕ = proof_text flag place m.path in
    ap (λ (o : Option (Axis × List ℕ)). proof_left (place_wanted m.cell o) mark text) (axis_in_is_read 3 m.axis (omega arith))
    ∙ ap (λ (n : ℕ). proof_left (Some n) mark text) (place_is_position m.axis m.cell)
    ∙ proof_is_read (Some place) mark flag place m.path refl (or_self place) (omega arith) is.nodes is.few marked

-- a share with its proof
pub entry_is_read : (mark : Option ℕ) (flag : ℕ) (m : Message) → IsMessage m → IsFlag mark flag
    → entry_left (Some m.cell) mark (befp_entry flag m) ≡ Ok (bare m, flag)
entry_is_read mark flag m is marked =
    let axis : List ℕ = number_text 3 (axis_number m.axis) in
    let proof : List ℕ = proof_text flag (position m.axis m.cell) m.path in
    let few : length m.path ≤ 10 = is.few in
    let small : length proof < 2 ^ 64 = omega (arith, proof_few flag (position m.axis m.cell) m.path is.nodes) in
    ap (then_read (entry_proof (Some m.cell) mark)) (data_is_read m.share (bytes_field 2 proof ++ axis) is.share.size_is)
    ∙ ap (then_read (entry_axis (Some m.share)))
    (message_is_read (λ rest part. proof_left (start_wanted (Some m.cell) rest) mark part) 2 proof axis (m.path, flag) (omega arith) small (path_is_read mark flag m is marked))
    ∙ ap (λ (o : Option (Axis × List ℕ)). then_read (befp_sample (Some m.share) (Some (m.path, flag))) (or_left axis o)) (axis_in_is_read 3 m.axis (omega arith))

-- ---- what is read was written

-- what is read as a share
record IsDataRead (bytes : List ℕ) (share : Share) (rest : List ℕ) : Type 0 where
  is : IsShare share
  parts : bytes ≡ bytes_field 1 share.0 ++ rest
  fits : AreBytes rest

-- what was read as one
some_share_parts : (r : Result (Share × List ℕ) ℕ) (share : Share) (rest : List ℕ) → some_share r ≡ Ok (Some share, rest) → r ≡ Ok (share, rest)
some_share_parts (Err left) share rest e = absurd cc
some_share_parts (Ok read) share rest e =
    let both = ok_parts (Some read.0) (Some share) read.1 rest e in
    ap₂ (λ (s : Share) (l : List ℕ). Ok (s, l)) (same_Some read.0 share both.0) both.1

-- it was written so
share_parts : (bytes : List ℕ) (share : Share) (rest : List ℕ) → AreBytes bytes → share_front bytes ≡ Some (share, rest) → IsDataRead bytes share rest
share_parts bytes share rest fits e =
    let read = and_then_parts if_share (canonical_part 1 bytes) (share, rest) e in
    let found = cond_some (eqb (length read.0.0) 512) (record { 0 = read.0.0 }, read.0.1) (share, rest) read.2 in
    let held : share.0 ≡ read.0.0 = ap (λ (p : Share × List ℕ). p.0.0) (sym found.1) in
    let after : rest ≡ read.0.1 = ap (λ (p : Share × List ℕ). p.1) (sym found.1) in
    let parts : bytes ≡ bytes_field 1 share.0 ++ rest =
    (read_is_part_field 1 bytes read.0.0 read.0.1 (omega arith) fits read.1).1 ∙ ap₂ (λ (l r : List ℕ). bytes_field 1 l ++ r) (sym held) (sym after) in
    let all : AreBytes (bytes_field 1 share.0 ++ rest) = subst (λ (l : List ℕ). AreBytes l) parts fits in
    record {
      is = record {
        size_is = ap length held ∙ eqb-true (length read.0.0) 512 found.0;
        fits = field_fits 1 share.0 (front_fits (bytes_field 1 share.0) rest all);
      };
      parts = parts;
      fits = behind_fits (bytes_field 1 share.0) rest all;
    }

-- where it was there
data_parts : (bytes : List ℕ) (share : Share) (rest : List ℕ) (b : Bool) → AreBytes bytes
    → cond b (some_share (or_left bytes (share_front bytes))) (Ok (None, bytes)) ≡ Ok (Some share, rest) → IsDataRead bytes share rest
data_parts bytes share rest false fits e =
    absurd (none-some share (ap (λ (p : Option Share × List ℕ). p.0) (same_ok (None, bytes) (Some share, rest) e)))
data_parts bytes share rest true fits e =
    share_parts bytes share rest fits (or_left_some bytes (share_front bytes) (share, rest) (some_share_parts (or_left bytes (share_front bytes)) share rest e))

-- all parts were there, and nothing follows
record HasParts (share : Option Share) (proof : Option (List Digest × ℕ)) (axis : Axis) (rest : List ℕ) (x : Sample × ℕ) : Type 0 where
  share_is : share ≡ Some x.0.share
  proof_is : proof ≡ Some (x.0.path, x.1)
  axis_is : axis ≡ x.0.axis
  none : rest ≡ []

of_parts : (share : Option Share) (proof : Option (List Digest × ℕ)) (axis : Axis) (rest : List ℕ) (x : Sample × ℕ) → befp_sample share proof axis rest ≡ Ok x
    → HasParts share proof axis rest x
of_parts None proof axis rest x e = absurd cc
of_parts (Some share) None axis rest x e = absurd cc
of_parts (Some share) (Some proof) axis rest x e =
    let test = cond_ok (eqb (length rest) 0) (record { axis = axis; share = share; path = proof.0 }, proof.1) x (length rest) e in
    record {
      share_is = ap (λ (y : Sample × ℕ). Some y.0.share) test.1;
      proof_is = ap (λ (y : Sample × ℕ). Some (y.0.path, y.1)) test.1;
      axis_is = ap (λ (y : Sample × ℕ). y.0.axis) test.1;
      none = nil_from_length rest (eqb-true (length rest) 0 test.0);
    }

-- what is read as a share with its proof
pub record IsEntryRead (cell : Cell) (mark : Option ℕ) (bytes : List ℕ) (s : Sample) (flag : ℕ) : Type 0 where
  pub is : IsSample s
  pub passes : is_mark mark flag ≡ true
  pub same : place_stated mark flag ≡ flag
  pub text : bytes ≡ befp_entry flag (with_cell cell s)

-- was written so
pub entry_back : (cell : Cell) (mark : Option ℕ) (bytes : List ℕ) (x : Sample × ℕ) → AreBytes bytes → entry_left (Some cell) mark bytes ≡ Ok x
    → IsEntryRead cell mark bytes x.0 x.1
entry_back cell mark bytes x fits e =
    let s : Sample = x.0 in
    let flag : ℕ = x.1 in
    let a = then_ok (entry_proof (Some cell) mark) (data_at bytes) x e in
    let b = then_ok (entry_axis a.0.0) (optional_message (λ rest part. proof_left (start_wanted (Some cell) rest) mark part) 2 a.0.1) x a.2 in
    let c = then_ok (befp_sample a.0.0 b.0.0) (or_left b.0.1 (axis_field 3 b.0.1)) x b.2 in
    let has = of_parts a.0.0 b.0.0 c.0.0 c.0.1 x c.2 in
    let share = data_parts bytes s.share a.0.1 (begins_part 1 bytes) fits (a.1 ∙ ap (λ (o : Option Share). Ok (o, a.0.1)) has.share_is) in
    let path = message_back (λ rest part. proof_left (start_wanted (Some cell) rest) mark part) 2 a.0.1 (s.path, flag) b.0.1 (omega arith) share.fits
    (b.1 ∙ ap (λ (o : Option (List Digest × ℕ)). Ok (o, b.0.1)) has.proof_is) in
    let axis : axis_field 3 b.0.1 ≡ Some (s.axis, []) = or_left_some b.0.1 (axis_field 3 b.0.1) c.0 c.1 ∙ ap₂ (λ (y : Axis) (l : List ℕ). Some (y, l)) has.axis_is has.none in
    let place : ℕ = position s.axis cell in
    let found : proof_left (Some place) mark path.part ≡ Ok (s.path, flag) =
    ap (λ (n : ℕ). proof_left (Some n) mark path.part) (sym (place_is_position s.axis cell))
    ∙ ap (λ (o : Option (Axis × List ℕ)). proof_left (place_wanted cell o) mark path.part) (sym axis) ∙ path.read in
    let proof = proof_back (Some place) mark path.part (s.path, flag) path.part_fits found in
    let proof_is : path.part ≡ proof_text flag place s.path = proof.parts ∙ ap (λ (n : ℕ). proof_text flag n s.path) (sym proof.place) in
    let axis_is : b.0.1 ≡ number_text 3 (axis_number s.axis) =
    axis_in_back 3 b.0.1 (s.axis, []) (omega arith) path.fits axis ∙ append-nil (number_text 3 (axis_number s.axis)) in
    let behind : a.0.1 ≡ bytes_field 2 (proof_text flag place s.path) ++ number_text 3 (axis_number s.axis) =
    path.parts ∙ ap₂ (λ (l r : List ℕ). bytes_field 2 l ++ r) proof_is axis_is in
    record {
      is = record { share = share.is; few = proof.few; nodes = proof.are };
      passes = proof.passes;
      same = proof.same;
      text = share.parts ∙ ap (λ (l : List ℕ). bytes_field 1 s.share.0 ++ l) behind;
    }
