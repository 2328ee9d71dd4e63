-- Proofs of one leaf with a flag, written and read.
use Rattle.std.proofs.Common.{◌≡◌, ◌∙◌, ℕ, ◌+◌, ◌*◌, ◌^◌, ◌<◌, ◌≤◌, Bool, true, false, cond, ◌&&◌, ◌||◌, ◌==◌, eqb, eqb-true, List, [], ◌++◌, length, Option, Some, None, Ok, Err, refl, sym, ap, ap₂, subst, arith, append-nil, length-append}
use Rattle.std.proofs.lemmas.Bool.{and_parts, and_from}
use Rattle.std.proofs.lemmas.Bool.Decides.{nat_tests}
use Rattle.std.proofs.lemmas.List.{nil_from_length}
use Rattle.namespace_id.specs.declared.digests.Digest.{Digest}
use Rattle.namespace_id.specs.Bytes.{AreBytes}
use Rattle.namespace_id.specs.Digests.{AreDigests}
use Rattle.proto_fields.specs.Canonical.{number_text, begins}
use Rattle.celestia_pb.specs.Reading.{then_read}
use Rattle.celestia_pb.specs.Digests.{digests_text, digests_at}
use Rattle.celestia_pb.specs.Messages.{number_left}
use Rattle.celestia_pb.specs.Inclusions.{is_place_stated, place_stated, is_stop}
use Rattle.celestia_pb.specs.BefpEntries.{proof_text, is_mark, is_proof, proof_end, proof_flag, proof_nodes, proof_stop, proof_left}
use Rattle.celestia_pb.proofs.Steps.{cond_ok, then_ok}
use Rattle.celestia_pb.proofs.DigestLemmas.{begins_digests, digests_are_read, read_are_digests}
use Rattle.celestia_pb.proofs.EntryLemmas.{length-digests_text}
use Rattle.celestia_pb.proofs.MessageLemmas.{number_few, begins_number, number_left_is_read, number_left_back, number_left_passes}
use Rattle.celestia_pb.proofs.AxisLemmas.{begins_last}

-- a number is itself
eqb_self : (n : ℕ) → eqb n n ≡ true
eqb_self n = grind (arith, nat_tests)

-- it is 0 or itself
or_self : (n : ℕ) → ((n == 0) || (n == n)) ≡ true
or_self n = grind (arith, nat_tests)

-- ---- flags

-- a flag is none or one, and that of the proofs before, if there is one
pub record IsFlag (mark : Option ℕ) (flag : ℕ) : Type 0 where
  pub few : flag ≤ 1
  pub same : place_stated mark flag ≡ flag

-- so it may be there
pub flag_passes : (mark : Option ℕ) (flag : ℕ) → IsFlag mark flag → is_mark mark flag ≡ true
flag_passes None flag is = let few : flag ≤ 1 = is.few in grind (arith, nat_tests)
flag_passes (Some before) flag is = ap (λ (n : ℕ). (flag == 0) || (flag == n)) is.same ∙ or_self flag

-- flags of the proofs before are none or one
abbrev pub IsSmall : Option ℕ → Type 0
IsSmall mark = (flag : ℕ) → mark ≡ Some flag → flag ≤ 1

-- one that may be there and is theirs
pub flag_is : (mark : Option ℕ) (flag : ℕ) → IsSmall mark → is_mark mark flag ≡ true → place_stated mark flag ≡ flag → IsFlag mark flag
flag_is None flag small passes same = record { few = few_of passes; same = same }
  where
    few_of : ((flag == 0) || (flag == 1)) ≡ true → flag ≤ 1
    few_of test = grind (arith, nat_tests)
flag_is (Some before) flag small passes same = record { few = small flag (ap (λ (n : ℕ). Some n) same); same = same }

-- ---- what is written is read

-- how long it is
pub proof_few : (flag start : ℕ) (nodes : List Digest) → AreDigests nodes → length (proof_text flag start nodes) ≤ 92 * length nodes + 60
proof_few flag start nodes all =
    let behind : List ℕ = digests_text 3 nodes ++ number_text 5 flag in
    omega (
      arith,
      length-append (number_text 1 start) (number_text 2 (start + 1) ++ behind),
      length-append (number_text 2 (start + 1)) behind,
      length-append (digests_text 3 nodes) (number_text 5 flag),
      length-digests_text 3 nodes (omega arith) all,
      number_few 1 start,
      number_few 2 (start + 1),
      number_few 5 flag,
    )

-- the proof of a leaf is read back, where it is wanted and its flag may be there
pub proof_is_read : (wanted mark : Option ℕ) (flag start : ℕ) (nodes : List Digest) → place_stated wanted start ≡ start → is_place_stated wanted start ≡ true
    → start + 1 < 2 ^ 64 → AreDigests nodes → length nodes ≤ 10 → IsFlag mark flag → proof_left wanted mark (proof_text flag start nodes) ≡ Ok (nodes, flag)
proof_is_read wanted mark flag start nodes same right lt all few is =
    let stop : ℕ = start + 1 in
    let one : flag ≤ 1 = is.few in
    let t5 : List ℕ = number_text 5 flag in
    let t3 : List ℕ = digests_text 3 nodes ++ t5 in
    let t2 : List ℕ = number_text 2 stop ++ t3 in
    let end5 : t5 ≡ t5 ++ [] = sym (append-nil t5) in
    let none26 : begins 26 t5 ≡ false = begins_last 26 5 flag (omega arith) refl in
    let none16 : begins 16 t3 ≡ false = begins_digests 16 3 nodes t5 (omega arith) refl (begins_last 16 5 flag (omega arith) refl) in
    let none8 : begins 8 t2 ≡ false =
    begins_number 8 2 stop t3 (omega arith) refl (begins_digests 8 3 nodes t5 (omega arith) refl (begins_last 8 5 flag (omega arith) refl)) in
    let stops : is_stop (place_stated wanted start) 1 stop ≡ true = ap (λ (p : ℕ). is_stop p 1 stop) same ∙ or_self stop in
    let whole : is_proof (place_stated wanted start) (place_stated mark flag) start stop flag 0 ≡ true =
    ap₂ (λ (p m : ℕ). is_proof p m start stop flag 0) same is.same ∙ and_from _ _ (eqb_self start) (and_from _ _ (eqb_self stop) (eqb_self flag)) in
    ap (then_read (proof_stop wanted mark)) (number_left_is_read (is_place_stated wanted) 1 start t2 right (omega arith) (omega arith) none8)
    ∙ ap (then_read (proof_nodes wanted mark start)) (number_left_is_read (is_stop (place_stated wanted start) 1) 2 stop t3 stops (omega arith) lt none16)
    ∙ ap (then_read (proof_flag wanted mark start stop)) (digests_are_read 3 10 nodes t5 (omega arith) all few none26)
    ∙ ap (proof_flag wanted mark start stop nodes) end5
    ∙ ap (then_read (proof_end wanted mark start stop nodes)) (number_left_is_read (is_mark mark) 5 flag [] (flag_passes mark flag is) (omega arith) (omega arith) refl)
    ∙ ap (λ (b : Bool). cond b (Ok (nodes, flag)) (Err 0)) whole

-- ---- what is read was written

-- what is read as a proof
pub record IsProofRead (wanted mark : Option ℕ) (bytes : List ℕ) (nodes : List Digest) (flag : ℕ) : Type 0 where
  pub start : ℕ
  pub place : place_stated wanted start ≡ start
  pub few : length nodes ≤ 10
  pub are : AreDigests nodes
  pub passes : is_mark mark flag ≡ true
  pub same : place_stated mark flag ≡ flag
  pub parts : bytes ≡ proof_text flag start nodes

-- what is read as a proof was written so
pub proof_back : (wanted mark : Option ℕ) (bytes : List ℕ) (x : List Digest × ℕ) → AreBytes bytes → proof_left wanted mark bytes ≡ Ok x
    → IsProofRead wanted mark bytes x.0 x.1
proof_back wanted mark bytes x fits e =
    let s = then_ok (proof_stop wanted mark) (number_left (is_place_stated wanted) 1 bytes) x e in
    let start : ℕ = s.0.0 in
    let place : ℕ = place_stated wanted start in
    let n1 = number_left_back (is_place_stated wanted) 1 bytes s.0 (omega arith) fits s.1 in
    let t = then_ok (proof_nodes wanted mark start) (number_left (is_stop place 1) 2 s.0.1) x s.2 in
    let stop : ℕ = t.0.0 in
    let n2 = number_left_back (is_stop place 1) 2 s.0.1 t.0 (omega arith) n1.fits t.1 in
    let d = then_ok (proof_flag wanted mark start stop) (digests_at 3 10 t.0.1) x t.2 in
    let nodes : List Digest = d.0.0 in
    let n3 = read_are_digests 3 10 t.0.1 d.0.0 d.0.1 (omega arith) n2.fits d.1 in
    let f = then_ok (proof_end wanted mark start stop nodes) (number_left (is_mark mark) 5 d.0.1) x d.2 in
    let flag : ℕ = f.0.0 in
    let rest : List ℕ = f.0.1 in
    let own : ℕ = place_stated mark flag in
    let n4 = number_left_back (is_mark mark) 5 d.0.1 f.0 (omega arith) n3.fits f.1 in
    let test = cond_ok (is_proof place own start stop flag (length rest)) (nodes, flag) x (length rest) f.2 in
    let w = and_parts (eqb (length rest) 0) ((start == place) && ((stop == place + 1) && (flag == own))) test.0 in
    let p = and_parts (eqb start place) ((stop == place + 1) && (flag == own)) w.1 in
    let q = and_parts (eqb stop (place + 1)) (eqb flag own) p.1 in
    let none : rest ≡ [] = nil_from_length rest (eqb-true (length rest) 0 w.0) in
    let is_place : start ≡ place = eqb-true start place p.0 in
    let is_stop : stop ≡ start + 1 = eqb-true stop (place + 1) q.0 ∙ ap (λ (k : ℕ). k + 1) (sym is_place) in
    let t5 : d.0.1 ≡ number_text 5 flag =
    n4.parts ∙ ap (λ (l : List ℕ). number_text 5 flag ++ l) none ∙ append-nil (number_text 5 flag) in
    let t3 : t.0.1 ≡ digests_text 3 nodes ++ number_text 5 flag = n3.parts ∙ ap (λ (l : List ℕ). digests_text 3 nodes ++ l) t5 in
    let t2 : s.0.1 ≡ number_text 2 (start + 1) ++ (digests_text 3 nodes ++ number_text 5 flag) =
    n2.parts ∙ ap₂ (λ (k : ℕ) (l : List ℕ). number_text 2 k ++ l) is_stop t3 in
    subst (λ (y : List Digest × ℕ). IsProofRead wanted mark bytes y.0 y.1) test.1 (record {
      start = start;
      place = sym is_place;
      few = n3.few;
      are = n3.are;
      passes = number_left_passes (is_mark mark) 5 d.0.1 f.0 f.1;
      same = sym (eqb-true flag own q.1);
      parts = n1.parts ∙ ap (λ (l : List ℕ). number_text 1 start ++ l) t2;
    })
