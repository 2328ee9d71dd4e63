-- Proofs of leaves that are shown, written and read.
use Rattle.std.proofs.Common.{◌≡◌, ◌∙◌, ℕ, ◌+◌, ◌*◌, ◌^◌, ◌<◌, ◌≤◌, Bool, true, false, cond, ◌&&◌, ◌||◌, ◌==◌, eqb, eqb-true, List, [], ◌++◌, length, Option, Ok, Err, refl, sym, ap, ap₂, subst, arith, append-nil, length-append}
use Rattle.std.proofs.lemmas.Bool.{and_parts, and_from}
use Rattle.std.proofs.lemmas.Bool.Decides.{nat_tests}
use Rattle.std.proofs.lemmas.List.{nil_from_length}
use Rattle.namespace_id.specs.declared.digests.Digest.{Digest}
use Rattle.namespace_id.specs.Bytes.{AreBytes}
use Rattle.namespace_id.specs.Digests.{AreDigests}
use Rattle.proto_fields.specs.Canonical.{number_text, begins}
use Rattle.celestia_pb.specs.Reading.{then_read}
use Rattle.celestia_pb.specs.Digests.{digests_text, digests_at}
use Rattle.celestia_pb.specs.Messages.{number_left}
use Rattle.celestia_pb.specs.Inclusions.{inclusion_text, is_place_stated, place_stated, is_stop, is_flag, is_whole, inclusion_end, inclusion_flag, inclusion_nodes, inclusion_stop, inclusion_left}
use Rattle.celestia_pb.proofs.Steps.{cond_ok, then_ok}
use Rattle.celestia_pb.proofs.DigestLemmas.{begins_digests, digests_are_read, read_are_digests}
use Rattle.celestia_pb.proofs.EntryLemmas.{length-digests_text}
use Rattle.celestia_pb.proofs.MessageLemmas.{number_few, begins_number, number_left_is_read, number_left_back}

-- a number is itself
eqb_self : (n : ℕ) → eqb n n ≡ true
eqb_self n = grind (arith, nat_tests)

-- it is 0 or itself
or_self : (n : ℕ) → ((n == 0) || (n == n)) ≡ true
or_self n = grind (arith, nat_tests)

-- ---- what is written is read

-- how long it is
pub inclusion_few : (start count : ℕ) (nodes : List Digest) → AreDigests nodes → length (inclusion_text start count nodes) ≤ 92 * length nodes + 60
inclusion_few start count nodes all =
    let behind : List ℕ = digests_text 3 nodes ++ number_text 5 1 in
    omega (
      arith,
      length-append (number_text 1 start) (number_text 2 (start + count) ++ behind),
      length-append (number_text 2 (start + count)) behind,
      length-append (digests_text 3 nodes) (number_text 5 1),
      length-digests_text 3 nodes (omega arith) all,
      number_few 1 start,
      number_few 2 (start + count),
      number_few 5 1,
    )

-- the proof of so many leaves is read back, where it is wanted so
pub inclusion_is_read : (wanted : Option ℕ) (start count most : ℕ) (nodes : List Digest) → place_stated wanted start ≡ start → is_place_stated wanted start ≡ true
    → start + count < 2 ^ 64 → AreDigests nodes → length nodes ≤ most → inclusion_left wanted count most (inclusion_text start count nodes) ≡ Ok (start, nodes)
inclusion_is_read wanted start count most nodes same right lt all few =
    let stop : ℕ = start + count in
    let t5 : List ℕ = number_text 5 1 in
    let t3 : List ℕ = digests_text 3 nodes ++ t5 in
    let t2 : List ℕ = number_text 2 stop ++ t3 in
    let end5 : t5 ≡ t5 ++ [] = sym (append-nil t5) in
    let none26 : begins 26 t5 ≡ false = ap (begins 26) end5 ∙ begins_number 26 5 1 [] (omega arith) refl refl in
    let none16 : begins 16 t3 ≡ false = begins_digests 16 3 nodes t5 (omega arith) refl (ap (begins 16) end5 ∙ begins_number 16 5 1 [] (omega arith) refl refl) in
    let none8 : begins 8 t2 ≡ false =
    begins_number 8 2 stop t3 (omega arith) refl (begins_digests 8 3 nodes t5 (omega arith) refl (ap (begins 8) end5 ∙ begins_number 8 5 1 [] (omega arith) refl refl)) in
    let stops : is_stop (place_stated wanted start) count stop ≡ true = ap (λ (p : ℕ). is_stop p count stop) same ∙ or_self stop in
    let whole : is_whole (place_stated wanted start) count start stop 1 0 ≡ true =
    ap (λ (p : ℕ). is_whole p count start stop 1 0) same ∙ and_from _ _ (eqb_self start) (and_from _ _ (eqb_self stop) refl) in
    ap (then_read (inclusion_stop wanted count most)) (number_left_is_read (is_place_stated wanted) 1 start t2 right (omega arith) (omega arith) none8)
    ∙ ap (then_read (inclusion_nodes wanted count most start)) (number_left_is_read (is_stop (place_stated wanted start) count) 2 stop t3 stops (omega arith) lt none16)
    ∙ ap (then_read (inclusion_flag wanted count start stop)) (digests_are_read 3 most nodes t5 (omega arith) all few none26)
    ∙ ap (inclusion_flag wanted count start stop nodes) end5
    ∙ ap (then_read (inclusion_end wanted count start stop nodes)) (number_left_is_read is_flag 5 1 [] refl (omega arith) (omega arith) refl)
    ∙ ap (λ (b : Bool). cond b (Ok (start, nodes)) (Err 0)) whole

-- ---- what is read was written

-- what is read as a proof
pub record IsInclusionRead (wanted : Option ℕ) (count most : ℕ) (bytes : List ℕ) (start : ℕ) (nodes : List Digest) : Type 0 where
  pub place : place_stated wanted start ≡ start
  pub short : start + count < 2 ^ 64
  pub few : length nodes ≤ most
  pub are : AreDigests nodes
  pub parts : bytes ≡ inclusion_text start count nodes

-- what is read as a proof was written so
pub inclusion_back : (wanted : Option ℕ) (count most : ℕ) (bytes : List ℕ) (x : ℕ × List Digest) → AreBytes bytes → inclusion_left wanted count most bytes ≡ Ok x
    → IsInclusionRead wanted count most bytes x.0 x.1
inclusion_back wanted count most bytes x fits e =
    let s = then_ok (inclusion_stop wanted count most) (number_left (is_place_stated wanted) 1 bytes) x e in
    let start : ℕ = s.0.0 in
    let place : ℕ = place_stated wanted start in
    let n1 = number_left_back (is_place_stated wanted) 1 bytes s.0 (omega arith) fits s.1 in
    let t = then_ok (inclusion_nodes wanted count most start) (number_left (is_stop place count) 2 s.0.1) x s.2 in
    let stop : ℕ = t.0.0 in
    let n2 = number_left_back (is_stop place count) 2 s.0.1 t.0 (omega arith) n1.fits t.1 in
    let d = then_ok (inclusion_flag wanted count start stop) (digests_at 3 most t.0.1) x t.2 in
    let nodes : List Digest = d.0.0 in
    let n3 = read_are_digests 3 most t.0.1 d.0.0 d.0.1 (omega arith) n2.fits d.1 in
    let f = then_ok (inclusion_end wanted count start stop nodes) (number_left is_flag 5 d.0.1) x d.2 in
    let flag : ℕ = f.0.0 in
    let rest : List ℕ = f.0.1 in
    let n4 = number_left_back is_flag 5 d.0.1 f.0 (omega arith) n3.fits f.1 in
    let test = cond_ok (is_whole place count start stop flag (length rest)) (start, nodes) x (length rest) f.2 in
    let w = and_parts (eqb (length rest) 0) ((start == place) && ((stop == place + count) && (flag == 1))) test.0 in
    let p = and_parts (eqb start place) ((stop == place + count) && (flag == 1)) w.1 in
    let q = and_parts (eqb stop (place + count)) (eqb flag 1) p.1 in
    let none : rest ≡ [] = nil_from_length rest (eqb-true (length rest) 0 w.0) in
    let is_place : start ≡ place = eqb-true start place p.0 in
    let is_stop : stop ≡ start + count = eqb-true stop (place + count) q.0 ∙ ap (λ (k : ℕ). k + count) (sym is_place) in
    let is_flag : flag ≡ 1 = eqb-true flag 1 q.1 in
    let t5 : d.0.1 ≡ number_text 5 1 =
    n4.parts ∙ ap₂ (λ (k : ℕ) (l : List ℕ). number_text 5 k ++ l) is_flag none ∙ append-nil (number_text 5 1) in
    let t3 : t.0.1 ≡ digests_text 3 nodes ++ number_text 5 1 = n3.parts ∙ ap (λ (l : List ℕ). digests_text 3 nodes ++ l) t5 in
    let t2 : s.0.1 ≡ number_text 2 (start + count) ++ (digests_text 3 nodes ++ number_text 5 1) =
    n2.parts ∙ ap₂ (λ (k : ℕ) (l : List ℕ). number_text 2 k ++ l) is_stop t3 in
    subst (λ (y : ℕ × List Digest). IsInclusionRead wanted count most bytes y.0 y.1) test.1 (record {
      place = sym is_place;
      short = subst (λ (k : ℕ). k < 2 ^ 64) is_stop n2.few;
      few = n3.few;
      are = n3.are;
      parts = n1.parts ∙ ap (λ (l : List ℕ). number_text 1 start ++ l) t2;
    })
