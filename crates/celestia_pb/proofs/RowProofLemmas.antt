-- Proofs of a row's shares, or of an absence, written and read.
use Rattle.std.proofs.Common.{◌≡◌, ◌∙◌, ℕ, ◌+◌, ◌*◌, ◌^◌, ◌<◌, ◌≤◌, Bool, true, false, cond, ◌&&◌, ◌||◌, ◌==◌, eqb, eqb-true, ltb-true, lt-ltb, List, [], ◌++◌, length, Ok, Err, refl, sym, ap, ap₂, subst, arith, append-nil, length-append}
use Rattle.std.proofs.lemmas.Bool.{and_parts, and_from}
use Rattle.std.proofs.lemmas.Bool.Decides.{nat_tests}
use Rattle.std.proofs.lemmas.List.{nil_from_length}
use Rattle.namespace_id.specs.declared.digests.Digest.{Digest}
use Rattle.namespace_id.specs.Bytes.{AreBytes}
use Rattle.namespace_id.specs.Digests.{AreDigests}
use Rattle.proto_fields.specs.Canonical.{number_text, begins}
use Rattle.celestia_pb.specs.Reading.{then_read}
use Rattle.celestia_pb.specs.Digests.{digests_text, digests_at, digests_in, entry_digest}
use Rattle.celestia_pb.specs.Messages.{number_left}
use Rattle.celestia_pb.specs.Inclusions.{is_stop, is_flag}
use Rattle.celestia_pb.specs.RowProofs.{leaf_count, hash_count, RowProofParts, row_proof_text, is_short, has_all_parts, row_proof_end, row_proof_flag, row_proof_hashes, row_proof_nodes, row_proof_stop, row_proof_left}
use Rattle.celestia_pb.proofs.Steps.{cond_ok, then_ok}
use Rattle.celestia_pb.proofs.DigestLemmas.{begins_digests, digests_are_read, read_are_digests}
use Rattle.celestia_pb.proofs.EntryLemmas.{length-digests_text}
use Rattle.celestia_pb.proofs.EntryListLemmas.{length-entries}
use Rattle.celestia_pb.proofs.MessageLemmas.{number_few, begins_number, number_left_is_read, number_left_back, number_left_passes}

-- a number is itself
eqb_self : (n : ℕ) → eqb n n ≡ true
eqb_self n = grind (arith, nat_tests)

-- two numbers that are one
eqb_of : (a b : ℕ) → a ≡ b → eqb a b ≡ true
eqb_of a b same = ap (eqb a) (sym same) ∙ eqb_self a

-- it is 0 or itself
or_self : (n : ℕ) → ((n == 0) || (n == n)) ≡ true
or_self n = grind (arith, nat_tests)

-- ---- how long it is

-- its parts
pub length_row_proof : (start count : ℕ) (nodes hashes : List Digest) → AreDigests nodes → AreDigests hashes
    → length (row_proof_text start count nodes hashes)
    ≡ length (number_text 1 start) + (length (number_text 2 (start + leaf_count count)) + (92 * length nodes + (92 * length hashes + length (number_text 5 1))))
length_row_proof start count nodes hashes all leaves =
    let t4 : List ℕ = digests_text 4 hashes ++ number_text 5 1 in
    let t3 : List ℕ = digests_text 3 nodes ++ t4 in
    omega (
      arith,
      length-append (number_text 1 start) (number_text 2 (start + leaf_count count) ++ t3),
      length-append (number_text 2 (start + leaf_count count)) t3,
      length-append (digests_text 3 nodes) t4,
      length-append (digests_text 4 hashes) (number_text 5 1),
      length-digests_text 3 nodes (omega arith) all,
      length-digests_text 4 hashes (omega arith) leaves,
    )

-- a few bytes more than its digests
pub row_proof_few : (start count : ℕ) (nodes hashes : List Digest) → AreDigests nodes → AreDigests hashes
    → length (row_proof_text start count nodes hashes) ≤ 92 * length nodes + 92 * length hashes + 60
row_proof_few start count nodes hashes all leaves =
    omega (
      arith,
      length_row_proof start count nodes hashes all leaves,
      number_few 1 start,
      number_few 2 (start + leaf_count count),
      number_few 5 1,
    )

-- ---- what is written is read

-- the flag has its own tag
flag_front : (tag : ℕ) → eqb 40 tag ≡ false → begins tag (number_text 5 1) ≡ false
flag_front tag other = ap (begins tag) (sym (append-nil (number_text 5 1))) ∙ begins_number tag 5 1 [] (omega arith) other refl

-- the proof of so many shares is read back
pub row_proof_is_read : (start count : ℕ) (nodes hashes : List Digest) → start < 2 ^ 16 → start + leaf_count count < 2 ^ 64 → AreDigests nodes → length nodes ≤ 20
    → AreDigests hashes → length hashes ≡ hash_count count → row_proof_left count (row_proof_text start count nodes hashes) ≡ Ok (start, (nodes, hashes))
row_proof_is_read start count nodes hashes short lt all few leaves same =
    let stop : ℕ = start + leaf_count count in
    let t5 : List ℕ = number_text 5 1 in
    let t4 : List ℕ = digests_text 4 hashes ++ t5 in
    let t3 : List ℕ = digests_text 3 nodes ++ t4 in
    let t2 : List ℕ = number_text 2 stop ++ t3 in
    let end5 : t5 ≡ t5 ++ [] = sym (append-nil t5) in
    let none34 : begins 34 t5 ≡ false = flag_front 34 refl in
    let none26 : begins 26 t4 ≡ false = begins_digests 26 4 hashes t5 (omega arith) refl (flag_front 26 refl) in
    let none16 : begins 16 t3 ≡ false =
    begins_digests 16 3 nodes t4 (omega arith) refl (begins_digests 16 4 hashes t5 (omega arith) refl (flag_front 16 refl)) in
    let none8 : begins 8 t2 ≡ false =
    begins_number 8 2 stop t3 (omega arith) refl (begins_digests 8 3 nodes t4 (omega arith) refl (begins_digests 8 4 hashes t5 (omega arith) refl (flag_front 8 refl))) in
    let many : length hashes ≤ hash_count count = omega (arith, same) in
    let whole : has_all_parts count start stop (length hashes) 1 0 ≡ true =
    and_from _ _ (eqb_self stop) (and_from _ _ (eqb_of (length hashes) (hash_count count) same) refl) in
    ap (then_read (row_proof_stop count)) (number_left_is_read is_short 1 start t2 (lt-ltb start (2 ^ 16) short) (omega arith) (omega arith) none8)
    ∙ ap (then_read (row_proof_nodes count start)) (number_left_is_read (is_stop start (leaf_count count)) 2 stop t3 (or_self stop) (omega arith) lt none16)
    ∙ ap (then_read (row_proof_hashes count start stop)) (digests_are_read 3 20 nodes t4 (omega arith) all few none26)
    ∙ ap (then_read (row_proof_flag count start stop nodes)) (digests_are_read 4 (hash_count count) hashes t5 (omega arith) leaves many none34)
    ∙ ap (row_proof_flag count start stop nodes hashes) end5
    ∙ ap (then_read (row_proof_end count start stop nodes hashes)) (number_left_is_read is_flag 5 1 [] refl (omega arith) (omega arith) refl)
    ∙ ap (λ (b : Bool). cond b (Ok (start, (nodes, hashes))) (Err 0)) whole

-- ---- what is read was written

-- what is read as a proof
pub record IsRowProofRead (count : ℕ) (bytes : List ℕ) (start : ℕ) (nodes hashes : List Digest) : Type 0 where
  pub short : start < 2 ^ 16
  pub few : length nodes ≤ 20
  pub nodes_are : AreDigests nodes
  pub hashes_are : AreDigests hashes
  pub many : length hashes ≡ hash_count count
  pub parts : bytes ≡ row_proof_text start count nodes hashes

-- what is read as a proof was written so
pub row_proof_back : (count : ℕ) (bytes : List ℕ) (x : RowProofParts) → AreBytes bytes → row_proof_left count bytes ≡ Ok x
    → IsRowProofRead count bytes x.0 x.1.0 x.1.1
row_proof_back count bytes x fits e =
    let s = then_ok (row_proof_stop count) (number_left is_short 1 bytes) x e in
    let start : ℕ = s.0.0 in
    let n1 = number_left_back is_short 1 bytes s.0 (omega arith) fits s.1 in
    let short : start < 2 ^ 16 = ltb-true start (2 ^ 16) (number_left_passes is_short 1 bytes s.0 s.1) in
    let t = then_ok (row_proof_nodes count start) (number_left (is_stop start (leaf_count count)) 2 s.0.1) x s.2 in
    let stop : ℕ = t.0.0 in
    let n2 = number_left_back (is_stop start (leaf_count count)) 2 s.0.1 t.0 (omega arith) n1.fits t.1 in
    let d = then_ok (row_proof_hashes count start stop) (digests_at 3 20 t.0.1) x t.2 in
    let nodes : List Digest = d.0.0 in
    let n3 = read_are_digests 3 20 t.0.1 d.0.0 d.0.1 (omega arith) n2.fits d.1 in
    let h = then_ok (row_proof_flag count start stop nodes) (digests_at 4 (hash_count count) d.0.1) x d.2 in
    let hashes : List Digest = h.0.0 in
    let n4 = read_are_digests 4 (hash_count count) d.0.1 h.0.0 h.0.1 (omega arith) n3.fits h.1 in
    let f = then_ok (row_proof_end count start stop nodes hashes) (number_left is_flag 5 h.0.1) x h.2 in
    let flag : ℕ = f.0.0 in
    let rest : List ℕ = f.0.1 in
    let n5 = number_left_back is_flag 5 h.0.1 f.0 (omega arith) n4.fits f.1 in
    let test = cond_ok (has_all_parts count start stop (length hashes) flag (length rest)) (start, (nodes, hashes)) x (length rest) f.2 in
    let w = and_parts (eqb (length rest) 0) ((stop == start + leaf_count count) && ((length hashes == hash_count count) && (flag == 1))) test.0 in
    let p = and_parts (eqb stop (start + leaf_count count)) ((length hashes == hash_count count) && (flag == 1)) w.1 in
    let q = and_parts (eqb (length hashes) (hash_count count)) (eqb flag 1) p.1 in
    let none : rest ≡ [] = nil_from_length rest (eqb-true (length rest) 0 w.0) in
    let is_stop : stop ≡ start + leaf_count count = eqb-true stop (start + leaf_count count) p.0 in
    let is_flag : flag ≡ 1 = eqb-true flag 1 q.1 in
    let t5 : h.0.1 ≡ number_text 5 1 =
    n5.parts ∙ ap₂ (λ (k : ℕ) (l : List ℕ). number_text 5 k ++ l) is_flag none ∙ append-nil (number_text 5 1) in
    let t4 : d.0.1 ≡ digests_text 4 hashes ++ number_text 5 1 = n4.parts ∙ ap (λ (l : List ℕ). digests_text 4 hashes ++ l) t5 in
    let t3 : t.0.1 ≡ digests_text 3 nodes ++ (digests_text 4 hashes ++ number_text 5 1) = n3.parts ∙ ap (λ (l : List ℕ). digests_text 3 nodes ++ l) t4 in
    let t2 : s.0.1 ≡ number_text 2 (start + leaf_count count) ++ (digests_text 3 nodes ++ (digests_text 4 hashes ++ number_text 5 1)) =
    n2.parts ∙ ap₂ (λ (k : ℕ) (l : List ℕ). number_text 2 k ++ l) is_stop t3 in
    subst (λ (y : RowProofParts). IsRowProofRead count bytes y.0 y.1.0 y.1.1) test.1 (record {
      short = short;
      few = n3.few;
      nodes_are = n3.are;
      hashes_are = n4.are;
      many = eqb-true (length hashes) (hash_count count) q.0;
      parts = n1.parts ∙ ap (λ (l : List ℕ). number_text 1 start ++ l) t2;
    })

-- ---- as the code reads it

-- each part was found where the one before ended
pub row_proof_found : (count : ℕ) (bytes : List ℕ) (start place leaves most : ℕ) (behind : List ℕ) (stop : ℕ) (nodes : List ℕ) (many : ℕ) (after : List ℕ) (hashes : ℕ)
    (last : List ℕ) (flag : ℕ) (rest : List ℕ) → place ≡ start → leaves ≡ leaf_count count → most ≡ hash_count count → number_left is_short 1 bytes ≡ Ok (start, behind)
    → number_left (is_stop place leaves) 2 behind ≡ Ok (stop, nodes) → digests_at 3 20 nodes ≡ Ok (digests_in many nodes, after)
    → digests_at 4 most after ≡ Ok (digests_in hashes after, last) → number_left is_flag 5 last ≡ Ok (flag, rest)
    → (b : Bool) → has_all_parts count place stop hashes flag (length rest) ≡ b
    → row_proof_left count bytes ≡ cond b (Ok (start, (digests_in many nodes, digests_in hashes after))) (Err (length rest))
row_proof_found count bytes start place leaves most behind stop nodes many after hashes last flag rest same is_leaves is_most first second third fourth fifth b test =
    let told : List Digest = digests_in many nodes in
    let found : List Digest = digests_in hashes after in
    ap (then_read (row_proof_stop count)) first
    ∙ ap (then_read (row_proof_nodes count start)) (ap₂ (λ (p l : ℕ). number_left (is_stop p l) 2 behind) (sym same) (sym is_leaves) ∙ second)
    ∙ ap (then_read (row_proof_hashes count start stop)) third
    ∙ ap (then_read (row_proof_flag count start stop told)) (ap (λ (m : ℕ). digests_at 4 m after) (sym is_most) ∙ fourth)
    ∙ ap (then_read (row_proof_end count start stop told found)) fifth
    ∙ ap (λ (b : Bool). cond b (Ok (start, (told, found))) (Err (length rest)))
    (ap₂ (λ (p h : ℕ). has_all_parts count p stop h flag (length rest)) (sym same) (length-entries entry_digest 92 hashes after) ∙ test)
