-- What is found in a row, written and read.
use Rattle.std.proofs.Common.{◌≡◌, ◌∙◌, ℕ, zero, suc, ◌+◌, ◌*◌, ◌^◌, ◌<◌, ◌≤◌, Bool, false, cond, eqb, eqb-true, ltb, ltb-true, lt-ltb, leb, leb-true, le-leb, List, [], ◌∷◌, ◌++◌, length, map, Option, Some, None, Result, Ok, Err, refl, sym, ap, ap₂, subst, arith, append-nil, length-append}
use Rattle.std.proofs.lemmas.Bool.{and_parts, and_from}
use Rattle.std.proofs.lemmas.Bool.Decides.{nat_tests}
use Rattle.std.proofs.lemmas.List.{nil_from_length}
use Rattle.namespace_id.specs.declared.digests.Digest.{Digest}
use Rattle.namespace_id.specs.declared.shares.Share.{Share}
use Rattle.namespace_id.specs.Bytes.{AreBytes}
use Rattle.namespace_id.specs.Digests.{AreDigests}
use Rattle.namespace_id.specs.Shares.{AreShares}
use Rattle.proto_fields.specs.Spelled.{bytes_field, field_size}
use Rattle.proto_fields.specs.Canonical.{begins, begins_part}
use Rattle.proto_fields.proofs.WrittenLemmas.{size_is_length}
use Rattle.axis_roots.specs.declared.answers.Found.{Found}
use Rattle.axis_roots.specs.declared.answers.Found.TheVariants.{Range, Absence}
use Rattle.axis_roots.specs.declared.answers.NsEntry.{NsEntry}
use Rattle.celestia_pb.specs.ShareLists.{share_behind}
use Rattle.celestia_pb.specs.Reading.{then_read, with_offset}
use Rattle.celestia_pb.specs.Messages.{optional_message}
use Rattle.celestia_pb.specs.Samples.{share_message}
use Rattle.celestia_pb.specs.RowShares.{shares_text, shares_at, tagged_shares}
use Rattle.celestia_pb.specs.RowProofs.{leaf_count, hash_count, RowProofParts, row_proof_text, row_proof_left}
use Rattle.celestia_pb.specs.RowData.{row_text, found_message, found_by, row_end, row_proof, row_left, row_value}
use Rattle.celestia_pb.specs.RowDataLaws.{FoundHasMessage, share_messages, proof_message}
use Rattle.celestia_pb.proofs.Steps.{cond_ok, then_ok, placed_ok}
use Rattle.celestia_pb.proofs.Fronts.{begins_other}
use Rattle.celestia_pb.proofs.MessageLemmas.{field_few, message_is_read, message_back}
use Rattle.celestia_pb.proofs.ShareLemmas.{shares_are_read, read_are_shares}
use Rattle.celestia_pb.proofs.ShareEntries.{length-shares_text}
use Rattle.celestia_pb.proofs.EntryListLemmas.{length-entries}
use Rattle.celestia_pb.proofs.RowProofLemmas.{row_proof_few, row_proof_is_read, row_proof_back}

-- a number above 0 isn't 0
eqb_suc : (n : ℕ) → eqb (suc n) 0 ≡ false
eqb_suc n = grind (arith, nat_tests)

-- ---- its parts

-- shares and what their proof has, of which as many are there as have to be
pub record AreParts (shares : List Share) (start : ℕ) (nodes hashes : List Digest) : Type 0 where
  pub shares_are : AreShares shares
  pub few : length shares ≤ 512
  pub short : start < 2 ^ 16
  pub most : length nodes ≤ 20
  pub nodes_are : AreDigests nodes
  pub hashes_are : AreDigests hashes
  pub many : length hashes ≡ hash_count (length shares)

-- what is found by these has a message, which is theirs
pub record IsFoundBy (shares : List Share) (start : ℕ) (nodes hashes : List Digest) : Type 0 where
  pub has : FoundHasMessage (found_by shares start nodes hashes)
  pub text : row_text shares start nodes hashes ≡ found_message (found_by shares start nodes hashes)
  pub messages : map share_message shares ≡ share_messages (found_by shares start nodes hashes)
  pub proof : row_proof_text start (length shares) nodes hashes ≡ proof_message (found_by shares start nodes hashes)

-- some shares have no leaf hash
none_behind : (share : Share) (shares : List Share) → hash_count (length (share ∷ shares)) ≡ 0
none_behind share shares = ap (λ (b : Bool). cond b 1 0) (eqb_suc (length shares))

-- shares with a proof, or a leaf hash alone
pub found_is : (shares : List Share) (start : ℕ) (nodes hashes : List Digest) → AreParts shares start nodes hashes → IsFoundBy shares start nodes hashes
found_is [] start nodes [] are = let no : ◌≡◌ {A = ℕ} 0 1 = are.many in absurd (omega arith)
found_is (share ∷ shares) start nodes [] are = record {
  has = record {
    is = (are.short, are.shares_are, are.most, are.nodes_are);
    has = and_from _ _ (lt-ltb 0 (length (share ∷ shares)) (omega arith)) (le-leb (length (share ∷ shares)) 512 are.few);
  };
  text = refl;
  messages = refl;
  proof = refl;
}
found_is [] start nodes (leaf ∷ []) are = record {
  has = record { is = (are.short, are.hashes_are.0, are.most, are.nodes_are); has = refl };
  text = refl;
  messages = refl;
  proof = refl;
}
found_is [] start nodes (leaf ∷ other ∷ hashes) are = let no : length (leaf ∷ other ∷ hashes) ≡ 1 = are.many in absurd (omega arith)
found_is (share ∷ shares) start nodes (leaf ∷ hashes) are =
    let no : length (leaf ∷ hashes) ≡ 0 = are.many ∙ none_behind share shares in absurd (omega arith)

-- how long the message is
pub length_row : (shares : List Share) (start : ℕ) (nodes hashes : List Digest) → AreShares shares
    → length (row_text shares start nodes hashes) ≡ 518 * length shares + field_size 2 (length (row_proof_text start (length shares) nodes hashes))
length_row shares start nodes hashes all =
    let proof : List ℕ = row_proof_text start (length shares) nodes hashes in
    omega (arith, length-append (shares_text shares) (bytes_field 2 proof), length-shares_text shares all, size_is_length 2 proof)

-- ---- what is written is read

-- no share is in front of a proof
proof_front : (proof : List ℕ) → begins_part 1 (bytes_field 2 proof) ≡ false
proof_front proof = ap (begins 10) (sym (append-nil (bytes_field 2 proof))) ∙ begins_other 10 2 proof [] (omega arith) refl

-- its places are numbers of 64 bits
stop_fits : (start count : ℕ) → start < 2 ^ 16 → count ≤ 512 → start + leaf_count count < 2 ^ 64
stop_fits start zero short few = omega arith
stop_fits start (suc count) short few =
    let all : leaf_count (suc count) ≡ suc count = ap (λ (b : Bool). cond b 1 (suc count)) (eqb_suc count) in
    omega (arith, all)

-- it has up to one leaf hash
hashes_few : (count : ℕ) → hash_count count ≤ 1
hashes_few zero = omega arith
hashes_few (suc count) = let none : hash_count (suc count) ≡ 0 = ap (λ (b : Bool). cond b 1 0) (eqb_suc count) in omega (arith, none)

-- a proof isn't long
pub proof_small : (shares : List Share) (start : ℕ) (nodes hashes : List Digest) → AreParts shares start nodes hashes
    → length (row_proof_text start (length shares) nodes hashes) < 2 ^ 64
proof_small shares start nodes hashes are =
    omega (arith, row_proof_few start (length shares) nodes hashes are.nodes_are are.hashes_are, are.most, are.many, hashes_few (length shares))

-- the message of shares and of their proof
pub parts_are_read : (row : ℕ) (shares : List Share) (start : ℕ) (nodes hashes : List Digest) → AreParts shares start nodes hashes
    → row_left row (row_text shares start nodes hashes) ≡ Ok (record { row = row; found = found_by shares start nodes hashes })
parts_are_read row shares start nodes hashes are =
    let proof : List ℕ = row_proof_text start (length shares) nodes hashes in
    let lt : start + leaf_count (length shares) < 2 ^ 64 = stop_fits start (length shares) are.short are.few in
    let small : length proof < 2 ^ 64 = proof_small shares start nodes hashes are in
    ap (then_read (row_proof row)) (shares_are_read 512 shares (bytes_field 2 proof) are.shares_are are.few (proof_front proof))
    ∙ ap (row_proof row shares) (sym (append-nil (bytes_field 2 proof)))
    ∙ ap (then_read (row_end row shares)) (
    message_is_read (λ rest part. row_proof_left (length shares) part) 2 proof [] (start, (nodes, hashes)) (omega arith) small
    (row_proof_is_read start (length shares) nodes hashes are.short lt are.nodes_are are.most are.hashes_are are.many))

-- a range that has a message has these parts
range_parts : (start : ℕ) (shares : List Share) (nodes : List Digest) → FoundHasMessage (Range start shares nodes) → AreParts shares start nodes []
range_parts start shares nodes has =
    let test = and_parts (ltb 0 (length shares)) (leb (length shares) 512) has.has in
    let some : 0 < length shares = ltb-true 0 (length shares) test.0 in
    let other : eqb (length shares) 0 ≡ false = grind (arith, nat_tests) in
    record {
      shares_are = has.is.1;
      few = leb-true (length shares) 512 test.1;
      short = has.is.0;
      most = has.is.2;
      nodes_are = has.is.3;
      hashes_are = tt;
      many = sym (ap (λ (b : Bool). cond b 1 0) other);
    }

-- an absence has these
absence_parts : (pos : ℕ) (leaf : Digest) (nodes : List Digest) → FoundHasMessage (Absence pos leaf nodes) → AreParts [] pos nodes (leaf ∷ [])
absence_parts pos leaf nodes has = record {
  shares_are = tt;
  few = omega arith;
  short = has.is.0;
  most = has.is.2;
  nodes_are = has.is.3;
  hashes_are = (has.is.1, tt);
  many = refl;
}

-- what is found is found by its parts
pub row_is_read : (row : ℕ) (found : Found) → FoundHasMessage found → row_value row (found_message found) ≡ Ok (record { row = row; found = found })
row_is_read row (Range start shares nodes) has =
    ap (with_offset (length (found_message (Range start shares nodes)))) (parts_are_read row shares start nodes [] (range_parts start shares nodes has))
row_is_read row (Absence pos leaf nodes) has =
    ap (with_offset (length (found_message (Absence pos leaf nodes)))) (parts_are_read row [] pos nodes (leaf ∷ []) (absence_parts pos leaf nodes has))

-- a message isn't long
row_small : (shares : List Share) (start : ℕ) (nodes hashes : List Digest) → AreParts shares start nodes hashes
    → length (row_text shares start nodes hashes) < 2 ^ 64
row_small shares start nodes hashes are =
    let proof : List ℕ = row_proof_text start (length shares) nodes hashes in
    omega (
      arith,
      length-append (shares_text shares) (bytes_field 2 proof),
      length-shares_text shares are.shares_are,
      field_few 2 proof,
      row_proof_few start (length shares) nodes hashes are.nodes_are are.hashes_are,
      are.few,
      are.most,
      are.many,
      hashes_few (length shares),
    )

pub found_small : (found : Found) → FoundHasMessage found → length (found_message found) < 2 ^ 64
found_small (Range start shares nodes) has = row_small shares start nodes [] (range_parts start shares nodes has)
found_small (Absence pos leaf nodes) has = row_small [] pos nodes (leaf ∷ []) (absence_parts pos leaf nodes has)

-- ---- what is read was written

-- the proof was there, and nothing follows
record HasProof (row : ℕ) (shares : List Share) (o : Option RowProofParts) (rest : List ℕ) (entry : NsEntry) : Type 0 where
  proof : RowProofParts
  proof_is : o ≡ Some proof
  none : rest ≡ []
  entry_is : record { row = row; found = found_by shares proof.0 proof.1.0 proof.1.1 } ≡ entry

end_parts : (row : ℕ) (shares : List Share) (o : Option RowProofParts) (rest : List ℕ) (entry : NsEntry) → row_end row shares o rest ≡ Ok entry
    → HasProof row shares o rest entry
end_parts row shares None rest entry e = absurd cc
end_parts row shares (Some proof) rest entry e =
    let test = cond_ok (eqb (length rest) 0) (record { row = row; found = found_by shares proof.0 proof.1.0 proof.1.1 }) entry (length rest) e in
    record { proof = proof; proof_is = refl; none = nil_from_length rest (eqb-true (length rest) 0 test.0); entry_is = test.1 }

-- what is read as an entry
pub record IsRowRead (row : ℕ) (bytes : List ℕ) (entry : NsEntry) : Type 0 where
  pub shares : List Share
  pub start : ℕ
  pub nodes : List Digest
  pub hashes : List Digest
  pub are : AreParts shares start nodes hashes
  pub parts : bytes ≡ row_text shares start nodes hashes
  pub entry_is : record { row = row; found = found_by shares start nodes hashes } ≡ entry

-- what is read as an entry was written so
pub parts_back : (row : ℕ) (bytes : List ℕ) (entry : NsEntry) → AreBytes bytes → row_left row bytes ≡ Ok entry → IsRowRead row bytes entry
parts_back row bytes entry fits e =
    let a = then_ok (row_proof row) (shares_at 512 bytes) entry e in
    let shares : List Share = a.0.0 in
    let n1 = read_are_shares 512 bytes a.0.0 a.0.1 fits a.1 in
    let b = then_ok (row_end row shares) (optional_message (λ rest part. row_proof_left (length shares) part) 2 a.0.1) entry a.2 in
    let has = end_parts row shares b.0.0 b.0.1 entry b.2 in
    let start : ℕ = has.proof.0 in
    let nodes : List Digest = has.proof.1.0 in
    let hashes : List Digest = has.proof.1.1 in
    let m = message_back (λ rest part. row_proof_left (length shares) part) 2 a.0.1 has.proof b.0.1 (omega arith) n1.fits (b.1 ∙ ap (λ (o : Option RowProofParts). Ok (o, b.0.1)) has.proof_is) in
    let p = row_proof_back (length shares) m.part has.proof m.part_fits m.read in
    let behind : a.0.1 ≡ bytes_field 2 (row_proof_text start (length shares) nodes hashes) =
    m.parts ∙ ap₂ (λ (l r : List ℕ). bytes_field 2 l ++ r) p.parts has.none ∙ append-nil (bytes_field 2 (row_proof_text start (length shares) nodes hashes)) in
    record {
      shares = shares;
      start = start;
      nodes = nodes;
      hashes = hashes;
      are = record {
        shares_are = n1.are;
        few = n1.few;
        short = p.short;
        most = p.few;
        nodes_are = p.nodes_are;
        hashes_are = p.hashes_are;
        many = p.many;
      };
      parts = n1.parts ∙ ap (λ (l : List ℕ). shares_text shares ++ l) behind;
      entry_is = has.entry_is;
    }

-- an entry of the row that has a message, which the bytes are
pub row_back : (row : ℕ) (bytes : List ℕ) (entry : NsEntry) → AreBytes bytes → row_left row bytes ≡ Ok entry
    → (entry.row ≡ row) × FoundHasMessage entry.found × (bytes ≡ found_message entry.found)
row_back row bytes entry fits e =
    let was = parts_back row bytes entry fits e in
    let is = found_is was.shares was.start was.nodes was.hashes was.are in (
      sym (ap (λ (x : NsEntry). x.row) was.entry_is),
      subst (λ (x : NsEntry). FoundHasMessage x.found) was.entry_is is.has,
      was.parts ∙ is.text ∙ ap (λ (x : NsEntry). found_message x.found) was.entry_is,
    )

pub read_is_row : (row : ℕ) (bytes : List ℕ) (entry : NsEntry) → AreBytes bytes → row_value row bytes ≡ Ok entry
    → (entry.row ≡ row) × FoundHasMessage entry.found × (bytes ≡ found_message entry.found)
read_is_row row bytes entry fits e = row_back row bytes entry fits (placed_ok (length bytes) (row_left row bytes) entry e)

-- ---- as the code reads it

module _ (row count : ℕ) (bytes behind : List ℕ) (first : shares_at 512 bytes ≡ Ok (tagged_shares count bytes, behind)) where
  -- so many shares lie in front
  behind_shares : (r : Result (Option RowProofParts × List ℕ) ℕ) → optional_message (λ rest part. row_proof_left count part) 2 behind ≡ r
      → row_left row bytes ≡ then_read (row_end row (tagged_shares count bytes)) r
  behind_shares r second =
      let shares : List Share = tagged_shares count bytes in
      ap (then_read (row_proof row)) first
      ∙ ap (λ (n : ℕ). then_read (row_end row shares) (optional_message (λ rest part. row_proof_left n part) 2 behind)) (length-entries (share_behind 6) 518 count bytes)
      ∙ ap (then_read (row_end row shares)) second

  -- the proof is wrong
  pub row_refused : (left : ℕ) → optional_message (λ rest part. row_proof_left count part) 2 behind ≡ Err left → row_left row bytes ≡ Err left
  row_refused left second = behind_shares (Err left) second

  -- the proof is there
  pub row_found : (o : Option RowProofParts) (proof : RowProofParts) (rest : List ℕ) → o ≡ Some proof
      → optional_message (λ rest part. row_proof_left count part) 2 behind ≡ Ok (o, rest) → (b : Bool) → eqb (length rest) 0 ≡ b
      → row_left row bytes ≡ cond b (Ok (record { row = row; found = found_by (tagged_shares count bytes) proof.0 proof.1.0 proof.1.1 })) (Err (length rest))
  row_found o proof rest there second b test =
      behind_shares (Ok (o, rest)) second
      ∙ ap (λ (x : Option RowProofParts). row_end row (tagged_shares count bytes) x rest) there
      ∙ ap (λ (b : Bool). cond b (Ok (record { row = row; found = found_by (tagged_shares count bytes) proof.0 proof.1.0 proof.1.1 })) (Err (length rest))) test
