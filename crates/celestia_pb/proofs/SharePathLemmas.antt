-- Proofs of one share of a row, written and read.
use Rattle.std.proofs.Common.{◌≡◌, ◌∙◌, ℕ, ◌+◌, ◌*◌, ◌<◌, ◌≤◌, Bool, true, false, cond, ◌&&◌, eqb, eqb-true, ltb-true, lt-ltb, List, [], ◌++◌, length, Ok, Err, refl, sym, ap, ap₂, arith, append-nil, length-append}
use Rattle.std.proofs.lemmas.Bool.{and_parts}
use Rattle.std.proofs.lemmas.Bool.Decides.{nat_tests}
use Rattle.std.proofs.lemmas.List.{nil_from_length}
use Rattle.namespace_id.specs.declared.digests.Digest.{Digest}
use Rattle.namespace_id.specs.Bytes.{AreBytes}
use Rattle.namespace_id.specs.Digests.{AreDigests}
use Rattle.proto_fields.specs.Canonical.{number_text, begins}
use Rattle.celestia_pb.specs.declared.share_path.SharePath.{SharePath}
use Rattle.celestia_pb.specs.Reading.{then_read}
use Rattle.celestia_pb.specs.Digests.{digests_text, digests_at}
use Rattle.celestia_pb.specs.Messages.{number_left}
use Rattle.celestia_pb.specs.Inclusions.{is_stop}
use Rattle.celestia_pb.specs.SharePaths.{share_path_text, is_column, path_end, path_nodes, path_stop, share_path_left}
use Rattle.celestia_pb.proofs.Steps.{cond_ok, then_ok}
use Rattle.celestia_pb.proofs.DigestLemmas.{begins_digests, digests_are_read, read_are_digests}
use Rattle.celestia_pb.proofs.EntryLemmas.{length-digests_text}
use Rattle.celestia_pb.proofs.MessageLemmas.{number_few, begins_number, number_left_is_read, number_left_back, number_left_passes}

-- a number is itself
eqb_self : (n : ℕ) → eqb n n ≡ true
eqb_self n = grind (arith, nat_tests)

-- ---- how long it is

-- its parts
pub length_share_path : (col : ℕ) (nodes : List Digest) → AreDigests nodes
    → length (share_path_text col nodes) ≡ length (number_text 1 col) + (length (number_text 2 (col + 1)) + 92 * length nodes)
length_share_path col nodes all =
    omega (
      arith,
      length-append (number_text 1 col) (number_text 2 (col + 1) ++ digests_text 3 nodes),
      length-append (number_text 2 (col + 1)) (digests_text 3 nodes),
      length-digests_text 3 nodes (omega arith) all,
    )

-- a few bytes more than its nodes
pub share_path_few : (col : ℕ) (nodes : List Digest) → AreDigests nodes → length (share_path_text col nodes) ≤ 92 * length nodes + 40
share_path_few col nodes all = omega (arith, length_share_path col nodes all, number_few 1 col, number_few 2 (col + 1))

-- ---- what is written is read

-- the column behind
stops : (col : ℕ) → is_stop col 1 (col + 1) ≡ true
stops col = grind (arith, nat_tests)

-- the proof of the share in a column
pub share_path_is_read : (col : ℕ) (nodes : List Digest) → col < 1024 → AreDigests nodes → length nodes ≤ 10
    → share_path_left (share_path_text col nodes) ≡ Ok (record { col = col; nodes = nodes })
share_path_is_read col nodes lt all few =
    let stop : ℕ = col + 1 in
    let t3 : List ℕ = digests_text 3 nodes in
    let t2 : List ℕ = number_text 2 stop ++ t3 in
    let end3 : t3 ≡ t3 ++ [] = sym (append-nil t3) in
    let none16 : begins 16 t3 ≡ false = ap (begins 16) end3 ∙ begins_digests 16 3 nodes [] (omega arith) refl refl in
    let none8 : begins 8 t2 ≡ false = begins_number 8 2 stop t3 (omega arith) refl (ap (begins 8) end3 ∙ begins_digests 8 3 nodes [] (omega arith) refl refl) in
    ap (then_read path_stop) (number_left_is_read is_column 1 col t2 (lt-ltb col 1024 lt) (omega arith) (omega arith) none8)
    ∙ ap (then_read (path_nodes col)) (number_left_is_read (is_stop col 1) 2 stop t3 (stops col) (omega arith) (omega arith) none16)
    ∙ ap (path_nodes col stop) end3
    ∙ ap (then_read (path_end col stop)) (digests_are_read 3 10 nodes [] (omega arith) all few refl)
    ∙ ap (λ (b : Bool). cond b (Ok (record { col = col; nodes = nodes })) (Err 0)) (eqb_self stop)

-- ---- what is read was written

-- what is read as a proof
pub record IsSharePathRead (bytes : List ℕ) (path : SharePath) : Type 0 where
  pub short : path.col < 1024
  pub few : length path.nodes ≤ 10
  pub are : AreDigests path.nodes
  pub parts : bytes ≡ share_path_text path.col path.nodes

-- of a column and nodes
of_these : (bytes : List ℕ) (path : SharePath) (col : ℕ) (nodes : List Digest) → record { col = col; nodes = nodes } ≡ path
    → col < 1024 → length nodes ≤ 10 → AreDigests nodes → bytes ≡ share_path_text col nodes → IsSharePathRead bytes path
of_these bytes path col nodes is short few are parts = rw (sym is) (record { short = short; few = few; are = are; parts = parts })

-- what is read as a proof was written so
pub share_path_back : (bytes : List ℕ) (path : SharePath) → AreBytes bytes → share_path_left bytes ≡ Ok path → IsSharePathRead bytes path
share_path_back bytes path fits e =
    let s = then_ok path_stop (number_left is_column 1 bytes) path e in
    let col : ℕ = s.0.0 in
    let n1 = number_left_back is_column 1 bytes s.0 (omega arith) fits s.1 in
    let short : col < 1024 = ltb-true col 1024 (number_left_passes is_column 1 bytes s.0 s.1) in
    let t = then_ok (path_nodes col) (number_left (is_stop col 1) 2 s.0.1) path s.2 in
    let stop : ℕ = t.0.0 in
    let n2 = number_left_back (is_stop col 1) 2 s.0.1 t.0 (omega arith) n1.fits t.1 in
    let d = then_ok (path_end col stop) (digests_at 3 10 t.0.1) path t.2 in
    let nodes : List Digest = d.0.0 in
    let rest : List ℕ = d.0.1 in
    let n3 = read_are_digests 3 10 t.0.1 d.0.0 d.0.1 (omega arith) n2.fits d.1 in
    let test = cond_ok (eqb (length rest) 0 && eqb stop (col + 1)) (record { col = col; nodes = nodes }) path (length rest) d.2 in
    let w = and_parts (eqb (length rest) 0) (eqb stop (col + 1)) test.0 in
    let none : rest ≡ [] = nil_from_length rest (eqb-true (length rest) 0 w.0) in
    let is_stop : stop ≡ col + 1 = eqb-true stop (col + 1) w.1 in
    let t3 : t.0.1 ≡ digests_text 3 nodes = n3.parts ∙ ap (λ (l : List ℕ). digests_text 3 nodes ++ l) none ∙ append-nil (digests_text 3 nodes) in
    let t2 : s.0.1 ≡ number_text 2 (col + 1) ++ digests_text 3 nodes = n2.parts ∙ ap₂ (λ (k : ℕ) (l : List ℕ). number_text 2 k ++ l) is_stop t3 in
    of_these bytes path col nodes test.1 short n3.few n3.are (n1.parts ∙ ap (λ (l : List ℕ). number_text 1 col ++ l) t2)
