-- Rows with their proofs under the data root, written and read.
use Rattle.std.proofs.Common.{◌≡◌, ◌∙◌, ℕ, ◌+◌, ◌*◌, ◌/◌, ◌^◌, ◌<◌, ◌≤◌, Bool, true, false, cond, ◌&&◌, ◌||◌, eqb, eqb-true, List, [], ◌++◌, length, Option, Some, None, option_and_then, Ok, Err, refl, sym, ap, ap₂, subst, arith, append-nil, length-append}
use Rattle.std.specs.List.{AllByRecursion}
use Rattle.std.proofs.lemmas.Slice.Eq.{bytes_eq-Decides}
use Rattle.std.proofs.lemmas.Bool.{and_parts, and_from}
use Rattle.std.proofs.lemmas.Bool.Decides.{nat_tests}
use Rattle.std.proofs.lemmas.List.{nil_from_length}
use Rattle.std.proofs.lemmas.Option.{cond_some}
use Rattle.namespace_id.specs.declared.digests.Digest.{Digest}
use Rattle.namespace_id.specs.Bytes.{AreBytes, IsString}
use Rattle.namespace_id.specs.Digests.{IsDigest}
use Rattle.nmt_proofs.proofs.Parts.DigestLemmas.{string-sha256}
use Rattle.data_header.specs.DataRoots.{leaf_hash}
use Rattle.proto_fields.specs.Spelled.{bytes_field}
use Rattle.proto_fields.specs.Canonical.{number_text, parts_text, canonical_part, begins}
use Rattle.proto_fields.proofs.Options.{and_then_parts}
use Rattle.proto_fields.proofs.CanonicalVarints.{behind_fits}
use Rattle.proto_fields.proofs.CanonicalLemmas.{part_read_back, read_is_part_field}
use Rattle.celestia_pb.specs.declared.rooted_row.ShareFacts.{ShareFacts}
use Rattle.celestia_pb.specs.declared.rooted_row.RowPath.{RowPath}
use Rattle.celestia_pb.specs.declared.rooted_row.RootedRow.{RootedRow}
use Rattle.celestia_pb.specs.Reading.{then_read}
use Rattle.celestia_pb.specs.Digests.{digest_field}
use Rattle.celestia_pb.specs.Messages.{number_left, optional_message}
use Rattle.celestia_pb.specs.Inclusions.{is_place_stated}
use Rattle.celestia_pb.specs.Aunts.{optional_at, aunts_at}
use Rattle.celestia_pb.specs.RootedRows.{row_path_text, rooted_row_text, is_total, is_row, may_total, may_row, is_leaf, if_leaf, leaf_at, row_path_end, row_path_aunts, row_path_leaf, row_path_row, row_path_left, row_in, rooted_end, rooted_last, rooted_first, rooted_path, rooted_row_left}
use Rattle.celestia_pb.proofs.Steps.{cond_ok, then_ok}
use Rattle.celestia_pb.proofs.Fronts.{begins_own, begins_other}
use Rattle.celestia_pb.proofs.DigestLemmas.{digest_is_read, read_is_digest}
use Rattle.celestia_pb.proofs.MessageLemmas.{field_few, number_few, begins_number, number_left_is_read, number_left_back, message_is_read, message_back}
use Rattle.celestia_pb.proofs.AuntLemmas.{optional_is_read, optional_back, aunts_are_read, read_are_aunts, length_aunts}

-- the second of two holds
or_second : (a b : Bool) → b ≡ true → (a || b) ≡ true
or_second true b holds = refl
or_second false b holds = holds

-- a number is itself
eqb_self : (n : ℕ) → eqb n n ≡ true
eqb_self n = grind (arith, nat_tests)

-- a leaf's hash has 32 bytes
pub leaf_string : (root : Digest) → IsString 32 (leaf_hash root)
unfolding leaf_hash
leaf_string root = string-sha256 _

-- ---- the path, written and read

-- it is short
pub row_path_few : (k row : ℕ) (root : Digest) (up : List (List ℕ)) → AllByRecursion (IsString 32) up → length (row_path_text k row root up) ≤ 34 * length up + 100
row_path_few k row root up all =
    let t4 : List ℕ = parts_text 4 up in
    let t3 : List ℕ = bytes_field 3 (leaf_hash root) ++ t4 in
    let size : length (leaf_hash root) ≡ 32 = (leaf_string root).size_is in
    omega (
      arith,
      length-append (number_text 1 (4 * k)) (number_text 2 row ++ t3),
      length-append (number_text 2 row) t3,
      length-append (bytes_field 3 (leaf_hash root)) t4,
      number_few 1 (4 * k),
      number_few 2 row,
      field_few 3 (leaf_hash root),
      length_aunts 4 up (omega arith) all,
    )

-- a leaf's hash is read back, whatever follows
leaf_is_read : (root : Digest) (rest : List ℕ) → leaf_at (Some root) (bytes_field 3 (leaf_hash root) ++ rest) ≡ Some (true, rest)
leaf_is_read root rest =
    let hash : List ℕ = leaf_hash root in
    let size : length hash ≡ 32 = (leaf_string root).size_is in
    ap (option_and_then (if_leaf (Some root))) (part_read_back 3 hash rest (omega arith) (omega arith))
    ∙ ap (λ (b : Bool). cond b (Some (true, rest)) None) ((bytes_eq-Decides hash hash).1 refl)

-- the path of a row
pub row_path_is_read : (told : Option ShareFacts) (k row : ℕ) (root : Digest) (up : List (List ℕ)) → is_total told (4 * k) ≡ true → is_row told (4 * k) row ≡ true → k < 2 ^ 16
    → row < 2 ^ 16 → AllByRecursion (IsString 32) up → length up ≤ 11
    → row_path_left told (Some root) (row_path_text k row root up) ≡ Ok (record { k = k; row = row; up = up })
row_path_is_read told k row root up total_is row_is small lt all few =
    let total : ℕ = 4 * k in
    let hash : List ℕ = leaf_hash root in
    let t4 : List ℕ = parts_text 4 up in
    let t3 : List ℕ = bytes_field 3 hash ++ t4 in
    let t2 : List ℕ = number_text 2 row ++ t3 in
    let end4 : t4 ≡ t4 ++ [] = sym (append-nil t4) in
    let none16 : begins 16 t3 ≡ false = begins_other 16 3 hash t4 (omega arith) refl in
    let none8 : begins 8 t2 ≡ false = begins_number 8 2 row t3 (omega arith) refl (begins_other 8 3 hash t4 (omega arith) refl) in
    let quarter : total / 4 ≡ k = omega arith in
    ap (then_read (row_path_row told (Some root))) (number_left_is_read (may_total told) 1 total t2 (or_second (eqb total 0) (is_total told total) total_is) (omega arith) (omega arith) none8)
    ∙ ap (then_read (row_path_leaf told (Some root) total)) (
    number_left_is_read (may_row told total) 2 row t3
    (or_second (eqb row 0) (eqb total 0 || is_row told total row) (or_second (eqb total 0) (is_row told total row) row_is))
    (omega arith) (omega arith) none16)
    ∙ ap (then_read (row_path_aunts told total row)) (optional_is_read (leaf_at (Some root)) 3 t3 true t4 (begins_own 3 hash t4 (omega arith)) (leaf_is_read root t4))
    ∙ ap (row_path_aunts told total row (Some true)) end4
    ∙ ap (then_read (row_path_end told total row (Some true))) (aunts_are_read 4 11 up [] (omega arith) all few refl)
    ∙ ap (λ (b : Bool). cond b (Ok (record { k = total / 4; row = row; up = up })) (Err 0)) (and_from (is_total told total) (is_row told total row) total_is row_is)
    ∙ ap (λ (n : ℕ). Ok (record { k = n; row = row; up = up })) quarter

-- what is read as a path
pub record IsRowPathRead (told : Option ShareFacts) (root : Digest) (bytes : List ℕ) (path : RowPath) : Type 0 where
  pub total : is_total told (4 * path.k) ≡ true
  pub row : is_row told (4 * path.k) path.row ≡ true
  pub up : AllByRecursion (IsString 32) path.up
  pub few : length path.up ≤ 11
  pub parts : bytes ≡ row_path_text path.k path.row root path.up

-- the path of these
record IsPathOf (told : Option ShareFacts) (total row : ℕ) (leaf : Option Bool) (up : List (List ℕ)) (rest : List ℕ) (path : RowPath) : Type 0 where
  there : (b : Bool) × (leaf ≡ Some b)
  none : rest ≡ []
  total_is : is_total told total ≡ true
  row_is : is_row told total row ≡ true
  path_is : record { k = total / 4; row = row; up = up } ≡ path

path_parts : (told : Option ShareFacts) (total row : ℕ) (leaf : Option Bool) (up : List (List ℕ)) (rest : List ℕ) (path : RowPath)
    → row_path_end told total row leaf up rest ≡ Ok path → IsPathOf told total row leaf up rest path
path_parts told total row None up rest path e = absurd cc
path_parts told total row (Some b) up rest path e =
    let test = cond_ok (eqb (length rest) 0 && (is_total told total && is_row told total row)) (record { k = total / 4; row = row; up = up }) path (length rest) e in
    let w = and_parts (eqb (length rest) 0) (is_total told total && is_row told total row) test.0 in
    let p = and_parts (is_total told total) (is_row told total row) w.1 in
    record {
      there = (b, refl);
      none = nil_from_length rest (eqb-true (length rest) 0 w.0);
      total_is = p.0;
      row_is = p.1;
      path_is = test.1;
    }

-- what stands in front as a leaf's hash
pub record IsLeafRead (root : Digest) (bytes rest : List ℕ) : Type 0 where
  pub parts : bytes ≡ bytes_field 3 (leaf_hash root) ++ rest
  pub fits : AreBytes rest

leaf_back : (root : Digest) (bytes : List ℕ) (b : Bool) (rest : List ℕ) → AreBytes bytes → leaf_at (Some root) bytes ≡ Some (b, rest) → IsLeafRead root bytes rest
leaf_back root bytes b rest fits e =
    let read = and_then_parts (if_leaf (Some root)) (canonical_part 3 bytes) (b, rest) e in
    let test = cond_some (is_leaf (Some root) read.0.0) (true, read.0.1) (b, rest) read.2 in
    let is : read.0.0 ≡ leaf_hash root = (bytes_eq-Decides read.0.0 (leaf_hash root)).0 test.0 in
    let after : read.0.1 ≡ rest = ap (λ (p : Bool × List ℕ). p.1) test.1 in
    let spelled = read_is_part_field 3 bytes read.0.0 read.0.1 (omega arith) fits read.1 in
    let parts : bytes ≡ bytes_field 3 (leaf_hash root) ++ rest = spelled.1 ∙ ap₂ (λ (h l : List ℕ). bytes_field 3 h ++ l) is after in
    record {
      parts = parts;
      fits = behind_fits (bytes_field 3 (leaf_hash root)) rest (subst (λ (l : List ℕ). AreBytes l) parts fits);
    }

-- four times a quarter
quarters : (told : Option ShareFacts) (total : ℕ) → is_total told total ≡ true → total ≡ 4 * (total / 4)
quarters told total is = eqb-true total (4 * (total / 4)) (and_parts _ _ (and_parts _ _ is).1).0

-- with the fields of these
path_of : (told : Option ShareFacts) (root : Digest) (bytes : List ℕ) (total row : ℕ) (up : List (List ℕ)) (path : RowPath) → record { k = total / 4; row = row; up = up } ≡ path
    → is_total told total ≡ true → is_row told total row ≡ true → AllByRecursion (IsString 32) up → length up ≤ 11
    → bytes ≡ number_text 1 total ++ (number_text 2 row ++ (bytes_field 3 (leaf_hash root) ++ parts_text 4 up)) → IsRowPathRead told root bytes path
path_of told root bytes total row up path is total_is row_is all few parts =
    let four : total ≡ 4 * (total / 4) = quarters told total total_is in
    subst (λ (p : RowPath). IsRowPathRead told root bytes p) is (record {
      total = subst (λ (n : ℕ). is_total told n ≡ true) four total_is;
      row = subst (λ (n : ℕ). is_row told n row ≡ true) four row_is;
      up = all;
      few = few;
      parts = parts ∙ ap (λ (n : ℕ). number_text 1 n ++ (number_text 2 row ++ (bytes_field 3 (leaf_hash root) ++ parts_text 4 up))) four;
    })

-- what is read as a path was written so
pub row_path_back : (told : Option ShareFacts) (root : Digest) (bytes : List ℕ) (path : RowPath) → AreBytes bytes → row_path_left told (Some root) bytes ≡ Ok path
    → IsRowPathRead told root bytes path
row_path_back told root bytes path fits e =
    let s = then_ok (row_path_row told (Some root)) (number_left (may_total told) 1 bytes) path e in
    let total : ℕ = s.0.0 in
    let n1 = number_left_back (may_total told) 1 bytes s.0 (omega arith) fits s.1 in
    let t = then_ok (row_path_leaf told (Some root) total) (number_left (may_row told total) 2 s.0.1) path s.2 in
    let row : ℕ = t.0.0 in
    let n2 = number_left_back (may_row told total) 2 s.0.1 t.0 (omega arith) n1.fits t.1 in
    let l = then_ok (row_path_aunts told total row) (optional_at (leaf_at (Some root)) 3 t.0.1) path t.2 in
    let a = then_ok (row_path_end told total row l.0.0) (aunts_at 4 11 l.0.1) path l.2 in
    let has = path_parts told total row l.0.0 a.0.0 a.0.1 path a.2 in
    let found = optional_back (leaf_at (Some root)) 3 t.0.1 has.there.0 l.0.1 (l.1 ∙ ap (λ (o : Option Bool). Ok (o, l.0.1)) has.there.1) in
    let n3 = leaf_back root t.0.1 has.there.0 l.0.1 n2.fits found in
    let n4 = read_are_aunts 4 11 l.0.1 a.0.0 a.0.1 (omega arith) n3.fits a.1 in
    let t4 : l.0.1 ≡ parts_text 4 a.0.0 = n4.parts ∙ ap (λ (r : List ℕ). parts_text 4 a.0.0 ++ r) has.none ∙ append-nil (parts_text 4 a.0.0) in
    let t3 : t.0.1 ≡ bytes_field 3 (leaf_hash root) ++ parts_text 4 a.0.0 = n3.parts ∙ ap (λ (r : List ℕ). bytes_field 3 (leaf_hash root) ++ r) t4 in
    let t2 : s.0.1 ≡ number_text 2 row ++ (bytes_field 3 (leaf_hash root) ++ parts_text 4 a.0.0) = n2.parts ∙ ap (λ (r : List ℕ). number_text 2 row ++ r) t3 in
    path_of told root bytes total row a.0.0 path has.path_is has.total_is has.row_is n4.are n4.few (n1.parts ∙ ap (λ (r : List ℕ). number_text 1 total ++ r) t2)

-- ---- the row, written and read

-- it is short
pub rooted_row_few : (k row : ℕ) (root : Digest) (up : List (List ℕ)) → IsDigest root → AllByRecursion (IsString 32) up
    → length (rooted_row_text k row root up) ≤ 34 * length up + 300
rooted_row_few k row root up is all =
    let path : List ℕ = row_path_text k row root up in
    let rows : List ℕ = number_text 4 row ++ number_text 5 row in
    let size : length root.0 ≡ 90 = is.size_is in
    omega (
      arith,
      length-append (bytes_field 1 root.0) (bytes_field 2 path ++ rows),
      length-append (bytes_field 2 path) rows,
      length-append (number_text 4 row) (number_text 5 row),
      field_few 1 root.0,
      field_few 2 path,
      row_path_few k row root up all,
      number_few 4 row,
      number_few 5 row,
    )

-- a number that is wanted
start_self : (n : ℕ) → is_place_stated (Some n) n ≡ true
start_self n = grind (arith, nat_tests)

-- a row with its root
pub rooted_row_is_read : (told : Option ShareFacts) (k row : ℕ) (root : Digest) (up : List (List ℕ)) → is_total told (4 * k) ≡ true → is_row told (4 * k) row ≡ true
    → k < 2 ^ 16 → row < 2 ^ 16 → IsDigest root → AllByRecursion (IsString 32) up → length up ≤ 11
    → rooted_row_left told (rooted_row_text k row root up) ≡ Ok (record { root = root; path = record { k = k; row = row; up = up } })
rooted_row_is_read told k row root up total_is row_is small lt is all few =
    let path : RowPath = record { k = k; row = row; up = up } in
    let text : List ℕ = row_path_text k row root up in
    let t5 : List ℕ = number_text 5 row in
    let t4 : List ℕ = number_text 4 row ++ t5 in
    let t2 : List ℕ = bytes_field 2 text ++ t4 in
    let t1 : List ℕ = bytes_field 1 root.0 ++ t2 in
    let end5 : t5 ≡ t5 ++ [] = sym (append-nil t5) in
    let none32 : begins 32 t5 ≡ false = ap (begins 32) end5 ∙ begins_number 32 5 row [] (omega arith) refl refl in
    let short : length text < 2 ^ 64 = omega (arith, row_path_few k row root up all) in
    ap (then_read (rooted_path told)) (optional_is_read (digest_field 1) 1 t1 root t2 (begins_own 1 root.0 t2 (omega arith)) (digest_is_read 1 root t2 (omega arith) is.size_is))
    ∙ ap (then_read (rooted_first (Some root))) (
    message_is_read (λ rest part. row_path_left told (Some root) part) 2 text t4 path (omega arith) short (row_path_is_read told k row root up total_is row_is small lt all few))
    ∙ ap (then_read (rooted_last (Some root) (Some path))) (number_left_is_read (is_place_stated (Some row)) 4 row t5 (start_self row) (omega arith) (omega arith) none32)
    ∙ ap (rooted_last (Some root) (Some path) row) end5
    ∙ ap (then_read (rooted_end (Some root) (Some path) row)) (number_left_is_read (is_place_stated (Some row)) 5 row [] (start_self row) (omega arith) (omega arith) refl)
    ∙ ap (λ (b : Bool). cond b (Ok (record { root = root; path = path })) (Err 0)) (and_from (eqb row row) (eqb row row) (eqb_self row) (eqb_self row))

-- what is read as a row
pub record IsRootedRowRead (told : Option ShareFacts) (bytes : List ℕ) (row : RootedRow) : Type 0 where
  pub total : is_total told (4 * row.path.k) ≡ true
  pub row_is : is_row told (4 * row.path.k) row.path.row ≡ true
  pub root : IsDigest row.root
  pub up : AllByRecursion (IsString 32) row.path.up
  pub few : length row.path.up ≤ 11
  pub parts : bytes ≡ rooted_row_text row.path.k row.path.row row.root row.path.up

-- the row of these
record IsRowOf (root : Option Digest) (path : Option RowPath) (first last : ℕ) (rest : List ℕ) (row : RootedRow) : Type 0 where
  root_is : root ≡ Some row.root
  path_is : path ≡ Some row.path
  first_is : first ≡ row.path.row
  last_is : last ≡ row.path.row
  none : rest ≡ []

row_parts : (root : Option Digest) (path : Option RowPath) (first last : ℕ) (rest : List ℕ) (row : RootedRow) → rooted_end root path first last rest ≡ Ok row
    → IsRowOf root path first last rest row
row_parts None path first last rest row e = absurd cc
row_parts (Some root) None first last rest row e = absurd cc
row_parts (Some root) (Some path) first last rest row e =
    let test = cond_ok (eqb (length rest) 0 && (eqb first path.row && eqb last path.row)) (record { root = root; path = path }) row (length rest) e in
    let w = and_parts (eqb (length rest) 0) (eqb first path.row && eqb last path.row) test.0 in
    let p = and_parts (eqb first path.row) (eqb last path.row) w.1 in
    subst (λ (r : RootedRow). IsRowOf (Some root) (Some path) first last rest r) test.1 (record {
      root_is = refl;
      path_is = refl;
      first_is = eqb-true first path.row p.0;
      last_is = eqb-true last path.row p.1;
      none = nil_from_length rest (eqb-true (length rest) 0 w.0);
    })

-- what is read as a row was written so
pub rooted_row_back : (told : Option ShareFacts) (bytes : List ℕ) (row : RootedRow) → AreBytes bytes → rooted_row_left told bytes ≡ Ok row → IsRootedRowRead told bytes row
rooted_row_back told bytes row fits e =
    let a = then_ok (rooted_path told) (optional_at (digest_field 1) 1 bytes) row e in
    let b = then_ok (rooted_first a.0.0) (optional_message (λ rest part. row_path_left told a.0.0 part) 2 a.0.1) row a.2 in
    let c = then_ok (rooted_last a.0.0 b.0.0) (number_left (is_place_stated (row_in b.0.0)) 4 b.0.1) row b.2 in
    let d = then_ok (rooted_end a.0.0 b.0.0 c.0.0) (number_left (is_place_stated (row_in b.0.0)) 5 c.0.1) row c.2 in
    let has = row_parts a.0.0 b.0.0 c.0.0 d.0.0 d.0.1 row d.2 in
    let found = optional_back (digest_field 1) 1 bytes row.root a.0.1 (a.1 ∙ ap (λ (o : Option Digest). Ok (o, a.0.1)) has.root_is) in
    let n1 = read_is_digest 1 bytes row.root a.0.1 (omega arith) fits found in
    let second : optional_message (λ rest part. row_path_left told (Some row.root) part) 2 a.0.1 ≡ Ok (Some row.path, b.0.1) =
    ap (λ (o : Option Digest). optional_message (λ rest part. row_path_left told o part) 2 a.0.1) (sym has.root_is)
    ∙ b.1 ∙ ap (λ (o : Option RowPath). Ok (o, b.0.1)) has.path_is in
    let m = message_back (λ rest part. row_path_left told (Some row.root) part) 2 a.0.1 row.path b.0.1 (omega arith) n1.fits second in
    let p = row_path_back told row.root m.part row.path m.part_fits m.read in
    let n4 = number_left_back (is_place_stated (row_in b.0.0)) 4 b.0.1 c.0 (omega arith) m.fits c.1 in
    let n5 = number_left_back (is_place_stated (row_in b.0.0)) 5 c.0.1 d.0 (omega arith) n4.fits d.1 in
    let number : ℕ = row.path.row in
    let t5 : c.0.1 ≡ number_text 5 number = n5.parts ∙ ap₂ (λ (n : ℕ) (l : List ℕ). number_text 5 n ++ l) has.last_is has.none ∙ append-nil (number_text 5 number) in
    let t4 : b.0.1 ≡ number_text 4 number ++ number_text 5 number = n4.parts ∙ ap₂ (λ (n : ℕ) (l : List ℕ). number_text 4 n ++ l) has.first_is t5 in
    let t2 : a.0.1 ≡ bytes_field 2 (row_path_text row.path.k number row.root row.path.up) ++ (number_text 4 number ++ number_text 5 number) =
    m.parts ∙ ap₂ (λ (l r : List ℕ). bytes_field 2 l ++ r) p.parts t4 in
    record {
      total = p.total;
      row_is = p.row;
      root = n1.is;
      up = p.up;
      few = p.few;
      parts = n1.parts ∙ ap (λ (l : List ℕ). bytes_field 1 row.root.0 ++ l) t2;
    }
