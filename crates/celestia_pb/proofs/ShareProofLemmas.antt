-- Root proofs along a row, written and read.
use Rattle.std.proofs.Common.{◌≡◌, ◌∙◌, ℕ, ◌*◌, ◌/◌, ◌^◌, ◌<◌, ◌≤◌, Bool, true, false, cond, ◌&&◌, ◌||◌, nat_lt, eqb, eqb-true, ltb-true, List, [], ◌++◌, length, take, drop, Option, Some, None, option_and_then, Result, Ok, Err, refl, sym, ap, ap₂, subst, arith, append-nil, take-append-drop, length-drop, length-take-le}
use Rattle.std.specs.Str.{bytes_eq}
use Rattle.std.proofs.lemmas.Slice.Eq.{bytes_eq-Decides}
use Rattle.std.proofs.lemmas.Bool.{and_parts, and_from}
use Rattle.std.proofs.lemmas.Bool.Decides.{nat_tests}
use Rattle.std.proofs.lemmas.List.{nil_from_length}
use Rattle.std.proofs.lemmas.Option.{cond_some, same_Some}
use Rattle.namespace_id.specs.declared.cells.Axis.{Axis}
use Rattle.namespace_id.specs.declared.cells.Axis.TheVariants.{Row, Col}
use Rattle.namespace_id.specs.declared.namespaces.Namespace.{Namespace}
use Rattle.namespace_id.specs.declared.shares.Share.{Share}
use Rattle.namespace_id.specs.Bytes.{AreBytes}
use Rattle.namespace_id.specs.Digests.{AreDigests}
use Rattle.namespace_id.specs.Cells.{is_width, cell_in, is_original}
use Rattle.namespace_id.specs.Names.{parity}
use Rattle.namespace_id.specs.Shares.{IsShare, name_in}
use Rattle.namespace_id.proofs.WidthLemmas.{is_width-le}
use Rattle.blob_commit.specs.Proofs.{RootedParts}
use Rattle.proto_fields.specs.Spelled.{bytes_field}
use Rattle.proto_fields.specs.Canonical.{number_text, canonical_part, begins_part}
use Rattle.proto_fields.proofs.Options.{and_then_parts}
use Rattle.proto_fields.proofs.CanonicalVarints.{front_fits, behind_fits}
use Rattle.proto_fields.proofs.CanonicalLemmas.{part_read_back, read_is_part_field}
use Rattle.celestia_pb.specs.declared.share_path.SharePath.{SharePath}
use Rattle.celestia_pb.specs.declared.rooted_row.ShareFacts.{ShareFacts}
use Rattle.celestia_pb.specs.declared.rooted_row.RootedRow.{RootedRow}
use Rattle.celestia_pb.specs.declared.share_proof.Names.{Names}
use Rattle.celestia_pb.specs.declared.share_proof.Front.{Front}
use Rattle.celestia_pb.specs.Reading.{then_read, or_left, with_offset}
use Rattle.celestia_pb.specs.Messages.{number_left, optional_message}
use Rattle.celestia_pb.specs.Inclusions.{is_place_stated}
use Rattle.celestia_pb.specs.Samples.{if_share, share_front}
use Rattle.celestia_pb.specs.BefpEntries.{some_share, data_at}
use Rattle.celestia_pb.specs.Aunts.{some_read, optional_at}
use Rattle.celestia_pb.specs.SharePaths.{share_path_text, share_path_left}
use Rattle.celestia_pb.specs.RootedRows.{rooted_row_text, has_column, has_names, is_total, is_row, rooted_row_left}
use Rattle.celestia_pb.specs.ShareProofs.{is_along_row, name_of, id_in, name_version, share_proof_text, if_names, names_at, front_of, front_end, front_names, front_path, front_left, facts_by, proof_of, proof_by, proved_version, share_proof_end, share_proof_version, share_proof_row, share_proof_left, share_proof_value}
use Rattle.celestia_pb.specs.ShareProofLaws.{IsShareProof}
use Rattle.celestia_pb.proofs.Steps.{cond_ok, then_ok, placed_ok}
use Rattle.celestia_pb.proofs.Fronts.{begins_own}
use Rattle.celestia_pb.proofs.DigestLemmas.{field_fits, ok_parts}
use Rattle.celestia_pb.proofs.MessageLemmas.{number_left_is_read, number_left_back, message_is_read, message_back}
use Rattle.celestia_pb.proofs.AuntLemmas.{optional_is_read, optional_back}
use Rattle.celestia_pb.proofs.SharePathLemmas.{share_path_few, share_path_is_read, share_path_back}
use Rattle.celestia_pb.proofs.RootedRowLemmas.{rooted_row_few, rooted_row_is_read, rooted_row_back}

-- ---- the share

-- the share in front is a field that may be there
same_read : (r : Result (Share × List ℕ) ℕ) → some_share r ≡ some_read r
same_read (Ok read) = refl
same_read (Err left) = refl

data_is : (bytes : List ℕ) → data_at bytes ≡ optional_at share_front 1 bytes
data_is bytes = ap (λ (r : Result (Option Share × List ℕ) ℕ). cond (begins_part 1 bytes) r (Ok (None, bytes))) (same_read (or_left bytes (share_front bytes)))

-- a share is read back, whatever follows
share_is_there : (share : Share) (rest : List ℕ) → length share.0 ≡ 512 → share_front (bytes_field 1 share.0 ++ rest) ≡ Some (share, rest)
share_is_there share rest size =
    let test : eqb (length share.0) 512 ≡ true = grind (arith, nat_tests) in
    ap (option_and_then if_share) (part_read_back 1 share.0 rest (omega arith) (omega arith))
    ∙ ap (λ (b : Bool). cond b (Some (share, rest)) None) test

-- what is read as a share
record IsShareRead (bytes : List ℕ) (share : Share) (rest : List ℕ) : Type 0 where
  is : IsShare share
  parts : bytes ≡ bytes_field 1 share.0 ++ rest
  fits : AreBytes rest

-- what is read as a share was written so
share_was_there : (bytes : List ℕ) (share : Share) (rest : List ℕ) → AreBytes bytes → share_front bytes ≡ Some (share, rest) → IsShareRead bytes share rest
share_was_there bytes share rest fits e =
    let read = and_then_parts if_share (canonical_part 1 bytes) (share, rest) e in
    let test = cond_some (eqb (length read.0.0) 512) (record { 0 = read.0.0 }, read.0.1) (share, rest) read.2 in
    let is : share.0 ≡ read.0.0 = ap (λ (p : Share × List ℕ). p.0.0) (sym test.1) in
    let after : rest ≡ read.0.1 = ap (λ (p : Share × List ℕ). p.1) (sym test.1) in
    let spelled = read_is_part_field 1 bytes read.0.0 read.0.1 (omega arith) fits read.1 in
    let parts : bytes ≡ bytes_field 1 share.0 ++ rest = spelled.1 ∙ ap₂ (λ (h l : List ℕ). bytes_field 1 h ++ l) (sym is) (sym after) in
    let all : AreBytes (bytes_field 1 share.0 ++ rest) = subst (λ (l : List ℕ). AreBytes l) parts fits in
    record {
      is = record {
        size_is = ap length is ∙ eqb-true (length read.0.0) 512 test.0;
        fits = field_fits 1 share.0 (front_fits (bytes_field 1 share.0) rest all);
      };
      parts = parts;
      fits = behind_fits (bytes_field 1 share.0) rest all;
    }

-- ---- namespaces

-- bytes are themselves
same_bytes : (bytes : List ℕ) → bytes_eq bytes bytes ≡ true
same_bytes bytes = (bytes_eq-Decides bytes bytes).1 refl

-- the namespace of a leaf, by whether it is in the original square
abbrev named : Bool → Share → Namespace
named b share = cond b (name_in share) parity

-- whose id that of a leaf's namespace is
abbrev names_in : Namespace → Share → Names
names_in name share = record { own = bytes_eq (id_in name) (id_in (name_in share)); parity = bytes_eq (id_in name) (id_in parity) }

-- what holds is one of two
or_true : (a : Bool) → (a || true) ≡ true
or_true true = refl
or_true false = refl

-- one of both
names_some : (b : Bool) (share : Share) → ((names_in (named b share) share).own || (names_in (named b share) share).parity) ≡ true
names_some true share = ap (λ (t : Bool). t || bytes_eq (id_in (name_in share)) (id_in parity)) (same_bytes (id_in (name_in share)))
names_some false share = ap (λ (t : Bool). bytes_eq (id_in parity) (id_in (name_in share)) || t) (same_bytes (id_in parity)) ∙ or_true (bytes_eq (id_in parity) (id_in (name_in share)))

-- the one that it has to be
names_right : (b : Bool) (share : Share) → cond b (names_in (named b share) share).own (names_in (named b share) share).parity ≡ true
names_right true share = same_bytes (id_in (name_in share))
names_right false share = same_bytes (id_in parity)

-- right of the original square it is that of parity shares
names_behind : (r c : Bool) (share : Share) → (c || (names_in (named (r && c) share) share).parity) ≡ true
names_behind r true share = refl
names_behind true false share = same_bytes (id_in parity)
names_behind false false share = same_bytes (id_in parity)

-- an id is short
id_few : (b : Bool) (share : Share) → length share.0 ≡ 512 → length (id_in (named b share)) ≤ 29
id_few true share size = omega (arith, length-drop 1 (take 29 share.0), length-take-le 29 share.0)
id_few false share size = omega arith

-- a version is a byte
pub version_fits : (b : Bool) (share : Share) → IsShare share → name_version (named b share) < 256
version_fits true share is =
    front_fits (take 29 share.0) (drop 29 share.0) (subst (λ (l : List ℕ). AreBytes l) (sym (take-append-drop 29 share.0)) is.fits) 0
version_fits false share is = omega arith

-- the id is read back, whatever follows
names_are_read : (b : Bool) (share : Share) (rest : List ℕ) → length share.0 ≡ 512
    → names_at (Some share) (bytes_field 3 (id_in (named b share)) ++ rest) ≡ Some (names_in (named b share) share, rest)
names_are_read b share rest size =
    ap (option_and_then (if_names (Some share))) (part_read_back 3 (id_in (named b share)) rest (omega arith) (omega (arith, id_few b share size)))
    ∙ ap (λ (t : Bool). cond t (Some (names_in (named b share) share, rest)) None) (names_some b share)

-- what is read as an id
record IsIdRead (share : Share) (bytes : List ℕ) (names : Names) (rest : List ℕ) : Type 0 where
  id : List ℕ
  own : names.own ≡ bytes_eq id (id_in (name_in share))
  parity_is : names.parity ≡ bytes_eq id (id_in parity)
  parts : bytes ≡ bytes_field 3 id ++ rest
  fits : AreBytes rest

-- what is read as an id was written so
names_back : (share : Share) (bytes : List ℕ) (names : Names) (rest : List ℕ) → AreBytes bytes → names_at (Some share) bytes ≡ Some (names, rest)
    → IsIdRead share bytes names rest
names_back share bytes names rest fits e =
    let read = and_then_parts (if_names (Some share)) (canonical_part 3 bytes) (names, rest) e in
    let id : List ℕ = read.0.0 in
    let found : Names = record { own = bytes_eq id (id_in (name_in share)); parity = bytes_eq id (id_in parity) } in
    let test = cond_some (found.own || found.parity) (found, read.0.1) (names, rest) read.2 in
    let after : read.0.1 ≡ rest = ap (λ (p : Names × List ℕ). p.1) test.1 in
    let spelled = read_is_part_field 3 bytes id read.0.1 (omega arith) fits read.1 in
    let parts : bytes ≡ bytes_field 3 id ++ rest = spelled.1 ∙ ap (λ (l : List ℕ). bytes_field 3 id ++ l) after in
    record {
      id = id;
      own = ap (λ (p : Names × List ℕ). p.0.own) (sym test.1);
      parity_is = ap (λ (p : Names × List ℕ). p.0.parity) (sym test.1);
      parts = parts;
      fits = behind_fits (bytes_field 3 id) rest (subst (λ (l : List ℕ). AreBytes l) parts fits);
    }

-- an id that has to be that of the leaf's namespace is that
id_is : (b : Bool) (share : Share) (names : Names) (id : List ℕ) → names.own ≡ bytes_eq id (id_in (name_in share)) → names.parity ≡ bytes_eq id (id_in parity)
    → cond b names.own names.parity ≡ true → id ≡ id_in (named b share)
id_is true share names id own other test = (bytes_eq-Decides id (id_in (name_in share))).0 (sym own ∙ test)
id_is false share names id own other test = (bytes_eq-Decides id (id_in parity)).0 (sym other ∙ test)

-- ---- what is written is read

-- along a row
row_is : (axis : Axis) → is_along_row axis ≡ true → axis ≡ Row
row_is Row e = refl
row_is Col e = absurd cc

-- a number is itself
eqb_self : (n : ℕ) → eqb n n ≡ true
eqb_self n = grind (arith, nat_tests)

start_self : (n : ℕ) → is_place_stated (Some n) n ≡ true
start_self n = grind (arith, nat_tests)

module _ (p : RootedParts) (is : IsShareProof p) where
  abbrev col : ℕ
  col = p.message.cell.col

  abbrev row : ℕ
  row = p.message.cell.row

  abbrev share : Share
  share = p.message.share

  abbrev original : Bool
  original = is_original p.k p.message.cell

  -- its parts as they are read
  abbrev front : Front
  front = record { share = share; path = record { col = col; nodes = p.message.path }; names = names_in (name_of p) share }

  abbrev told : ShareFacts
  told = record { col = col; own = (names_in (name_of p) share).own; parity = (names_in (name_of p) share).parity }

  abbrev rooted : RootedRow
  rooted = record { root = p.root; path = record { k = p.k; row = row; up = p.up } }

  shape_is : (is_width p.k ≡ true) × (nat_lt row (2 * p.k) ≡ true) × (nat_lt col (2 * p.k) ≡ true)
  shape_is =
      let a = and_parts (is_along_row p.message.axis) (is_width p.k && (nat_lt row (2 * p.k) && nat_lt col (2 * p.k))) is.has in
      let b = and_parts (is_width p.k) (nat_lt row (2 * p.k) && nat_lt col (2 * p.k)) a.1 in
      let c = and_parts (nat_lt row (2 * p.k)) (nat_lt col (2 * p.k)) b.1 in
      (b.0, c.0, c.1)

  -- the number of roots fits
  total_is : is_total (Some told) (4 * p.k) ≡ true
  total_is =
      let quarter : 4 * p.k / 4 ≡ p.k = omega arith in
      ap (λ (q : ℕ). is_width q && (eqb (4 * p.k) (4 * q) && has_column (Some told) q)) quarter
      ∙ and_from _ _ shape_is.0 (and_from _ _ (eqb_self (4 * p.k)) (and_from _ _ shape_is.2 (names_behind (nat_lt row p.k) (nat_lt col p.k) share)))

  -- so does the row
  row_fits : is_row (Some told) (4 * p.k) row ≡ true
  row_fits =
      let quarter : 4 * p.k / 4 ≡ p.k = omega arith in
      ap (λ (q : ℕ). nat_lt row (2 * q) && has_names (Some told) q row) quarter ∙ and_from _ _ shape_is.1 (names_right original share)

  few_k : p.k ≤ 512
  few_k = is_width-le p.k shape_is.0

  few_row : row < 1024
  few_row = let lt : row < 2 * p.k = ltb-true row (2 * p.k) shape_is.1 in omega (arith, few_k)

  few_col : col < 1024
  few_col = let lt : col < 2 * p.k = ltb-true col (2 * p.k) shape_is.2 in omega (arith, few_k)

  -- what follows the id
  abbrev behind : List ℕ
  behind = bytes_field 4 (rooted_row_text p.k row p.root p.up) ++ number_text 5 (name_version (name_of p))

  -- what stands in front of the row's proof
  front_is_read : front_left (share_proof_text p) ≡ Ok (Some front, behind)
  front_is_read =
      let m = is.is.message in
      let size : length share.0 ≡ 512 = m.share.size_is in
      let path : List ℕ = share_path_text col p.message.path in
      let t3 : List ℕ = bytes_field 3 (id_in (name_of p)) ++ behind in
      let t2 : List ℕ = bytes_field 2 path ++ t3 in
      let few : length p.message.path ≤ 10 = m.few in
      let short : length path < 2 ^ 64 = omega (arith, share_path_few col p.message.path m.nodes) in
      ap (then_read front_path) (
      data_is (share_proof_text p)
      ∙ optional_is_read share_front 1 (share_proof_text p) share t2 (begins_own 1 share.0 t2 (omega arith)) (share_is_there share t2 size))
      ∙ ap (then_read (front_names (Some share))) (
      message_is_read (λ rest part. share_path_left part) 2 path t3 front.path (omega arith) short (share_path_is_read col p.message.path few_col m.nodes few))
      ∙ ap (then_read (front_end (Some share) (Some front.path))) (
      optional_is_read (names_at (Some share)) 3 t3 front.names behind (begins_own 3 (id_in (name_of p)) behind (omega arith)) (names_are_read original share behind size))

  -- the message of a root proof
  left_is_read : share_proof_left (share_proof_text p) ≡ Ok p
  left_is_read =
      let text : List ℕ = rooted_row_text p.k row p.root p.up in
      let version : ℕ = name_version (name_of p) in
      let t5 : List ℕ = number_text 5 version in
      let few : length p.up ≤ 11 = is.few in
      let short : length text < 2 ^ 64 = omega (arith, rooted_row_few p.k row p.root p.up is.is.root is.is.up) in
      let small : version < 256 = version_fits original share is.is.message.share in
      let along : p.message.axis ≡ Row = row_is p.message.axis (and_parts _ _ is.has).0 in
      ap (then_read share_proof_row) front_is_read
      ∙ ap (then_read (share_proof_version (Some front))) (
      message_is_read (λ rest part. rooted_row_left (Some told) part) 4 text t5 rooted (omega arith) short
      (rooted_row_is_read (Some told) p.k row p.root p.up total_is row_fits (omega (arith, few_k)) (omega (arith, few_row)) is.is.root is.is.up few))
      ∙ ap (share_proof_version (Some front) (Some rooted)) (sym (append-nil t5))
      ∙ ap (then_read (share_proof_end (Some (proof_of front rooted)))) (number_left_is_read (is_place_stated (Some version)) 5 version [] (start_self version) (omega arith) (omega arith) refl)
      ∙ ap (λ (b : Bool). cond b (Ok (proof_of front rooted)) (Err 0)) (eqb_self version)
      ∙ ap (λ (a : Axis). Ok (record {
        k = p.k;
        message = record { cell = p.message.cell; axis = a; share = share; path = p.message.path };
        root = p.root;
        up = p.up;
      })) (sym along)

pub share_proof_is_read : (p : RootedParts) → IsShareProof p → share_proof_value (share_proof_text p) ≡ Ok p
share_proof_is_read p is = ap (with_offset (length (share_proof_text p))) (left_is_read p is)

-- ---- what is read was written

-- what stands in front, where it was there
record IsFrontOf (share : Option Share) (path : Option SharePath) (names : Option Names) (front : Front) : Type 0 where
  share_is : share ≡ Some front.share
  path_is : path ≡ Some front.path
  names_is : names ≡ Some front.names

front_parts : (share : Option Share) (path : Option SharePath) (names : Option Names) (front : Front) → front_of share path names ≡ Some front
    → IsFrontOf share path names front
front_parts None path names front e = absurd cc
front_parts (Some share) None names front e = absurd cc
front_parts (Some share) (Some path) None front e = absurd cc
front_parts (Some share) (Some path) (Some names) front e =
    let same : record { share = share; path = path; names = names } ≡ front = same_Some (record { share = share; path = path; names = names }) front e in
    record {
      share_is = ap (λ (f : Front). Some f.share) same;
      path_is = ap (λ (f : Front). Some f.path) same;
      names_is = ap (λ (f : Front). Some f.names) same;
    }

-- what is read as that
record IsFrontRead (bytes : List ℕ) (front : Front) (rest : List ℕ) : Type 0 where
  share : IsShare front.share
  short : front.path.col < 1024
  few : length front.path.nodes ≤ 10
  nodes : AreDigests front.path.nodes
  id : List ℕ
  own : front.names.own ≡ bytes_eq id (id_in (name_in front.share))
  parity_is : front.names.parity ≡ bytes_eq id (id_in parity)
  parts : bytes ≡ bytes_field 1 front.share.0 ++ (bytes_field 2 (share_path_text front.path.col front.path.nodes) ++ (bytes_field 3 id ++ rest))
  fits : AreBytes rest

front_back : (bytes : List ℕ) (front : Front) (rest : List ℕ) → AreBytes bytes → front_left bytes ≡ Ok (Some front, rest) → IsFrontRead bytes front rest
front_back bytes front rest fits e =
    let a = then_ok front_path (data_at bytes) (Some front, rest) e in
    let b = then_ok (front_names a.0.0) (optional_message (λ rest part. share_path_left part) 2 a.0.1) (Some front, rest) a.2 in
    let c = then_ok (front_end a.0.0 b.0.0) (optional_at (names_at a.0.0) 3 b.0.1) (Some front, rest) b.2 in
    let same = ok_parts (front_of a.0.0 b.0.0 c.0.0) (Some front) c.0.1 rest c.2 in
    let has = front_parts a.0.0 b.0.0 c.0.0 front same.0 in
    let first = optional_back share_front 1 bytes front.share a.0.1 (sym (data_is bytes) ∙ a.1 ∙ ap (λ (o : Option Share). Ok (o, a.0.1)) has.share_is) in
    let n1 = share_was_there bytes front.share a.0.1 fits first in
    let m = message_back (λ rest part. share_path_left part) 2 a.0.1 front.path b.0.1 (omega arith) n1.fits (b.1 ∙ ap (λ (o : Option SharePath). Ok (o, b.0.1)) has.path_is) in
    let n2 = share_path_back m.part front.path m.part_fits m.read in
    let third : optional_at (names_at (Some front.share)) 3 b.0.1 ≡ Ok (Some front.names, rest) =
    ap (λ (o : Option Share). optional_at (names_at o) 3 b.0.1) (sym has.share_is)
    ∙ c.1 ∙ ap₂ (λ (o : Option Names) (l : List ℕ). Ok (o, l)) has.names_is same.1 in
    let n3 = names_back front.share b.0.1 front.names rest m.fits (optional_back (names_at (Some front.share)) 3 b.0.1 front.names rest third) in
    let t2 : a.0.1 ≡ bytes_field 2 (share_path_text front.path.col front.path.nodes) ++ (bytes_field 3 n3.id ++ rest) =
    m.parts ∙ ap₂ (λ (l r : List ℕ). bytes_field 2 l ++ r) n2.parts n3.parts in
    record {
      share = n1.is;
      short = n2.short;
      few = n2.few;
      nodes = n2.are;
      id = n3.id;
      own = n3.own;
      parity_is = n3.parity_is;
      parts = n1.parts ∙ ap (λ (l : List ℕ). bytes_field 1 front.share.0 ++ l) t2;
      fits = n3.fits;
    }

-- all parts of a root proof were there
record IsEndOf (front : Option Front) (row : Option RootedRow) (version : ℕ) (rest : List ℕ) (p : RootedParts) : Type 0 where
  before : Front
  front_is : front ≡ Some before
  rooted : RootedRow
  row_is : row ≡ Some rooted
  proof_is : proof_of before rooted ≡ p
  version_is : version ≡ name_version (name_of (proof_of before rooted))
  none : rest ≡ []

end_parts : (front : Option Front) (row : Option RootedRow) (version : ℕ) (rest : List ℕ) (p : RootedParts) → share_proof_end (proof_by front row) version rest ≡ Ok p
    → IsEndOf front row version rest p
end_parts None row version rest p e = absurd cc
end_parts (Some front) None version rest p e = absurd cc
end_parts (Some front) (Some row) version rest p e =
    let proof : RootedParts = proof_of front row in
    let test = cond_ok (eqb (length rest) 0 && eqb version (name_version (name_of proof))) proof p (length rest) e in
    let w = and_parts (eqb (length rest) 0) (eqb version (name_version (name_of proof))) test.0 in
    record {
      before = front;
      front_is = refl;
      rooted = row;
      row_is = refl;
      proof_is = test.1;
      version_is = eqb-true version (name_version (name_of proof)) w.1;
      none = nil_from_length rest (eqb-true (length rest) 0 w.0);
    }

-- what is told of a square of width k
record IsTold (told : ShareFacts) (k row : ℕ) : Type 0 where
  width : is_width k ≡ true
  col : nat_lt told.col (2 * k) ≡ true
  row_is : nat_lt row (2 * k) ≡ true
  names : cond (is_original k (cell_in row told.col)) told.own told.parity ≡ true

told_parts : (told : ShareFacts) (k row : ℕ) → is_total (Some told) (4 * k) ≡ true → is_row (Some told) (4 * k) row ≡ true → IsTold told k row
told_parts told k row total_is row_is =
    let quarter : 4 * k / 4 ≡ k = omega arith in
    let total : (is_width k && (eqb (4 * k) (4 * k) && has_column (Some told) k)) ≡ true =
    sym (ap (λ (q : ℕ). is_width q && (eqb (4 * k) (4 * q) && has_column (Some told) q)) quarter) ∙ total_is in
    let place : (nat_lt row (2 * k) && has_names (Some told) k row) ≡ true =
    sym (ap (λ (q : ℕ). nat_lt row (2 * q) && has_names (Some told) q row) quarter) ∙ row_is in
    let a = and_parts (is_width k) (eqb (4 * k) (4 * k) && has_column (Some told) k) total in
    let b = and_parts (eqb (4 * k) (4 * k)) (has_column (Some told) k) a.1 in
    let c = and_parts (nat_lt told.col (2 * k)) (nat_lt told.col k || told.parity) b.1 in
    let d = and_parts (nat_lt row (2 * k)) (has_names (Some told) k row) place in
    record { width = a.0; col = c.0; row_is = d.0; names = d.1 }

-- what is read as a root proof
record WasRead (bytes : List ℕ) (p : RootedParts) : Type 0 where
  is : IsShareProof p
  text : bytes ≡ share_proof_text p

was_read : (bytes : List ℕ) (p : RootedParts) → AreBytes bytes → share_proof_left bytes ≡ Ok p → WasRead bytes p
was_read bytes p fits e =
    let a = then_ok share_proof_row (front_left bytes) p e in
    let b = then_ok (share_proof_version a.0.0) (optional_message (λ rest part. rooted_row_left (facts_by a.0.0) part) 4 a.0.1) p a.2 in
    let c = then_ok (share_proof_end (proof_by a.0.0 b.0.0)) (number_left (is_place_stated (proved_version (proof_by a.0.0 b.0.0))) 5 b.0.1) p b.2 in
    let has = end_parts a.0.0 b.0.0 c.0.0 c.0.1 p c.2 in
    let front : Front = has.before in
    let row : RootedRow = has.rooted in
    let proof : RootedParts = proof_of front row in
    let told : ShareFacts = record { col = front.path.col; own = front.names.own; parity = front.names.parity } in
    let n1 = front_back bytes front a.0.1 fits (a.1 ∙ ap (λ (o : Option Front). Ok (o, a.0.1)) has.front_is) in
    let second : optional_message (λ rest part. rooted_row_left (Some told) part) 4 a.0.1 ≡ Ok (Some row, b.0.1) =
    ap (λ (o : Option Front). optional_message (λ rest part. rooted_row_left (facts_by o) part) 4 a.0.1) (sym has.front_is)
    ∙ b.1 ∙ ap (λ (o : Option RootedRow). Ok (o, b.0.1)) has.row_is in
    let m = message_back (λ rest part. rooted_row_left (Some told) part) 4 a.0.1 row b.0.1 (omega arith) n1.fits second in
    let n4 = rooted_row_back (Some told) m.part row m.part_fits m.read in
    let n5 = number_left_back (is_place_stated (proved_version (proof_by a.0.0 b.0.0))) 5 b.0.1 c.0 (omega arith) m.fits c.1 in
    let t = told_parts told row.path.k row.path.row n4.total n4.row_is in
    let id : n1.id ≡ id_in (name_of proof) =
    id_is (is_original row.path.k (cell_in row.path.row front.path.col)) front.share front.names n1.id n1.own n1.parity_is t.names in
    let t5 : b.0.1 ≡ number_text 5 (name_version (name_of proof)) =
    n5.parts ∙ ap₂ (λ (n : ℕ) (l : List ℕ). number_text 5 n ++ l) has.version_is has.none ∙ append-nil (number_text 5 (name_version (name_of proof))) in
    let t4 : a.0.1 ≡ bytes_field 4 (rooted_row_text row.path.k row.path.row row.root row.path.up) ++ number_text 5 (name_version (name_of proof)) =
    m.parts ∙ ap₂ (λ (l r : List ℕ). bytes_field 4 l ++ r) n4.parts t5 in
    let few : row.path.k ≤ 512 = is_width-le row.path.k t.width in
    let lt : row.path.row < 2 * row.path.k = ltb-true row.path.row (2 * row.path.k) t.row_is in
    subst (λ (q : RootedParts). WasRead bytes q) has.proof_is (record {
      is = record {
        is = record {
          message = record {
            row = omega arith;
            col = omega (arith, n1.short);
            share = n1.share;
            few = n1.few;
            nodes = n1.nodes;
          };
          root = n4.root;
          up = n4.up;
        };
        few = n4.few;
        has = and_from _ _ t.width (and_from _ _ t.row_is t.col);
      };
      text = n1.parts
          ∙ ap₂ (λ (i l : List ℕ). bytes_field 1 front.share.0 ++ (bytes_field 2 (share_path_text front.path.col front.path.nodes) ++ (bytes_field 3 i ++ l))) id t4;
    })

pub read_is_share_proof : (bytes : List ℕ) (p : RootedParts) → AreBytes bytes → share_proof_value bytes ≡ Ok p → IsShareProof p × (bytes ≡ share_proof_text p)
read_is_share_proof bytes p fits e =
    let was = was_read bytes p fits (placed_ok (length bytes) (share_proof_left bytes) p e) in
    (was.is, was.text)
