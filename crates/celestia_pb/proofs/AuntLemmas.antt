-- Fields of bytes that may be there, and hashes one after another, written and read.
use Rattle.std.proofs.Common.{◌≡◌, ◌∙◌, ℕ, zero, suc, ◌+◌, ◌*◌, ◌<◌, ◌≤◌, Bool, true, false, cond, eqb, eqb-true, List, [], ◌∷◌, ◌++◌, length, Option, Some, None, option_and_then, Result, Ok, Err, refl, sym, ap, ap₂, subst, arith, append_assoc, length-append}
use Rattle.std.specs.List.{AllByRecursion}
use Rattle.std.proofs.lemmas.Bool.Decides.{nat_tests}
use Rattle.std.proofs.lemmas.Option.{cond_some, same_Some, none-some}
use Rattle.namespace_id.specs.Bytes.{AreBytes, IsString}
use Rattle.proto_fields.specs.Varints.{varint}
use Rattle.proto_fields.specs.Spelled.{bytes_field}
use Rattle.proto_fields.proofs.Varint.Bytes.{length-varint-low}
use Rattle.proto_fields.specs.Canonical.{begins, begins_part, canonical_part, parts_text}
use Rattle.proto_fields.proofs.Options.{and_then_parts}
use Rattle.proto_fields.proofs.CanonicalVarints.{front_fits, behind_fits}
use Rattle.proto_fields.proofs.CanonicalLemmas.{bytes_field-is, part_read_back, read_is_part_field}
use Rattle.celestia_pb.specs.Reading.{or_left}
use Rattle.celestia_pb.specs.Aunts.{some_read, optional_at, if_aunt, aunt_at, with_aunt, before_aunts, aunts_at}
use Rattle.celestia_pb.proofs.Fronts.{begins_own, begins_other}
use Rattle.celestia_pb.proofs.DigestLemmas.{field_fits, ok_parts}

-- ---- a field that may be there

module _ {A : Type 0} (one : List ℕ → Option (A × List ℕ)) (n : ℕ) (bytes : List ℕ) where
  -- behind a test whether it is there
  abbrev if_there : Bool → Result (Option A × List ℕ) ℕ
  if_there b = cond b (some_read (or_left bytes (one bytes))) (Ok (None, bytes))

  -- it is there
  pub optional_is_read : (x : A) (rest : List ℕ) → begins_part n bytes ≡ true → one bytes ≡ Some (x, rest) → optional_at one n bytes ≡ Ok (Some x, rest)
  optional_is_read x rest there e = ap if_there there ∙ ap (λ (o : Option (A × List ℕ)). some_read (or_left bytes o)) e

  -- what was read
  some_back : (o : Option (A × List ℕ)) (x : A) (rest : List ℕ) → some_read (or_left bytes o) ≡ Ok (Some x, rest) → o ≡ Some (x, rest)
  some_back None x rest e = absurd cc
  some_back (Some y) x rest e =
      let same = ok_parts (Some y.0) (Some x) y.1 rest e in
      ap₂ (λ (a : A) (l : List ℕ). Some (a, l)) (same_Some y.0 x same.0) same.1

  -- it was there
  there_back : (b : Bool) (x : A) (rest : List ℕ) → if_there b ≡ Ok (Some x, rest) → one bytes ≡ Some (x, rest)
  there_back false x rest e = let no : ◌≡◌ {A = Option A} None (Some x) = (ok_parts None (Some x) bytes rest e).0 in absurd (none-some x no)
  there_back true x rest e = some_back (one bytes) x rest e

  -- what is read of it
  pub optional_back : (x : A) (rest : List ℕ) → optional_at one n bytes ≡ Ok (Some x, rest) → one bytes ≡ Some (x, rest)
  optional_back x rest e = there_back (begins_part n bytes) x rest e

-- ---- one hash

-- a hash is read back, whatever follows
pub aunt_is_read : (n : ℕ) (hash rest : List ℕ) → n < 16 → length hash ≡ 32 → aunt_at n (bytes_field n hash ++ rest) ≡ Some (hash, rest)
aunt_is_read n hash rest few size =
    let test : eqb (length hash) 32 ≡ true = grind (arith, nat_tests) in
    ap (option_and_then if_aunt) (part_read_back n hash rest few (omega arith))
    ∙ ap (λ (b : Bool). cond b (Some (hash, rest)) None) test

-- what is read as a hash
pub record IsAuntRead (n : ℕ) (bytes hash rest : List ℕ) : Type 0 where
  pub is : IsString 32 hash
  pub parts : bytes ≡ bytes_field n hash ++ rest
  pub fits : AreBytes rest

-- what is read as a hash was written so
pub read_is_aunt : (n : ℕ) (bytes hash rest : List ℕ) → n < 16 → AreBytes bytes → aunt_at n bytes ≡ Some (hash, rest) → IsAuntRead n bytes hash rest
read_is_aunt n bytes hash rest few fits e =
    let read = and_then_parts if_aunt (canonical_part n bytes) (hash, rest) e in
    let test = cond_some (eqb (length read.0.0) 32) read.0 (hash, rest) read.2 in
    let is : hash ≡ read.0.0 = ap (λ (p : List ℕ × List ℕ). p.0) (sym test.1) in
    let after : rest ≡ read.0.1 = ap (λ (p : List ℕ × List ℕ). p.1) (sym test.1) in
    let spelled = read_is_part_field n bytes read.0.0 read.0.1 few fits read.1 in
    let parts : bytes ≡ bytes_field n hash ++ rest = spelled.1 ∙ ap₂ (λ (h l : List ℕ). bytes_field n h ++ l) (sym is) (sym after) in
    let all : AreBytes (bytes_field n hash ++ rest) = subst (λ (l : List ℕ). AreBytes l) parts fits in
    record {
      is = record {
        size_is = ap length is ∙ eqb-true (length read.0.0) 32 test.0;
        fits = field_fits n hash (front_fits (bytes_field n hash) rest all);
      };
      parts = parts;
      fits = behind_fits (bytes_field n hash) rest all;
    }

-- ---- the recursion

-- none may be read
pub aunts_at-none : (n : ℕ) (bytes : List ℕ) → aunts_at n zero bytes ≡ Ok ([], bytes)
unfolding aunts_at
aunts_at-none n bytes = refl

-- what is read behind a test whether one is there
abbrev pub if_begins : ℕ → ℕ → List ℕ → Bool → Result (List (List ℕ) × List ℕ) ℕ
if_begins n most bytes b = cond b (before_aunts (aunts_at n most) (or_left bytes (aunt_at n bytes))) (Ok ([], bytes))

-- one more may be read
pub aunts_at-next : (n most : ℕ) (bytes : List ℕ) → aunts_at n (suc most) bytes ≡ if_begins n most bytes (begins_part n bytes)
unfolding aunts_at
aunts_at-next n most bytes = refl

-- none is there
pub aunts_at-end : (n most : ℕ) (bytes : List ℕ) → begins_part n bytes ≡ false → aunts_at n most bytes ≡ Ok ([], bytes)
aunts_at-end n zero bytes none = aunts_at-none n bytes
aunts_at-end n (suc most) bytes none = aunts_at-next n most bytes ∙ ap (if_begins n most bytes) none

-- one is there, and is wrong
pub aunts_at-wrong : (n most : ℕ) (bytes : List ℕ) → begins_part n bytes ≡ true → aunt_at n bytes ≡ None → aunts_at n (suc most) bytes ≡ Err (length bytes)
aunts_at-wrong n most bytes there e =
    aunts_at-next n most bytes
    ∙ ap (if_begins n most bytes) there
    ∙ ap (λ (o : Option (List ℕ × List ℕ)). before_aunts (aunts_at n most) (or_left bytes o)) e

-- one is there
pub aunts_at-more : (n most : ℕ) (bytes hash rest : List ℕ) → begins_part n bytes ≡ true → aunt_at n bytes ≡ Some (hash, rest)
    → aunts_at n (suc most) bytes ≡ with_aunt hash (aunts_at n most rest)
aunts_at-more n most bytes hash rest there e =
    aunts_at-next n most bytes
    ∙ ap (if_begins n most bytes) there
    ∙ ap (λ (o : Option (List ℕ × List ℕ)). before_aunts (aunts_at n most) (or_left bytes o)) e

-- ---- what was written is read

-- the first hash, and then the others
pub aunts_text-next : (n : ℕ) (hash : List ℕ) (hashes : List (List ℕ)) (rest : List ℕ)
    → parts_text n (hash ∷ hashes) ++ rest ≡ bytes_field n hash ++ (parts_text n hashes ++ rest)
aunts_text-next n hash hashes rest = append_assoc (bytes_field n hash) (parts_text n hashes) rest

-- none of another tag is in front of hashes
pub begins_aunts : (tag n : ℕ) (hashes : List (List ℕ)) (rest : List ℕ) → n < 16 → eqb (8 * n + 2) tag ≡ false → begins tag rest ≡ false
    → begins tag (parts_text n hashes ++ rest) ≡ false
begins_aunts tag n [] rest few other none = none
begins_aunts tag n (hash ∷ hashes) rest few other none =
    ap (begins tag) (aunts_text-next n hash hashes rest) ∙ begins_other tag n hash (parts_text n hashes ++ rest) few other

-- hashes are read back, where no other one follows
pub aunts_are_read : (n most : ℕ) (hashes : List (List ℕ)) (rest : List ℕ) → n < 16 → AllByRecursion (IsString 32) hashes → length hashes ≤ most
    → begins_part n rest ≡ false → aunts_at n most (parts_text n hashes ++ rest) ≡ Ok (hashes, rest)
aunts_are_read n most [] rest few all le none = aunts_at-end n most rest none
aunts_are_read n zero (hash ∷ hashes) rest few all le none = absurd (omega arith)
aunts_are_read n (suc most) (hash ∷ hashes) rest few all le none =
    let behind : List ℕ = parts_text n hashes ++ rest in
    ap (aunts_at n (suc most)) (aunts_text-next n hash hashes rest)
    ∙ aunts_at-more n most (bytes_field n hash ++ behind) hash behind (begins_own n hash behind few) (aunt_is_read n hash behind few all.0.size_is)
    ∙ ap (with_aunt hash) (aunts_are_read n most hashes rest few all.1 (omega arith) none)

-- ---- what is read was written

-- what is read as hashes
pub record AreAuntsRead (n most : ℕ) (bytes : List ℕ) (hashes : List (List ℕ)) (rest : List ℕ) : Type 0 where
  pub are : AllByRecursion (IsString 32) hashes
  pub few : length hashes ≤ most
  pub parts : bytes ≡ parts_text n hashes ++ rest
  pub fits : AreBytes rest

-- hashes behind a first one
record HasOthers (hash : List ℕ) (hashes : List (List ℕ)) (rest : List ℕ) (r : Result (List (List ℕ) × List ℕ) ℕ) : Type 0 where
  others : List (List ℕ)
  read : r ≡ Ok (others, rest)
  all : hashes ≡ hash ∷ others

-- a first one was put before others
with_aunt_parts : (hash : List ℕ) (hashes : List (List ℕ)) (rest : List ℕ) (r : Result (List (List ℕ) × List ℕ) ℕ) → with_aunt hash r ≡ Ok (hashes, rest)
    → HasOthers hash hashes rest r
with_aunt_parts hash hashes rest (Err left) e = absurd cc
with_aunt_parts hash hashes rest (Ok x) e =
    let same = ok_parts (hash ∷ x.0) hashes x.1 rest e in
    record { others = x.0; read = ap (λ (l : List ℕ). Ok (x.0, l)) same.1; all = sym same.0 }

-- no hash was read
none_read : (n most : ℕ) (bytes : List ℕ) (hashes : List (List ℕ)) (rest : List ℕ) → AreBytes bytes
    → ◌≡◌ {A = Result (List (List ℕ) × List ℕ) ℕ} (Ok ([], bytes)) (Ok (hashes, rest)) → AreAuntsRead n most bytes hashes rest
none_read n most bytes hashes rest fits e =
    let same = ok_parts [] hashes bytes rest e in
    record {
      are = subst (λ (l : List (List ℕ)). AllByRecursion (IsString 32) l) same.0 tt;
      few = subst (λ (l : List (List ℕ)). length l ≤ most) same.0 (omega arith);
      parts = same.1 ∙ ap (λ (l : List (List ℕ)). parts_text n l ++ rest) same.0;
      fits = subst (λ (l : List ℕ). AreBytes l) same.1 fits;
    }

-- whether what is read as at most so many hashes was written so
abbrev Back : ℕ → ℕ → Type 0
Back n most = (bytes : List ℕ) (hashes : List (List ℕ)) (rest : List ℕ) → AreBytes bytes → aunts_at n most bytes ≡ Ok (hashes, rest)
    → AreAuntsRead n most bytes hashes rest

-- a first one was read, and others
one_read : (n most : ℕ) (bytes : List ℕ) (hashes : List (List ℕ)) (rest : List ℕ) (o : Option (List ℕ × List ℕ)) → n < 16 → Back n most → AreBytes bytes
    → aunt_at n bytes ≡ o → before_aunts (aunts_at n most) (or_left bytes o) ≡ Ok (hashes, rest) → AreAuntsRead n (suc most) bytes hashes rest
one_read n most bytes hashes rest None few back fits is e = absurd cc
one_read n most bytes hashes rest (Some x) few back fits is e =
    let h = read_is_aunt n bytes x.0 x.1 few fits is in
    let more = with_aunt_parts x.0 hashes rest (aunts_at n most x.1) e in
    let others = back x.1 more.others rest h.fits more.read in
    record {
      are = subst (λ (l : List (List ℕ)). AllByRecursion (IsString 32) l) (sym more.all) (h.is, others.are);
      few = omega (arith, ap length more.all, others.few);
      parts =
          h.parts
          ∙ ap (λ (l : List ℕ). bytes_field n x.0 ++ l) others.parts
          ∙ sym (aunts_text-next n x.0 more.others rest)
          ∙ ap (λ (l : List (List ℕ)). parts_text n l ++ rest) (sym more.all);
      fits = others.fits;
    }

-- one is there, or none is
test_read : (n most : ℕ) (bytes : List ℕ) (hashes : List (List ℕ)) (rest : List ℕ) (b : Bool) → n < 16 → Back n most → AreBytes bytes
    → if_begins n most bytes b ≡ Ok (hashes, rest) → AreAuntsRead n (suc most) bytes hashes rest
test_read n most bytes hashes rest false few back fits e = none_read n (suc most) bytes hashes rest fits e
test_read n most bytes hashes rest true few back fits e = one_read n most bytes hashes rest (aunt_at n bytes) few back fits refl e

-- what is read as hashes was written so
pub read_are_aunts : (n most : ℕ) (bytes : List ℕ) (hashes : List (List ℕ)) (rest : List ℕ) → n < 16 → AreBytes bytes → aunts_at n most bytes ≡ Ok (hashes, rest)
    → AreAuntsRead n most bytes hashes rest
read_are_aunts n zero bytes hashes rest few fits e = none_read n zero bytes hashes rest fits (sym (aunts_at-none n bytes) ∙ e)
read_are_aunts n (suc most) bytes hashes rest few fits e =
    test_read n most bytes hashes rest (begins_part n bytes) few (λ some list left. read_are_aunts n most some list left few) fits (sym (aunts_at-next n most bytes) ∙ e)

-- ---- how long

-- a hash in its field has 34 bytes
pub aunt_length : (n : ℕ) (hash : List ℕ) → n < 16 → length hash ≡ 32 → length (bytes_field n hash) ≡ 34
aunt_length n hash few size =
    let front : length (varint (length hash)) ≡ 1 = ap (λ (k : ℕ). length (varint k)) size ∙ length-varint-low 32 (omega arith) in
    omega (arith, ap length (bytes_field-is n hash few), length-append (varint (length hash)) hash, front)

-- so has each
pub length_aunts : (n : ℕ) (hashes : List (List ℕ)) → n < 16 → AllByRecursion (IsString 32) hashes → length (parts_text n hashes) ≡ 34 * length hashes
length_aunts n [] few all = refl
length_aunts n (hash ∷ hashes) few all =
    omega (arith, length-append (bytes_field n hash) (parts_text n hashes), aunt_length n hash few all.0.size_is, length_aunts n hashes few all.1)
