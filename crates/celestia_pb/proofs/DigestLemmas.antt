-- Digests in repeated fields, written and read.
use Rattle.std.proofs.Common.{◌≡◌, ◌∙◌, ℕ, zero, suc, ◌+◌, ◌*◌, ◌<◌, ◌≤◌, Bool, true, false, cond, eqb, eqb-true, List, [], ◌∷◌, ◌++◌, length, Option, Some, None, option_and_then, Result, Ok, Err, refl, sym, ap, subst, arith, append_assoc}
use Rattle.std.proofs.lemmas.Bool.Decides.{nat_tests}
use Rattle.std.proofs.lemmas.Option.{cond_some, some_pair_parts}
use Rattle.namespace_id.specs.declared.digests.Digest.{Digest}
use Rattle.namespace_id.specs.Bytes.{AreBytes}
use Rattle.namespace_id.specs.Digests.{IsDigest, AreDigests}
use Rattle.proto_fields.specs.Varints.{varint}
use Rattle.proto_fields.specs.Spelled.{text, bytes_field}
use Rattle.proto_fields.specs.Canonical.{begins, begins_part, canonical_part}
use Rattle.proto_fields.proofs.Options.{and_then_parts}
use Rattle.proto_fields.proofs.CanonicalVarints.{front_fits, behind_fits}
use Rattle.proto_fields.proofs.CanonicalLemmas.{part_read_back, read_is_part_field}
use Rattle.celestia_pb.specs.Reading.{or_left}
use Rattle.celestia_pb.specs.Digests.{digests_text, if_digest, digest_field, with_digest, before_digests, digests_at}
use Rattle.celestia_pb.proofs.Fronts.{begins_own, begins_other}

-- ---- one digest

-- a digest is read back, whatever follows
pub digest_is_read : (n : ℕ) (digest : Digest) (rest : List ℕ) → n < 16 → length digest.0 ≡ 90 → digest_field n (bytes_field n digest.0 ++ rest) ≡ Some (digest, rest)
digest_is_read n digest rest few size =
    let test : eqb (length digest.0) 90 ≡ true = grind (arith, nat_tests) in
    ap (option_and_then if_digest) (part_read_back n digest.0 rest few (omega arith))
    ∙ ap (λ (b : Bool). cond b (Some (digest, rest)) None) test

-- what is read as a digest
pub record IsDigestRead (n : ℕ) (bytes : List ℕ) (digest : Digest) (rest : List ℕ) : Type 0 where
  pub is : IsDigest digest
  pub parts : bytes ≡ bytes_field n digest.0 ++ rest
  pub fits : AreBytes rest

-- the bytes of a field are bytes
pub field_fits : (n : ℕ) (bytes : List ℕ) → AreBytes (bytes_field n bytes) → AreBytes bytes
field_fits n bytes fits = behind_fits (varint (length bytes)) bytes (behind_fits (varint (8 * n + 2)) (text bytes) fits)

-- what is read as a digest was written so
pub read_is_digest : (n : ℕ) (bytes : List ℕ) (digest : Digest) (rest : List ℕ) → n < 16 → AreBytes bytes → digest_field n bytes ≡ Some (digest, rest)
    → IsDigestRead n bytes digest rest
read_is_digest n bytes digest rest few fits e =
    let read = and_then_parts if_digest (canonical_part n bytes) (digest, rest) e in
    let test = cond_some (eqb (length read.0.0) 90) (record { 0 = read.0.0 }, read.0.1) (digest, rest) read.2 in
    let is : digest.0 ≡ read.0.0 = ap (λ (p : Digest × List ℕ). p.0.0) (sym test.1) in
    let after : rest ≡ read.0.1 = ap (λ (p : Digest × List ℕ). p.1) (sym test.1) in
    let spelled = read_is_part_field n bytes read.0.0 read.0.1 few fits read.1 in
    let parts : bytes ≡ bytes_field n digest.0 ++ rest =
    spelled.1 ∙ ap (λ (l : List ℕ). bytes_field n l ++ read.0.1) (sym is) ∙ ap (λ (l : List ℕ). bytes_field n digest.0 ++ l) (sym after) in
    let all : AreBytes (bytes_field n digest.0 ++ rest) = subst (λ (l : List ℕ). AreBytes l) parts fits in
    record {
      is = record {
        size_is = ap length is ∙ eqb-true (length read.0.0) 90 test.0;
        fits = field_fits n digest.0 (front_fits (bytes_field n digest.0) rest all);
      };
      parts = parts;
      fits = behind_fits (bytes_field n digest.0) rest all;
    }

-- ---- the recursion

-- none may be read
pub digests_at-none : (n : ℕ) (bytes : List ℕ) → digests_at n zero bytes ≡ Ok ([], bytes)
unfolding digests_at
digests_at-none n bytes = refl

-- what is read behind a test whether one is there
abbrev pub if_begins : ℕ → ℕ → List ℕ → Bool → Result (List Digest × List ℕ) ℕ
if_begins n most bytes b = cond b (before_digests (digests_at n most) (or_left bytes (digest_field n bytes))) (Ok ([], bytes))

-- one more may be read
pub digests_at-next : (n most : ℕ) (bytes : List ℕ) → digests_at n (suc most) bytes ≡ if_begins n most bytes (begins_part n bytes)
unfolding digests_at
digests_at-next n most bytes = refl

-- none is there
pub digests_at-end : (n most : ℕ) (bytes : List ℕ) → begins_part n bytes ≡ false → digests_at n most bytes ≡ Ok ([], bytes)
digests_at-end n zero bytes none = digests_at-none n bytes
digests_at-end n (suc most) bytes none = digests_at-next n most bytes ∙ ap (if_begins n most bytes) none

-- one is there, and is wrong
pub digests_at-wrong : (n most : ℕ) (bytes : List ℕ) → begins_part n bytes ≡ true → digest_field n bytes ≡ None → digests_at n (suc most) bytes ≡ Err (length bytes)
digests_at-wrong n most bytes there e =
    digests_at-next n most bytes
    ∙ ap (if_begins n most bytes) there
    ∙ ap (λ (o : Option (Digest × List ℕ)). before_digests (digests_at n most) (or_left bytes o)) e

-- one is there
pub digests_at-more : (n most : ℕ) (bytes : List ℕ) (digest : Digest) (rest : List ℕ) → begins_part n bytes ≡ true → digest_field n bytes ≡ Some (digest, rest)
    → digests_at n (suc most) bytes ≡ with_digest digest (digests_at n most rest)
digests_at-more n most bytes digest rest there e =
    digests_at-next n most bytes
    ∙ ap (if_begins n most bytes) there
    ∙ ap (λ (o : Option (Digest × List ℕ)). before_digests (digests_at n most) (or_left bytes o)) e

-- ---- what was written is read

-- the first digest, and then the others
pub digests_text-next : (n : ℕ) (digest : Digest) (digests : List Digest) (rest : List ℕ)
    → digests_text n (digest ∷ digests) ++ rest ≡ bytes_field n digest.0 ++ (digests_text n digests ++ rest)
digests_text-next n digest digests rest = append_assoc (bytes_field n digest.0) (digests_text n digests) rest

-- none of another tag is in front of digests
pub begins_digests : (tag n : ℕ) (digests : List Digest) (rest : List ℕ) → n < 16 → eqb (8 * n + 2) tag ≡ false → begins tag rest ≡ false
    → begins tag (digests_text n digests ++ rest) ≡ false
begins_digests tag n [] rest few other none = none
begins_digests tag n (digest ∷ digests) rest few other none =
    ap (begins tag) (digests_text-next n digest digests rest) ∙ begins_other tag n digest.0 (digests_text n digests ++ rest) few other

-- digests are read back, where no other one follows
pub digests_are_read : (n most : ℕ) (digests : List Digest) (rest : List ℕ) → n < 16 → AreDigests digests → length digests ≤ most → begins_part n rest ≡ false
    → digests_at n most (digests_text n digests ++ rest) ≡ Ok (digests, rest)
digests_are_read n most [] rest few all le none = digests_at-end n most rest none
digests_are_read n zero (digest ∷ digests) rest few all le none = absurd (omega arith)
digests_are_read n (suc most) (digest ∷ digests) rest few all le none =
    let behind : List ℕ = digests_text n digests ++ rest in
    ap (digests_at n (suc most)) (digests_text-next n digest digests rest)
    ∙ digests_at-more n most (bytes_field n digest.0 ++ behind) digest behind (begins_own n digest.0 behind few) (digest_is_read n digest behind few all.0.size_is)
    ∙ ap (with_digest digest) (digests_are_read n most digests rest few all.1 (omega arith) none)

-- ---- what is read was written

-- what is read as digests
pub record AreDigestsRead (n most : ℕ) (bytes : List ℕ) (digests : List Digest) (rest : List ℕ) : Type 0 where
  pub are : AreDigests digests
  pub few : length digests ≤ most
  pub parts : bytes ≡ digests_text n digests ++ rest
  pub fits : AreBytes rest

-- digests behind a first one
record HasOthers (digest : Digest) (digests : List Digest) (rest : List ℕ) (r : Result (List Digest × List ℕ) ℕ) : Type 0 where
  others : List Digest
  read : r ≡ Ok (others, rest)
  all : digests ≡ digest ∷ others

-- what was read, if it was
abbrev first_some : {A : Type 0} → Result A ℕ → Option A
first_some (Ok x) = Some x
first_some (Err left) = None

-- both parts of what was read
pub ok_parts : {A B : Type 0} (a x : A) (b y : B) → ◌≡◌ {A = Result (A × B) ℕ} (Ok (a, b)) (Ok (x, y)) → (a ≡ x) × (b ≡ y)
ok_parts a x b y e =
    some_pair_parts a x b y (ap first_some e)

-- a first one was put before others
with_digest_parts : (digest : Digest) (digests : List Digest) (rest : List ℕ) (r : Result (List Digest × List ℕ) ℕ) → with_digest digest r ≡ Ok (digests, rest)
    → HasOthers digest digests rest r
with_digest_parts digest digests rest (Err left) e = absurd cc
with_digest_parts digest digests rest (Ok x) e =
    let same = ok_parts (digest ∷ x.0) digests x.1 rest e in
    record { others = x.0; read = ap (λ (l : List ℕ). Ok (x.0, l)) same.1; all = sym same.0 }

-- no digest was read
none_read : (n most : ℕ) (bytes : List ℕ) (digests : List Digest) (rest : List ℕ) → AreBytes bytes → ◌≡◌ {A = Result (List Digest × List ℕ) ℕ} (Ok ([], bytes)) (Ok (digests, rest))
    → AreDigestsRead n most bytes digests rest
none_read n most bytes digests rest fits e =
    let same = ok_parts [] digests bytes rest e in
    record {
      are = subst (λ (l : List Digest). AreDigests l) same.0 tt;
      few = subst (λ (l : List Digest). length l ≤ most) same.0 (omega arith);
      parts = same.1 ∙ ap (λ (l : List Digest). digests_text n l ++ rest) same.0;
      fits = subst (λ (l : List ℕ). AreBytes l) same.1 fits;
    }

-- whether what is read as at most so many digests was written so
abbrev Back : ℕ → ℕ → Type 0
Back n most = (bytes : List ℕ) (digests : List Digest) (rest : List ℕ) → AreBytes bytes → digests_at n most bytes ≡ Ok (digests, rest)
    → AreDigestsRead n most bytes digests rest

-- a first one was read, and others
one_read : (n most : ℕ) (bytes : List ℕ) (digests : List Digest) (rest : List ℕ) (o : Option (Digest × List ℕ)) → n < 16 → Back n most → AreBytes bytes
    → digest_field n bytes ≡ o → before_digests (digests_at n most) (or_left bytes o) ≡ Ok (digests, rest) → AreDigestsRead n (suc most) bytes digests rest
one_read n most bytes digests rest None few back fits is e = absurd cc
one_read n most bytes digests rest (Some x) few back fits is e =
    let h = read_is_digest n bytes x.0 x.1 few fits is in
    let more = with_digest_parts x.0 digests rest (digests_at n most x.1) e in
    let others = back x.1 more.others rest h.fits more.read in
    record {
      are = subst (λ (l : List Digest). AreDigests l) (sym more.all) (h.is, others.are);
      few = omega (arith, ap length more.all, others.few);
      parts =
          h.parts
          ∙ ap (λ (l : List ℕ). bytes_field n x.0.0 ++ l) others.parts
          ∙ sym (digests_text-next n x.0 more.others rest)
          ∙ ap (λ (l : List Digest). digests_text n l ++ rest) (sym more.all);
      fits = others.fits;
    }

-- one is there, or none is
test_read : (n most : ℕ) (bytes : List ℕ) (digests : List Digest) (rest : List ℕ) (b : Bool) → n < 16 → Back n most → AreBytes bytes
    → if_begins n most bytes b ≡ Ok (digests, rest) → AreDigestsRead n (suc most) bytes digests rest
test_read n most bytes digests rest false few back fits e = none_read n (suc most) bytes digests rest fits e
test_read n most bytes digests rest true few back fits e = one_read n most bytes digests rest (digest_field n bytes) few back fits refl e

-- what is read as digests was written so
pub read_are_digests : (n most : ℕ) (bytes : List ℕ) (digests : List Digest) (rest : List ℕ) → n < 16 → AreBytes bytes → digests_at n most bytes ≡ Ok (digests, rest)
    → AreDigestsRead n most bytes digests rest
read_are_digests n zero bytes digests rest few fits e = none_read n zero bytes digests rest fits (sym (digests_at-none n bytes) ∙ e)
read_are_digests n (suc most) bytes digests rest few fits e =
    test_read n most bytes digests rest (begins_part n bytes) few (λ some list left. read_are_digests n most some list left few) fits (sym (digests_at-next n most bytes) ∙ e)
