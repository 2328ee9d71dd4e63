-- What lenient reading has of digests that were written.
use Rattle.std.proofs.Common.{◌≡◌, ◌∙◌, ℕ, zero, suc, ◌<◌, Bool, true, false, cond, eqb, List, [], ◌∷◌, ◌++◌, map, Some, refl, ap, ap₂, arith}
use Rattle.std.proofs.lemmas.Bool.Decides.{nat_tests}
use Rattle.namespace_id.specs.declared.digests.Digest.{Digest}
use Rattle.namespace_id.specs.Digests.{AreDigests}
use Rattle.proto_fields.specs.Fields.{FieldParts, number_value, fields_of, last_of, all_bytes, all_numbers}
use Rattle.proto_fields.specs.Canonical.{number_fields, part_field}
use Rattle.proto_fields.proofs.FieldLemmas.{last_of-none}
use Rattle.proto_fields.proofs.CanonicalLemmas.{part_fields_of}
use Rattle.celestia_pb.specs.Digests.{digests_text}
use Rattle.celestia_pb.specs.Laws.{bytes_of_all}
use Rattle.celestia_pb.proofs.DigestLemmas.{digests_text-next}

-- the fields that digests are
abbrev pub digest_fields : ℕ → List Digest → List FieldParts
digest_fields n digests = map (λ (digest : Digest). part_field n digest.0) digests

-- digests that were written are these fields, and then those that follow
pub digest_fields_of : (n : ℕ) (digests : List Digest) (rest : List ℕ) (fields : List FieldParts) → 0 < n → n < 16 → AreDigests digests → fields_of rest ≡ Some fields
    → fields_of (digests_text n digests ++ rest) ≡ Some (digest_fields n digests ++ fields)
digest_fields_of n [] rest fields some few all others = others
digest_fields_of n (digest ∷ digests) rest fields some few all others =
    let size = all.0.size_is in
    ap fields_of (digests_text-next n digest digests rest)
    ∙ part_fields_of n digest.0 (digests_text n digests ++ rest) (digest_fields n digests ++ fields) some few (omega arith)
    (digest_fields_of n digests rest fields some few all.1 others)

-- a number is itself
eqb_self : (n : ℕ) → eqb n n ≡ true
eqb_self n = grind (arith, nat_tests)

-- those of their number are all of them
pub own_digests : (n : ℕ) (digests : List Digest) → all_bytes n (digest_fields n digests) ≡ bytes_of_all digests
own_digests n [] = refl
own_digests n (digest ∷ digests) =
    ap₂ (λ (x y : List (List ℕ)). x ++ y) (ap (λ (b : Bool). cond b (digest.0 ∷ []) []) (eqb_self n)) (own_digests n digests)

-- and of another number there is none
pub other_digests : (n m : ℕ) (digests : List Digest) → eqb n m ≡ false → all_bytes m (digest_fields n digests) ≡ []
other_digests n m [] other = refl
other_digests n m (digest ∷ digests) other =
    ap₂ (λ (x y : List (List ℕ)). x ++ y) (ap (λ (b : Bool). cond b (digest.0 ∷ []) []) other) (other_digests n m digests other)

-- a number above 0 isn't 0
eqb_suc : (n : ℕ) → eqb (suc n) 0 ≡ false
eqb_suc n = grind (arith, nat_tests)

-- nothing, whatever a test says
pub cond_same : {A : Type 0} (b : Bool) → cond {A = List A} b [] [] ≡ []
cond_same true = refl
cond_same false = refl

-- numbers have no bytes, and digests no numbers
pub number_bytes : (n m value : ℕ) → all_bytes m (number_fields n value) ≡ []
number_bytes n m zero = refl
number_bytes n m (suc value) =
    ap (λ (b : Bool). all_bytes m (cond b [] (record { number = n; value = number_value (suc value) } ∷ []))) (eqb_suc value) ∙ ap (λ (l : List (List ℕ)). l ++ []) (cond_same (eqb n m))

pub digest_numbers : (n m : ℕ) (digests : List Digest) → all_numbers m (digest_fields n digests) ≡ []
digest_numbers n m [] = refl
digest_numbers n m (digest ∷ digests) = ap₂ (λ (x y : List ℕ). x ++ y) (cond_same (eqb n m)) (digest_numbers n m digests)

-- the last of one more
pub last_of-cons : {A : Type 0} (found value : A) (values : List A) → last_of found (value ∷ values) ≡ last_of value values
unfolding last_of
last_of-cons found value values = refl

-- the number of a field is the last one of its own
pub own_number : (n value : ℕ) → last_of 0 (all_numbers n (number_fields n value)) ≡ value
own_number n zero = last_of-none 0
own_number n (suc value) =
    ap (λ (b : Bool). last_of 0 (all_numbers n (cond b [] (record { number = n; value = number_value (suc value) } ∷ [])))) (eqb_suc value)
    ∙ ap (λ (b : Bool). last_of 0 (cond b (suc value ∷ []) [] ++ [])) (eqb_self n)
    ∙ last_of-cons 0 (suc value) []
    ∙ last_of-none (suc value)

-- and none of another
pub other_number : (n m value : ℕ) → eqb n m ≡ false → all_numbers m (number_fields n value) ≡ []
other_number n m zero other = refl
other_number n m (suc value) other =
    ap (λ (b : Bool). all_numbers m (cond b [] (record { number = n; value = number_value (suc value) } ∷ []))) (eqb_suc value)
    ∙ ap (λ (b : Bool). cond b (suc value ∷ []) [] ++ []) other
