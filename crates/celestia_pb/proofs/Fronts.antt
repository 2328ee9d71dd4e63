-- Which field is at the front of bytes that were written.
use Rattle.std.proofs.Common.{◌≡◌, ◌∙◌, ℕ, ◌+◌, ◌*◌, ◌<◌, true, false, eqb, List, ◌++◌, ap, arith}
use Rattle.std.proofs.lemmas.Bool.Decides.{nat_tests}
use Rattle.proto_fields.specs.Spelled.{bytes_field}
use Rattle.proto_fields.specs.Canonical.{begins, begins_part}
use Rattle.proto_fields.proofs.CanonicalLemmas.{bytes_field-is}

-- a tag is itself
eqb_self : (tag : ℕ) → eqb tag tag ≡ true
eqb_self tag = grind (arith, nat_tests)

-- a field of bytes begins with its tag
begins_tag : (tag n : ℕ) (bytes rest : List ℕ) → n < 16 → begins tag (bytes_field n bytes ++ rest) ≡ eqb (8 * n + 2) tag
begins_tag tag n bytes rest few = ap (λ (l : List ℕ). begins tag (l ++ rest)) (bytes_field-is n bytes few)

-- so one of its number is at the front
pub begins_own : (n : ℕ) (bytes rest : List ℕ) → n < 16 → begins_part n (bytes_field n bytes ++ rest) ≡ true
begins_own n bytes rest few = begins_tag (8 * n + 2) n bytes rest few ∙ eqb_self (8 * n + 2)

-- and none of another tag is
pub begins_other : (tag n : ℕ) (bytes rest : List ℕ) → n < 16 → eqb (8 * n + 2) tag ≡ false → begins tag (bytes_field n bytes ++ rest) ≡ false
begins_other tag n bytes rest few other = begins_tag tag n bytes rest few ∙ other
