-- Looking for fields, one after another, and the bytes that they are.
use Rattle.std.proofs.Common.{◌≡◌, ◌≢◌, eqb-true, ◌∙◌, ℕ, zero, suc, ◌≤◌, ◌<◌, ◌==◌, Bool, true, false, cond, List, [], ◌∷◌, length, Option, Some, None, Result, Ok, Err, refl, sym, ap, arith}
use Rattle.std.proofs.lemmas.Bool.Decides.{nat_tests}
use Rattle.proto_fields.specs.Fields.{FieldParts, field_at}
use Rattle.proto_fields.proofs.GroupLemmas.{field_shorter}
use Rattle.celestia_pb.specs.Extended.{from_or, from_within, from_field}

-- ---- one field more

-- no bytes have no field
pub from-none : (more n : ℕ) → from_within more n [] ≡ Ok []
unfolding from_within
from-none more n = refl

-- no field may be there
pub from-zero : (n byte : ℕ) (bytes : List ℕ) → from_within zero n (byte ∷ bytes) ≡ Err (length (byte ∷ bytes))
unfolding from_within
from-zero n byte bytes = refl

-- at most one field more
pub from-next : (more n byte : ℕ) (bytes : List ℕ) → from_within (suc more) n (byte ∷ bytes) ≡ from_or n (from_within more n) (byte ∷ bytes) (field_at (byte ∷ bytes))
unfolding from_within
from-next more n byte bytes = refl

-- two counts agree behind a field
later_same : (n : ℕ) (later other : List ℕ → Result (List ℕ) ℕ) (bytes : List ℕ) → ((behind : List ℕ) → length behind < length bytes → later behind ≡ other behind)
    → (o : Option (FieldParts × List ℕ)) → field_at bytes ≡ o → from_or n later bytes o ≡ from_or n other bytes o
later_same n later other bytes same None e = refl
later_same n later other bytes same (Some read) e =
    ap (λ (found : Result (List ℕ) ℕ). cond (read.0.number == n) (Ok bytes) found) (same read.1 (field_shorter bytes read e))

-- there may be any number of fields that isn't below that of the bytes
from_same : (more other n : ℕ) (bytes : List ℕ) → length bytes ≤ more → length bytes ≤ other → from_within more n bytes ≡ from_within other n bytes
from_same more other n [] few small = from-none more n ∙ sym (from-none other n)
from_same zero other n (byte ∷ bytes) few small = absurd (omega arith)
from_same (suc more) zero n (byte ∷ bytes) few small = absurd (omega arith)
from_same (suc more) (suc other) n (byte ∷ bytes) few small =
    from-next more n byte bytes
    ∙ later_same n (from_within more n) (from_within other n) (byte ∷ bytes)
    (λ behind less. from_same more other n behind (omega arith) (omega arith)) (field_at (byte ∷ bytes)) refl
    ∙ sym (from-next other n byte bytes)

-- what is found, by the field at the front and whether it has the number
from_first : (n : ℕ) (bytes rest : List ℕ) (field : FieldParts) (b : Bool) → field_at bytes ≡ Some (field, rest) → (field.number == n) ≡ b
    → from_field n bytes ≡ cond b (Ok bytes) (from_field n rest)
from_first n [] rest field b e is = absurd (omega (arith, field_shorter [] (field, rest) e))
from_first n (byte ∷ bytes) rest field b e is =
    from-next (length bytes) n byte bytes
    ∙ ap (from_or n (from_within (length bytes) n) (byte ∷ bytes)) e
    ∙ ap (λ (c : Bool). cond c (Ok (byte ∷ bytes)) (from_within (length bytes) n rest)) is
    ∙ ap (λ (found : Result (List ℕ) ℕ). cond b (Ok (byte ∷ bytes)) found)
    (from_same (length bytes) (length rest) n rest (omega (arith, field_shorter (byte ∷ bytes) (field, rest) e)) (omega arith))

-- a field of the number is found where it is
pub from_here : (n : ℕ) (bytes rest : List ℕ) (field : FieldParts) → field_at bytes ≡ Some (field, rest) → field.number ≡ n
    → from_field n bytes ≡ Ok bytes
from_here n bytes rest field e same =
    let is : (field.number == n) ≡ true = grind (arith, nat_tests) in
    from_first n bytes rest field true e is

-- another one is passed over
pub from_behind : (n : ℕ) (bytes rest : List ℕ) (field : FieldParts) → field_at bytes ≡ Some (field, rest) → field.number ≢ n
    → from_field n bytes ≡ from_field n rest
from_behind n bytes rest field e other =
    let is : (field.number == n) ≡ false = grind (arith, nat_tests) in
    from_first n bytes rest field false e is

-- where no field is at the front, and some bytes are, they are wrong
pub from_stops : (n : ℕ) (bytes : List ℕ) → field_at bytes ≡ None → (length bytes == 0) ≡ false → from_field n bytes ≡ Err (length bytes)
from_stops n [] e some = absurd cc
from_stops n (byte ∷ bytes) e some = from-next (length bytes) n byte bytes ∙ ap (from_or n (from_within (length bytes) n) (byte ∷ bytes)) e

-- where none are nothing is found
pub from_ends : (n : ℕ) (bytes : List ℕ) → (length bytes == 0) ≡ true → from_field n bytes ≡ Ok bytes
from_ends n [] none = from-none 0 n
from_ends n (byte ∷ bytes) none = absurd (omega (arith, eqb-true (length (byte ∷ bytes)) 0 none))
