-- A collision that is read of a payload is what the payload spells, and the payload that one has is read.
use Rattle.std.proofs.Common.{◌≡◌, ◌∙◌, ℕ, ◌≤◌, Bool, true, false, not, eqb, List, length, refl, sym, arith}
use Rattle.std.specs.Int.{w16}
use Rattle.std.specs.Str.{bytes_eq}
use Rattle.std.proofs.lemmas.Bool.{and_parts, and_from, or_parts, or_from, not-true, not_from_false, false_from_ne_true, true≢false}
use Rattle.std.proofs.lemmas.Slice.Eq.{bytes_eq-Decides}
use Rattle.sha2.specs.Sha256.{sha256}
use Rattle.namespace_id.specs.Bytes.{AreBytes}
use Rattle.nmt_proofs.specs.Clashes.{IsClash}
use Rattle.hash_clash.specs.Preimages.{longest}
use Rattle.hash_clash.specs.Collisions.{Strings}
use Rattle.frame_payloads.specs.codec.Texts.{text_bytes}
use Rattle.frame_payloads.specs.kinds.Clash.{AreStrings, has_empty, clash_payload, side_at, is_collision, clash_at}
use Rattle.frame_payloads.proofs.Fields.Texts.{IsField}
use Rattle.frame_payloads.proofs.Fields.Fields.{Fields, ◌▸◌, bounded, as_field, field_of, ended_if_takes, ended_if_again}
use Rattle.frame_payloads.proofs.Fields.Bases.{text16, field}
use Rattle.frame_payloads.proofs.Forms.Form.{IsForm}

-- ---- two strings that are a collision

-- strings of bytes that pass the test are a collision
collides : (left right : List ℕ) → AreBytes left → AreBytes right → is_collision left right ≡ true → IsClash left right
collides left right left_fits right_fits e =
    let both = and_parts (not (bytes_eq left right)) (bytes_eq (sha256 left) (sha256 right)) e in
    record {
      left_bytes = left_fits;
      right_bytes = right_fits;
      apart = λ same. true≢false (sym ((bytes_eq-Decides left right).1 same) ∙ not-true (bytes_eq left right) both.0);
      digest = (bytes_eq-Decides (sha256 left) (sha256 right)).0 both.1;
    }

-- a collision passes the test
collision_passes : (left right : List ℕ) → IsClash left right → is_collision left right ≡ true
collision_passes left right is =
    let apart : bytes_eq left right ≡ false = false_from_ne_true (bytes_eq left right) (λ same. is.apart ((bytes_eq-Decides left right).0 same)) in
    and_from (not (bytes_eq left right)) (bytes_eq (sha256 left) (sha256 right)) (not_from_false (bytes_eq left right) apart) ((bytes_eq-Decides (sha256 left) (sha256 right)).1 is.digest)

-- ---- a string of at least one byte behind its length

-- a string within the limit
abbrev IsText : List ℕ → Type 0
IsText text = AreBytes text × (length text ≤ longest)

-- a string behind its length, and not of length 0
abbrev side : {R : Type 0} → Fields R (List ℕ)
side = bounded (text16 longest (omega arith)) (λ text. eqb (length text) 0)

-- such a string is a field
side_field : IsField side_at (text_bytes w16) (λ text. IsText text × (eqb (length text) 0 ≡ false))
unfolding side_at
side_field = field_of side side_at (text_bytes w16) (λ bytes. refl) (λ text. refl) (λ text. omega arith)

-- ---- both strings

-- the fields of a collision
abbrev fields : Fields Strings (List ℕ × List ℕ)
fields = field side_at (text_bytes w16) (λ text. IsText text × (eqb (length text) 0 ≡ false)) side_field ▸ field side_at (text_bytes w16) (λ text. IsText text × (eqb (length text) 0 ≡ false)) side_field

-- two strings that may be read
abbrev IsBoth : Strings → Type 0
IsBoth x = fields.Is (x.left, x.right)

-- two strings
abbrev both : Fields Strings Strings
both = as_field fields (λ x. record { left = x.0; right = x.1 }) (λ s. (s.left, s.right)) IsBoth (record { there = λ x is. (is, refl); back = λ s is. (is, refl) })

-- whether two strings are a collision
abbrev are_collision : Strings → Bool
are_collision x = is_collision x.left x.right

-- the form of this kind
pub clash_form : IsForm AreStrings clash_at clash_payload has_empty
unfolding clash_at
clash_form = record {
  takes = λ bytes x fits e.
      let t = ended_if_takes both are_collision bytes x fits e in (
        record { is_clash = collides x.left x.right t.0.0.0.0 t.0.1.0.0 t.2; left_few = t.0.0.0.1; right_few = t.0.1.0.1 },
        t.1,
        or_from (eqb (length x.left) 0) (eqb (length x.right) 0) t.0.0.1 t.0.1.1,
      );
  again = λ x is some few.
      let sides = or_parts (eqb (length x.left) 0) (eqb (length x.right) 0) some in
      ended_if_again both are_collision x (((is.is_clash.left_bytes, is.left_few), sides.0), ((is.is_clash.right_bytes, is.right_few), sides.1))
      (collision_passes x.left x.right is.is_clash) (omega (arith, few));
}
