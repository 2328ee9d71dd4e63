-- The number of an axis in a field, written and read.
use Rattle.std.proofs.Common.{◌≡◌, ◌∙◌, ℕ, ◌<◌, false, eqb, ◌*◌, List, [], ◌++◌, Some, option_and_then, refl, sym, ap, ap₂, arith, append-nil}
use Rattle.namespace_id.specs.declared.cells.Axis.{Axis}
use Rattle.namespace_id.specs.declared.cells.Axis.TheVariants.{Row, Col}
use Rattle.namespace_id.specs.declared.cells.Cell.{Cell}
use Rattle.namespace_id.specs.Bytes.{AreBytes}
use Rattle.proto_fields.specs.Canonical.{number_text, begins, canonical_number}
use Rattle.proto_fields.proofs.Options.{and_then_parts}
use Rattle.proto_fields.proofs.CanonicalLemmas.{number_is_read, read_is_number}
use Rattle.axis_roots.specs.Messages.{position}
use Rattle.celestia_pb.specs.Samples.{axis_number, place_on, axis_of_number}
use Rattle.celestia_pb.specs.BefpEntries.{axis_field}
use Rattle.celestia_pb.proofs.MessageLemmas.{begins_number}
use Rattle.celestia_pb.proofs.SampleLemmas.{axis_number-is}

-- it is read back, where nothing follows
pub axis_in_is_read : (n : ℕ) (axis : Axis) → n < 16 → axis_field n (number_text n (axis_number axis)) ≡ Some (axis, [])
axis_in_is_read n Row few =
    ap (axis_field n) (sym (append-nil (number_text n 0))) ∙ ap (option_and_then axis_of_number) (number_is_read n 0 [] few (omega arith) refl)
axis_in_is_read n Col few =
    ap (axis_field n) (sym (append-nil (number_text n 1))) ∙ ap (option_and_then axis_of_number) (number_is_read n 1 [] few (omega arith) refl)

-- what is read as an axis was written so
pub axis_in_back : (n : ℕ) (bytes : List ℕ) (x : Axis × List ℕ) → n < 16 → AreBytes bytes → axis_field n bytes ≡ Some x → bytes ≡ number_text n (axis_number x.0) ++ x.1
axis_in_back n bytes x few fits e =
    let read = and_then_parts axis_of_number (canonical_number n bytes) x e in
    let is = axis_number-is read.0.0 read.0.1 x read.2 in
    (read_is_number n read.0.0 bytes read.0.1 few fits read.1).1 ∙ ap₂ (λ (m : ℕ) (l : List ℕ). number_text n m ++ l) is.0 is.1

-- none of another tag is in front of a number, where nothing follows
pub begins_last : (tag n value : ℕ) → n < 16 → eqb (8 * n) tag ≡ false → begins tag (number_text n value) ≡ false
begins_last tag n value few other = ap (begins tag) (sym (append-nil (number_text n value))) ∙ begins_number tag n value [] few other refl

-- the place of a cell on an axis is its position there
pub place_is_position : (axis : Axis) (cell : Cell) → place_on axis cell ≡ position axis cell
place_is_position Row cell = refl
place_is_position Col cell = refl
