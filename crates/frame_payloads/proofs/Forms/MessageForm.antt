-- A sample that is read of a payload is what the payload spells, and the payload that a sample has is read.
use Rattle.std.proofs.Common.{◌≡◌, ℕ, List, Some, refl, arith}
use Rattle.namespace_id.specs.Bytes.{AreBytes}
use Rattle.namespace_id.specs.Sizes.{most_depth}
use Rattle.axis_roots.specs.declared.message.messages.Message.{Message}
use Rattle.axis_roots.specs.Messages.{IsMessage}
use Rattle.frame_fields.specs.Messages.{message_front, message_at}
use Rattle.frame_payloads.specs.kinds.Message.{message_payload}
use Rattle.frame_payloads.proofs.Fields.Fields.{AreMaps, ◌▸◌, made_field}
use Rattle.frame_payloads.proofs.Fields.Bases.{cell, axis, share512, path, field}
use Rattle.frame_payloads.proofs.Fields.Texts.{IsField}
use Rattle.frame_payloads.proofs.Forms.PayloadSizes.{length-message}
use Rattle.frame_payloads.proofs.Forms.Form.{IsForm, IsSpelled, never, form_of}

-- a sample is a cell, an axis, a share, and a path
maps : AreMaps {R = Message × List ℕ} (cell ▸ axis ▸ share512 ▸ path most_depth) (λ x. record { cell = x.0.0.0; axis = x.0.0.1; share = x.0.1; path = x.1 }) (λ m. (((m.cell, m.axis), m.share), m.path)) IsMessage
maps = record {
  there = λ x is. (record { row = is.0.0.0.row; col = is.0.0.0.col; share = is.0.1; few = is.1.0; nodes = is.1.1 }, refl);
  back = λ m is. ((((record { row = is.row; col = is.col }, tt), is.share), (is.few, is.nodes)), refl);
}

-- samples are a field: several may stand one after another
pub message_field : IsField message_front message_payload IsMessage
unfolding message_front
message_field = made_field maps message_front message_payload (λ bytes. refl) (λ m. refl) (λ m. omega arith)

-- a payload is one sample
alone : AreMaps {R = Message} (field message_front message_payload IsMessage message_field) (λ m. m) (λ m. m) (IsSpelled IsMessage never)
alone = record { there = λ m is. ((is, refl), refl); back = λ m is. (is.0, refl) }

-- the form of this kind
pub message_form : IsForm IsMessage message_at message_payload never
unfolding message_at
message_form = form_of alone (λ bytes. refl) (λ m. refl)

-- a sample that is read of a payload is what the payload spells
pub message_takes : (payload : List ℕ) (m : Message) → AreBytes payload → message_at payload ≡ Some m → IsMessage m × (payload ≡ message_payload m)
message_takes payload m fits e = let t = message_form.takes payload m fits e in (t.0, t.1)

-- the payload of a sample is read as the sample
pub message_again : (m : Message) → IsMessage m → message_at (message_payload m) ≡ Some m
message_again m is = message_form.again m is refl (omega (arith, is.few, length-message m is.share is.nodes))
