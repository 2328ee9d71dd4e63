-- A root proof that is read of a payload is what the payload spells, and the payload that one has is read.
use Rattle.std.proofs.Common.{refl}
use Rattle.axis_roots.specs.Messages.{IsMessage}
use Rattle.blob_commit.specs.Proofs.{RootedParts}
use Rattle.frame_fields.specs.Messages.{message_front}
use Rattle.frame_payloads.specs.kinds.Message.{message_payload}
use Rattle.frame_payloads.specs.kinds.Rooted.{IsRootedSent, rooted_payload, rooted_at}
use Rattle.frame_payloads.proofs.Fields.Fields.{AreMaps, ◌▸◌}
use Rattle.frame_payloads.proofs.Fields.Bases.{number16, digest90, hashes, field}
use Rattle.frame_payloads.proofs.Forms.MessageForm.{message_field}
use Rattle.frame_payloads.proofs.Forms.Form.{IsForm, IsSpelled, never, form_of}

-- a root proof is a width, a sample, a root, and hashes
maps : AreMaps {R = RootedParts} (number16 ▸ field message_front message_payload IsMessage message_field ▸ digest90 ▸ hashes)
    (λ x. record { k = x.0.0.0; message = x.0.0.1; root = x.0.1; up = x.1 }) (λ p. (((p.k, p.message), p.root), p.up)) (IsSpelled IsRootedSent never)
maps = record {
  there = λ x is. ((record { k = is.0.0.0; is = record { message = is.0.0.1; root = is.0.1; up = is.1.1 }; few_hashes = is.1.0 }, refl), refl);
  back = λ p is. ((((is.0.k, is.0.is.message), is.0.is.root), (is.0.few_hashes, is.0.is.up)), refl);
}

-- the form of this kind
pub rooted_form : IsForm IsRootedSent rooted_at rooted_payload never
unfolding rooted_at
rooted_form = form_of maps (λ bytes. refl) (λ x. refl)
