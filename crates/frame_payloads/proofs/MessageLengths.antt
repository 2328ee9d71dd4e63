-- How long the payload of a sample is at most, and what spells digests.
use Rattle.std.proofs.Common.{◌≡◌, ℕ, ◌<◌, ◌≤◌, List, length, Option, None, Some, arith, refl, ap}
use Rattle.namespace_id.specs.Bytes.{AreBytes}
use Rattle.axis_roots.specs.declared.message.messages.Message.{Message}
use Rattle.axis_roots.specs.Messages.{IsMessage}
use Rattle.frame_fields.specs.Messages.{message_at}
use Rattle.frame_payloads.specs.kinds.Message.{message_payload, most_message}
use Rattle.frame_payloads.proofs.Forms.PayloadSizes.{length-message}
use Rattle.frame_payloads.proofs.Forms.MessageForm.{message_takes}
pub use Rattle.frame_payloads.proofs.Fields.Digests.{length-digest_bytes}

-- a sample of as many nodes as a path has at most has the longest payload
pub length-message_payload : (m : Message) → IsMessage m → length (message_payload m) ≤ most_message
length-message_payload m is = omega (arith, length-message m is.share is.nodes, is.few)

-- what a longer payload gives
none_of : (payload : List ℕ) (o : Option Message) → AreBytes payload → most_message < length payload → message_at payload ≡ o → o ≡ None
none_of payload None fits h e = refl
none_of payload (Some m) fits h e =
    let t = message_takes payload m fits e in
    absurd (omega (arith, h, ap length t.1, length-message_payload m t.0))

-- a payload that is longer is that of no sample
pub message_at-long : (payload : List ℕ) → AreBytes payload → most_message < length payload → message_at payload ≡ None
message_at-long payload fits h = none_of payload (message_at payload) fits h refl
