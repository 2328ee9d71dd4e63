-- A claim without a set that is read of a payload is what the payload spells, and the payload that one has is read.
use Rattle.std.proofs.Common.{◌≡◌, ℕ, ◌^◌, ◌<◌, ◌≤◌, List, length, Option, None, Some, refl, sym, ap, arith}
use Rattle.namespace_id.specs.declared.digests.Digest.{Digest}
use Rattle.namespace_id.specs.Bytes.{AreBytes}
use Rattle.axis_roots.specs.declared.message.messages.Message.{Message}
use Rattle.axis_roots.specs.Messages.{IsMessage}
use Rattle.axis_roots.specs.Claims.{ClaimParts, IsClaim}
use Rattle.frame_fields.specs.Messages.{message_front}
use Rattle.frame_payloads.specs.kinds.Message.{message_payload}
use Rattle.frame_payloads.specs.kinds.Fraud.{most_cells, plain_payload, accused_at, plain_at}
use Rattle.frame_payloads.proofs.Fields.Fields.{Fields, AreMaps, ◌▸◌, as_field, ended_takes, ended_again}
use Rattle.frame_payloads.proofs.Fields.Bases.{list16, field}
use Rattle.frame_payloads.proofs.Forms.MessageForm.{message_field}
use Rattle.frame_payloads.proofs.Forms.AccusedForm.{Accused, IsAccused, text, accused_field}

-- the claim without a set that accuses an axis by these samples
abbrev pub claim : Accused → List Message → ClaimParts
claim accused cells = record { axis = accused.0; index = accused.1; cells = cells; set = None }

-- what a payload that is read as a claim without a set tells
pub record IsPlain (payload : List ℕ) (x : ClaimParts) : Type 0 where
  pub is : IsClaim x
  pub plain : x.set ≡ None
  pub few : length x.cells ≤ most_cells
  pub spelled : payload ≡ plain_payload x

-- the accused axis, and the samples
abbrev fields : Fields ClaimParts (Accused × List Message)
fields = field (accused_at 1) (text 1) IsAccused (accused_field 1) ▸ list16 most_cells (omega arith) message_front message_payload IsMessage message_field

-- a claim that has no set, and few samples
abbrev IsFew : ClaimParts → Type 0
IsFew x = IsClaim x × (x.set ≡ None) × (length x.cells ≤ most_cells)

-- both ways
maps : AreMaps fields (λ x. claim x.0 x.1) (λ c. ((c.axis, c.index), c.cells)) IsFew
maps = record {
  there = λ x is. ((record { index_bytes = is.0; messages = is.1.0; digests = tt }, refl, is.1.1), refl);
  back = λ c is. ((is.0.index_bytes, (is.0.messages, is.2)), ap (λ (s : Option (List Digest)). record c { set = s }) (sym is.1));
}

-- a claim without a set
abbrev plain : Fields ClaimParts ClaimParts
plain = as_field fields (λ x. claim x.0 x.1) (λ c. ((c.axis, c.index), c.cells)) IsFew maps

-- a claim without a set that is read of a payload is what the payload spells
pub plain_takes : (payload : List ℕ) (x : ClaimParts) → AreBytes payload → plain_at payload ≡ Some x → IsPlain payload x
unfolding plain_at
plain_takes payload x fits e =
    let t = ended_takes plain payload x fits e in
    record { is = t.0.0; plain = t.0.1; few = t.0.2; spelled = t.1 }

-- the payload of few cells is read as the claim of them that has no set
pub plain_again : (accused : Accused) (cells : List Message) → IsClaim (claim accused cells) → length cells ≤ most_cells → length (plain_payload (claim accused cells)) < 2 ^ 32
    → plain_at (plain_payload (claim accused cells)) ≡ Some (claim accused cells)
unfolding plain_at
plain_again accused cells is few small = ended_again plain (claim accused cells) (is, refl, few) small
