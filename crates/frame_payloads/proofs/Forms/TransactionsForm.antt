-- Transactions that are read of a payload are what the payload spells, and the payload that they have is read.
use Rattle.std.proofs.Common.{ℕ, List, refl}
use Rattle.std.specs.List.{AllByRecursion}
use Rattle.namespace_id.specs.Bytes.{AreBytes}
use Rattle.frame_payloads.specs.kinds.Transactions.{transactions_at, transactions_payload}
use Rattle.frame_payloads.proofs.Fields.Fields.{AreMaps}
use Rattle.frame_payloads.proofs.Forms.Units.{units}
use Rattle.frame_payloads.proofs.Forms.Form.{IsForm, IsSpelled, never, form_of}

-- transactions are units
maps : AreMaps {R = List (List ℕ)} units (λ x. x) (λ x. x) (IsSpelled (AllByRecursion AreBytes) never)
maps = record {
  there = λ x is. ((is, refl), refl);
  back = λ x is. (is.0, refl);
}

-- the form of this kind
pub transactions_form : IsForm (AllByRecursion AreBytes) transactions_at transactions_payload never
unfolding transactions_at
transactions_form = form_of maps (λ bytes. refl) (λ x. refl)
