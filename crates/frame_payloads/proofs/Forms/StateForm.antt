-- A state has no byte, and no bytes are a state.
use Rattle.std.proofs.Common.{refl}
use Rattle.std.specs.Prelude.{⊤}
use Rattle.frame_payloads.specs.kinds.State.{state_payload, state_at}
use Rattle.frame_payloads.proofs.Fields.Fields.{AreMaps, nothing}
use Rattle.frame_payloads.proofs.Forms.Form.{IsForm, IsSpelled, never, form_of}

-- a state is nothing
maps : AreMaps {R = ⊤} nothing (λ x. x) (λ x. x) (IsSpelled (λ x. ⊤) never)
maps = record { there = λ x is. ((tt, refl), refl); back = λ x is. (tt, refl) }

-- the form of this kind
pub state_form : IsForm (λ x. ⊤) state_at (λ x. state_payload) never
state_form = form_of maps (λ bytes. refl) (λ x. refl)
