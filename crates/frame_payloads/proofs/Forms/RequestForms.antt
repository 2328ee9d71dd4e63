-- A request that is read of a payload is what the payload spells, and the payload that a request has is read.
use Rattle.std.proofs.Common.{◌≡◌, ℕ, eqb, List, length, Some, refl, subst, eqb-true, eq-eqb}
use Rattle.std.proofs.lemmas.Option.{cond_some}
use Rattle.namespace_id.specs.declared.cells.Cell.{Cell}
use Rattle.namespace_id.specs.declared.cells.Axis.{Axis}
use Rattle.namespace_id.specs.declared.namespaces.Namespace.{Namespace}
use Rattle.namespace_id.specs.Bytes.{AreBytes}
use Rattle.namespace_id.specs.Names.{IsNamespace, named_by}
use Rattle.namespace_id.specs.Cells.{IsCell}
use Rattle.frame_payloads.specs.kinds.Requests.{sample_payload, request_payload, sample_at, request_at}
use Rattle.frame_payloads.proofs.Fields.Readers.{if_true_again}
use Rattle.frame_payloads.proofs.Fields.Fields.{AreMaps, ◌▸◌}
use Rattle.frame_payloads.proofs.Fields.Bases.{cell, axis}
use Rattle.frame_payloads.proofs.Forms.Form.{IsForm, IsSpelled, never, form_of}

-- ---- a sample

-- the cell of such a request has its numbers
abbrev pub IsAsked : Cell × Axis → Type 0
IsAsked s = IsCell s.0

-- a request for a sample is a cell, and an axis
maps : AreMaps {R = Cell × Axis} (cell ▸ axis) (λ s. s) (λ s. s) (IsSpelled IsAsked never)
maps = record { there = λ s is. ((is.0, refl), refl); back = λ s is. ((is.0, tt), refl) }

-- the form of this kind
pub sample_form : IsForm IsAsked sample_at (λ s. sample_payload s.0 s.1) never
unfolding sample_at
sample_form = form_of maps (λ bytes. refl) (λ s. refl)

-- ---- a namespace

-- a request for a namespace that is read of a payload is what the payload spells
pub request_takes : (payload : List ℕ) (name : Namespace) → AreBytes payload → request_at payload ≡ Some name → IsNamespace name × (payload ≡ request_payload name)
unfolding request_at
request_takes payload name fits e =
    let g = cond_some (eqb (length payload) 29) (named_by payload) name e in
    subst (λ (x : Namespace). IsNamespace x × (payload ≡ request_payload x)) g.1
    (record { size_is = eqb-true (length payload) 29 g.0; fits = fits }, refl)

-- the payload of a request for a namespace is read as the request
pub request_again : (name : Namespace) → IsNamespace name → request_at (request_payload name) ≡ Some name
unfolding request_at
request_again name is = if_true_again (eqb (length name.0) 29) (Some (named_by name.0)) name (eq-eqb _ _ is.size_is) refl

-- the form of this kind
pub request_form : IsForm IsNamespace request_at request_payload never
request_form = record {
  takes = λ bytes x fits e. let t = request_takes bytes x fits e in (t.0, t.1, refl);
  again = λ x is some few. request_again x is;
}
