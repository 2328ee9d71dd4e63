-- A refusal that is read of a payload is what the payload spells, and the payload that a refusal has is read.
use Rattle.std.proofs.Common.{◌≡◌, ◌∙◌, ℕ, ◌^◌, Bool, true, false, eqb, cond, List, [], ◌∷◌, Option, Some, None, refl, ap, eqb-true}
use Rattle.std.specs.Prelude.{⊤}
use Rattle.std.specs.Int.{w64}
use Rattle.std.proofs.lemmas.Option.{same_Some, some_pair_parts}
use Rattle.namespace_id.specs.Bytes.{AreBytes}
use Rattle.frame_fields.specs.Fields.{byte_at}
use Rattle.frame_payloads.specs.declared.refusals.Reason.{Reason}
use Rattle.frame_payloads.specs.declared.refusals.Reason.TheVariants.{NoSuchFrame, FirstCheck, SecondCheck, ThirdCheck, FourthCheck, NoAnswer}
use Rattle.frame_payloads.specs.declared.refusals.Refusal.{Refusal}
use Rattle.frame_payloads.specs.kinds.Refusal.{reason_byte, reason_of, IsRefusal, refusal_payload, reason_at, refusal_at}
use Rattle.frame_payloads.proofs.Fields.Readers.{bind_some, Takes, Takes-is}
use Rattle.frame_payloads.proofs.Fields.Numbers.{wide64}
use Rattle.frame_payloads.proofs.Fields.Strings.{byte_takes}
use Rattle.frame_payloads.proofs.Fields.Fields.{Fields, AreMaps, ◌▸◌, one}
use Rattle.frame_payloads.proofs.Fields.Bases.{number}
use Rattle.frame_payloads.proofs.Forms.Form.{IsForm, IsSpelled, never, form_of}

-- ---- the reason

-- a byte is that of a reason, or it is looked for among the others
by_byte : (here : Bool) (byte : ℕ) (reason found : Reason) (others : Option Reason) → eqb byte (reason_byte reason) ≡ here → cond here (Some reason) others ≡ Some found
    → (others ≡ Some found → byte ≡ reason_byte found) → byte ≡ reason_byte found
by_byte true byte reason found others is e later = eqb-true byte (reason_byte reason) is ∙ ap (λ (r : Reason). reason_byte r) (same_Some reason found e)
by_byte false byte reason found others is e later = later e

-- a byte that is read as a reason is that reason's byte
reason_is : (byte : ℕ) (found : Reason) → reason_of byte ≡ Some found → byte ≡ reason_byte found
reason_is byte found e =
    by_byte (eqb byte 0) byte NoSuchFrame found _ refl e (λ e1.
    by_byte (eqb byte 1) byte FirstCheck found _ refl e1 (λ e2.
    by_byte (eqb byte 2) byte SecondCheck found _ refl e2 (λ e3.
    by_byte (eqb byte 3) byte ThirdCheck found _ refl e3 (λ e4.
    by_byte (eqb byte 4) byte FourthCheck found _ refl e4 (λ e5.
    by_byte (eqb byte 5) byte NoAnswer found None refl e5 (λ e6. absurd cc))))))

-- a reason that is read is the one that was written
reason_takes : (bytes : List ℕ) (reason : Reason) (rest : List ℕ) → AreBytes bytes → reason_at bytes ≡ Some (reason, rest) → Takes bytes (reason_byte reason ∷ []) rest × ⊤
unfolding reason_at
reason_takes bytes reason rest fits e =
    let a = bind_some (byte_at bytes) _ (reason, rest) e in
    let b = bind_some (reason_of a.0.0) _ (reason, rest) a.2 in
    let same = some_pair_parts b.0 reason a.0.1 rest b.2 in
    let t = byte_takes bytes a.0.0 a.0.1 fits a.1 in
    let text : a.0.0 ∷ [] ≡ reason_byte reason ∷ [] = ap (λ (n : ℕ). n ∷ []) (reason_is a.0.0 b.0 b.1 ∙ ap (λ (r : Reason). reason_byte r) same.0) in
    (Takes-is bytes (a.0.0 ∷ []) (reason_byte reason ∷ []) a.0.1 rest text same.1 t.0, tt)

-- a reason that was written is read, whatever follows it
reason_again : (reason : Reason) (rest : List ℕ) → reason_at (reason_byte reason ∷ rest) ≡ Some (reason, rest)
unfolding reason_at
reason_again NoSuchFrame rest = refl
reason_again FirstCheck rest = refl
reason_again SecondCheck rest = refl
reason_again ThirdCheck rest = refl
reason_again FourthCheck rest = refl
reason_again NoAnswer rest = refl

-- so a reason is a field
abbrev reason : {R : Type 0} → Fields R Reason
reason = one reason_at (λ r. reason_byte r ∷ []) (λ r. ⊤) reason_takes (λ r rest is few. reason_again r rest)

-- ---- a refusal

-- a refusal is a reason, and a number of eight bytes
maps : AreMaps {R = Refusal} (reason ▸ number w64 (2 ^ 64) wide64) (λ p. record { reason = p.0; number = p.1 }) (λ r. (r.reason, r.number)) (IsSpelled IsRefusal never)
maps = record { there = λ p is. ((is.1, refl), refl); back = λ r is. ((tt, is.0), refl) }

-- the form of this kind
pub refusal_form : IsForm IsRefusal refusal_at refusal_payload never
unfolding refusal_at
refusal_form = form_of maps (λ bytes. refl) (λ r. refl)
