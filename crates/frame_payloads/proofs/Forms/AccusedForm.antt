-- The axis that a claim accuses, behind the form of the claim, is read as it was written, and what was written is read.
use Rattle.std.proofs.Common.{◌≡◌, ℕ, ◌^◌, ◌<◌, Bool, true, false, eqb, cond, List, [], ◌∷◌, ◌++◌, None, Some, refl, sym, ap, arith, eqb-true, eq-eqb}
use Rattle.namespace_id.specs.declared.cells.Axis.{Axis}
use Rattle.namespace_id.specs.Bytes.{AreBytes}
use Rattle.frame_fields.specs.Fields.{axis_at}
use Rattle.frame_payloads.specs.codec.Texts.{axis_byte}
use Rattle.frame_payloads.specs.kinds.Fraud.{accused_bytes, accused_at}
use Rattle.frame_payloads.proofs.Fields.Readers.{if_true, if_true_again, Takes}
use Rattle.frame_payloads.proofs.Fields.Paths.{axis_takes, axis_again}
use Rattle.frame_payloads.proofs.Fields.Texts.{IsField}
use Rattle.frame_payloads.proofs.Fields.Fields.{Fields, AreMaps, ◌▸◌, then_field, one, made_field}
use Rattle.frame_payloads.proofs.Fields.Bases.{byte, number16}

-- an axis that is accused: its kind and its index
abbrev pub Accused : Type 0
Accused = Axis × ℕ

-- the bytes of the form and the accused axis
abbrev pub text : ℕ → Accused → List ℕ
text form accused = form ∷ accused_bytes accused.0 accused.1

-- its index has two bytes
abbrev pub IsAccused : Accused → Type 0
IsAccused accused = accused.1 < 2 ^ 16

-- an axis that is read where a test holds
abbrev axis_if : {R : Type 0} → Bool → Fields R Axis
axis_if holds = one (λ bytes. cond holds (axis_at bytes) None) (λ a. axis_byte a ∷ []) (λ a. holds ≡ true)
    (λ bytes a rest fits e. let g = if_true holds (axis_at bytes) (a, rest) e in (axis_takes bytes a rest fits g.1, g.0))
    (λ a rest is few. if_true_again holds (axis_at (axis_byte a ∷ rest)) (a, rest) is (axis_again a rest))

-- an accused axis is a form, an axis, and its index
maps : (wanted : ℕ) → AreMaps {R = Accused × List ℕ} (then_field byte (λ form. axis_if (eqb form wanted)) ▸ number16) (λ x. (x.0.1, x.1)) (λ accused. ((wanted, accused.0), accused.1)) IsAccused
maps wanted = record {
  there = λ x is. (is.1, ap (λ (n : ℕ). ((n, x.0.1), x.1)) (sym (eqb-true x.0.0 wanted is.0.1)));
  back = λ accused is. (((tt, eq-eqb wanted wanted refl), is), refl);
}

-- an accused axis is a field
pub accused_field : (wanted : ℕ) → IsField (accused_at wanted) (text wanted) IsAccused
unfolding accused_at
accused_field wanted = made_field (maps wanted) (accused_at wanted) (text wanted) (λ bytes. refl) (λ accused. refl) (λ accused. omega arith)

-- an accused axis that is read is the one that was written
pub accused_takes : (wanted : ℕ) (bytes : List ℕ) (accused : Accused) (rest : List ℕ) → AreBytes bytes → accused_at wanted bytes ≡ Some (accused, rest) → Takes bytes (text wanted accused) rest × IsAccused accused
accused_takes wanted = (accused_field wanted).takes

-- an accused axis that was written is read, whatever follows it
pub accused_again : (wanted : ℕ) (accused : Accused) (rest : List ℕ) → IsAccused accused → accused_at wanted (text wanted accused ++ rest) ≡ Some (accused, rest)
accused_again wanted accused rest is = (accused_field wanted).again accused rest is (omega arith)

-- a claim of one form is none of another
pub accused_other : (wanted other : ℕ) (accused : Accused) (rest : List ℕ) → eqb other wanted ≡ false → accused_at wanted (text other accused ++ rest) ≡ None
unfolding accused_at
accused_other wanted other accused rest differ = rw differ refl
