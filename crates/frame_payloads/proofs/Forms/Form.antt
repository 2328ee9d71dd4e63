-- The laws of a kind of payloads: what is read of one is what it spells, and what is spelled is read.
use Rattle.std.proofs.Common.{◌≡◌, ◌∙◌, ℕ, ◌^◌, ◌<◌, ◌≤◌, Bool, false, List, length, Option, Some, sym, ap, subst, arith}
use Rattle.namespace_id.specs.Bytes.{AreBytes}
use Rattle.frame_payloads.specs.Payloads.{max_payload}
use Rattle.frame_payloads.proofs.Fields.Fields.{Fields, AreMaps, as_field, ended, ended_takes, ended_again}

-- a reader and a spelling of payloads are those of a kind of values; `none` says which of these have no spelling
pub record IsForm {A : Type 0} (Is : A → Type 0) (read : List ℕ → Option A) (payload : A → List ℕ) (none : A → Bool) : Type 0 where
  pub takes : (bytes : List ℕ) (x : A) → AreBytes bytes → read bytes ≡ Some x → Is x × (bytes ≡ payload x) × (none x ≡ false)
  pub again : (x : A) → Is x → none x ≡ false → length (payload x) ≤ max_payload → read (payload x) ≡ Some x

-- of a kind whose values all have a spelling
abbrev pub never : {A : Type 0} → A → Bool
never x = false

-- a value of a kind that has a spelling
abbrev pub IsSpelled : {A : Type 0} → (A → Type 0) → (A → Bool) → A → Type 0
IsSpelled Is none x = Is x × (none x ≡ false)

-- fields that end a payload are the form of a kind
pub form_of : {A X : Type 0} {Is : X → Type 0} {read : List ℕ → Option X} {payload : X → List ℕ} {none : X → Bool} {fields : Fields X A} {join : A → X} {parts : X → A} → AreMaps fields join parts (IsSpelled Is none)
    → ((bytes : List ℕ) → read bytes ≡ fields.read bytes (λ a. ended (join a))) → ((x : X) → payload x ≡ fields.text (parts x)) → IsForm Is read payload none
form_of {A} {X} {Is} {read} {payload} {none} {fields} {join} {parts} maps read_is text_is =
    let all : Fields X X = as_field fields join parts (IsSpelled Is none) maps in
    record {
      takes = λ bytes x fits e. let t = ended_takes all bytes x fits (sym (read_is bytes) ∙ e) in (t.0.0, t.1 ∙ sym (text_is x), t.0.1);
      again = λ x is some few.
          read_is (payload x) ∙ ap (λ (l : List ℕ). fields.read l (λ a. ended (join a))) (text_is x)
          ∙ ended_again all x (is, some) (subst (λ (l : List ℕ). length l < 2 ^ 32) (text_is x) (omega (arith, few)));
    }
