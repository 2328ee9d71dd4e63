-- Namespaces that are put into a set.
use Rattle.std.proofs.Common.{◌≡◌, ◌∙◌, Bool, true, false, true≢false, ◌||◌, cond, refl, sym, ap, subst, inl, inr}
use Rattle.std.proofs.lemmas.Bool.{cases_Bool}
use Rattle.namespace_id.specs.declared.namespaces.Namespace.{Namespace}
use Rattle.blob_feed.specs.Followers.{is_name}
use Rattle.blob_feed.proofs.NameLemmas.{same_name, same_refl}

-- a namespace that isn't another isn't it the other way round
other_way : (name other : Namespace) → is_name name other ≡ false → is_name other name ≡ false
other_way name other e = elim (cases_Bool (is_name other name)) [
  | inl same ↦ absurd (true≢false (sym (same_refl name) ∙ subst (λ (n : Namespace). is_name name n ≡ false) (same_name other name same) e))
  | inr apart ↦ apart
]

-- of two namespaces it's one whether the first is the second
pub either_way : (name other : Namespace) → is_name name other ≡ is_name other name
either_way name other = elim (cases_Bool (is_name name other)) [
  | inl same ↦ subst (λ (n : Namespace). is_name name n ≡ is_name n name) (same_name name other same) refl
  | inr apart ↦ apart ∙ sym (other_way name other apart)
]

-- what is in a set, or comes then, is there or comes with the next
step_by : (here before later : Bool) → (cond here true before || later) ≡ (before || (here || later))
step_by true true later = refl
step_by true false later = refl
step_by false before later = refl

pub set_step : (key name : Namespace) (before later : Bool)
    → (cond (is_name key name) true before || later) ≡ (before || (is_name name key || later))
set_step key name before later =
    ap (λ (b : Bool). cond b true before || later) (either_way key name) ∙ step_by (is_name name key) before later
