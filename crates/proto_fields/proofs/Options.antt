-- Answers that came of several steps.
use Rattle.std.proofs.Common.{◌≡◌, Option, Some, None, option_map, option_and_then, refl, sym, subst}
use Rattle.std.proofs.lemmas.Option.{same_Some}
use Rattle.namespace_id.specs.Answers.{Gives}

-- both steps succeeded
pub and_then_parts : {A B : Type 0} (f : A → Option B) (o : Option A) (y : B) → option_and_then f o ≡ Some y → (x : A) × (o ≡ Some x) × (f x ≡ Some y)
and_then_parts f None y e = absurd cc
and_then_parts f (Some x) y e = (x, refl, e)

-- what was mapped was there
pub map_parts : {A B : Type 0} (f : A → B) (o : Option A) (y : B) → option_map f o ≡ Some y → (x : A) × (o ≡ Some x) × (f x ≡ y)
map_parts f None y e = absurd cc
map_parts f (Some x) y e = (x, refl, same_Some (f x) y e)

-- a reader that answered nothing read nothing
pub gives_none : {X Y : Type 0} (view : X → Y) (o : Option X) (read : Option Y) → o ≡ None → read ≡ None → Gives view o read
gives_none view o read e h = subst (λ (o : Option _). Gives view o read) (sym e) h
