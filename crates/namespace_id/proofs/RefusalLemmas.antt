-- The first of several refusals, and what follows where there is none.
use Rattle.std.proofs.Common.{◌≡◌, Bool, true, false, cond, Option, Some, None, Result, Ok, Err, IfOk, refl, sym}
use Rattle.std.specs.Option.{option_map_or}
use Rattle.std.proofs.lemmas.Option.{none-some}

-- neither the first nor a later one is there
pub both_none : {A B : Type 0} (f : A → B) (o : Option A) (rest : Option B) → option_map_or (λ x. Some (f x)) o rest ≡ None
    → (o ≡ None) × (rest ≡ None)
both_none f None rest e = (refl, e)
both_none f (Some x) rest e = absurd (none-some _ (sym e))

-- and the other way round
pub none_both : {A B : Type 0} (f : A → B) (o : Option A) (rest : Option B) → o ≡ None → rest ≡ None
    → option_map_or (λ x. Some (f x)) o rest ≡ None
none_both f None rest first later = later
none_both f (Some x) rest first later = absurd (none-some _ (sym first))

-- a check that refused nothing, and what followed
pub checked : {A E : Type 0} (o : Option E) (r : Result A E) (x : A) → option_map_or Err o r ≡ Ok x → (o ≡ None) × (r ≡ Ok x)
checked None r x e = (refl, e)
checked (Some why) r x e = absurd cc

-- a test that refused nothing, and what followed
pub if_none : {E : Type 0} (b : Bool) (why : E) (o : Option E) → cond b (Some why) o ≡ None → (b ≡ false) × (o ≡ None)
if_none true why o e = absurd (none-some _ (sym e))
if_none false why o e = (refl, e)

-- what an answer says, where it implies more
pub ok_within : {A E : Type 0} (P Q : A → Type 0) (r : Result A E) → ((x : A) → P x → Q x) → IfOk r P → IfOk r Q
ok_within P Q (Ok x) weaker p = weaker x p
ok_within P Q (Err e) weaker p = tt
