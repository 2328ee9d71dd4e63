-- Lists of values of which none is too long to be written.
use Rattle.std.proofs.Common.{◌≡◌, Bool, false, List, [], ◌∷◌, refl}
use Rattle.std.specs.List.{AllByRecursion, list_any}
use Rattle.std.proofs.lemmas.Bool.{or_parts, or_from}

-- of values each of which can be written none is too long
pub short_parts : {A : Type 0} (Is : A → Type 0) (is_long : A → Bool) (xs : List A) → AllByRecursion (λ x. Is x × (is_long x ≡ false)) xs → AllByRecursion Is xs × (list_any is_long xs ≡ false)
short_parts Is is_long [] all = (tt, refl)
short_parts Is is_long (x ∷ xs) all =
    let others = short_parts Is is_long xs all.1 in
    ((all.0.0, others.0), or_from (is_long x) (list_any is_long xs) all.0.1 others.1)

-- values of which none is too long can be written, each of them
pub all_short : {A : Type 0} (Is : A → Type 0) (is_long : A → Bool) (xs : List A) → AllByRecursion Is xs → list_any is_long xs ≡ false → AllByRecursion (λ x. Is x × (is_long x ≡ false)) xs
all_short Is is_long [] all none = tt
all_short Is is_long (x ∷ xs) all none =
    let both = or_parts (is_long x) (list_any is_long xs) none in
    ((all.0, both.0), all_short Is is_long xs all.1 both.1)
