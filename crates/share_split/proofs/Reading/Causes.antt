-- Why a share is refused where a sequence is open, cause by cause.
use Rattle.std.proofs.Common.{rules, ◌≡◌, ◌↔◌, ℕ, Bool, true, false, cond, not, Option, Some, None}
use Rattle.std.specs.Bool.{Decides}
use Rattle.share_split.specs.declared.joining.JoinError.{JoinError}
use Rattle.share_split.specs.declared.joining.JoinError.TheVariants.{Short, BadVersion, NonZeroFill, MixedNamespace}

-- the first of four checks that fails
abbrev pub goes_on : ℕ → ℕ → Bool → Bool → Bool → Bool → Option JoinError
goes_on i first v n s f =
    cond (not v) (Some (BadVersion i)) (cond (not n) (Some (MixedNamespace i)) (cond s (Some (Short first)) (cond f None (Some (NonZeroFill i)))))

-- its version
pub version_first : {V : Type 0} (i first : ℕ) (v n s f : Bool) → Decides v V → (goes_on i first v n s f ≡ Some (BadVersion i)) ↔ (V → ⊥)
version_first i first v n s f dv = search rules

-- its namespace
pub name_first : {V N : Type 0} (i first : ℕ) (v n s f : Bool) → Decides v V → Decides n N
    → (goes_on i first v n s f ≡ Some (MixedNamespace i)) ↔ (V × (N → ⊥))
name_first i first v n s f dv dn = search rules

-- it begins another sequence
pub start_first : {V N : Type 0} (i first : ℕ) (v n s f : Bool) → Decides v V → Decides n N
    → (goes_on i first v n s f ≡ Some (Short first)) ↔ (V × N × (s ≡ true))
start_first i first v n s f dv dn = search rules

-- a byte behind its content
pub fill_first : {V N : Type 0} (i first : ℕ) (v n s f : Bool) → Decides v V → Decides n N
    → (goes_on i first v n s f ≡ Some (NonZeroFill i)) ↔ (V × N × (s ≡ false) × (f ≡ false))
fill_first i first v n s f dv dn = search rules

-- nothing
pub no_check : {V N : Type 0} (i first : ℕ) (v n s f : Bool) → Decides v V → Decides n N
    → (goes_on i first v n s f ≡ None) ↔ (V × N × (s ≡ false) × (f ≡ true))
no_check i first v n s f dv dn = search rules
