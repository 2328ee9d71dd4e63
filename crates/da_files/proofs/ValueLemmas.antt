-- The first value of a list of frames, by what is found at its front.
use Rattle.std.proofs.Common.{◌≡◌, ℕ, List, [], ◌∷◌, None, Some, Bor, subst}
use Rattle.std.specs.declared.option.Option.{Option}
use Rattle.std.specs.Prelude.{MatchOption}
use Rattle.da_wire.specs.declared.frames.Frame.{Frame}
use Rattle.da_wire.specs.Values.{values_of}

-- the frame that was found at the front is the first one
pub first_is : (kinds bytes : List ℕ) (found : Option (Frame × Bor (List ℕ))) (frame : Frame) (after : Bor (List ℕ)) → found ≡ Some (frame, after)
    → MatchOption found (values_of kinds bytes ≡ []) (λ x. values_of kinds bytes ≡ x.0 ∷ values_of kinds x.1.now)
    → values_of kinds bytes ≡ frame ∷ values_of kinds after.now
first_is kinds bytes found frame after is values =
    subst (λ (o : Option (Frame × Bor (List ℕ))). MatchOption o (values_of kinds bytes ≡ []) (λ (x : Frame × Bor (List ℕ)). values_of kinds bytes ≡ x.0 ∷ values_of kinds x.1.now))
    is values

-- where no frame is found at the front there is none
pub none_is : (kinds bytes : List ℕ) (found : Option (Frame × Bor (List ℕ))) → found ≡ None
    → MatchOption found (values_of kinds bytes ≡ []) (λ x. values_of kinds bytes ≡ x.0 ∷ values_of kinds x.1.now) → values_of kinds bytes ≡ []
none_is kinds bytes found is values =
    subst (λ (o : Option (Frame × Bor (List ℕ))). MatchOption o (values_of kinds bytes ≡ []) (λ (x : Frame × Bor (List ℕ)). values_of kinds bytes ≡ x.0 ∷ values_of kinds x.1.now))
    is values
