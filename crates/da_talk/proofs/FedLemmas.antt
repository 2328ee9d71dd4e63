-- The frames that don't ask how things stand, with one frame more.
use Rattle.std.proofs.Common.{◌≡◌, ◌∙◌, ℕ, suc, ◌≤◌, Bool, true, false, cond, List, [], ◌∷◌, ◌++◌, length, append-nil, ap, arith}
use Rattle.std.specs.Prelude.{not}
use Rattle.std.proofs.lemmas.List.Elements.{filter-append}
use Rattle.da_wire.specs.Reading.{Raw}
use Rattle.da_talk.specs.Handed.{asks_state, fed}

-- a frame that asks adds none
pub fed_asked : (frames : List Raw) (frame : Raw) → asks_state frame ≡ true → fed (frames ++ frame ∷ []) ≡ fed frames
fed_asked frames frame asks =
    filter-append (λ (f : Raw). not (asks_state f)) frames (frame ∷ []) ∙ ap (λ (b : Bool). fed frames ++ cond (not b) (frame ∷ []) []) asks ∙ append-nil (fed frames)

-- another one adds itself
pub fed_other : (frames : List Raw) (frame : Raw) → asks_state frame ≡ false → fed (frames ++ frame ∷ []) ≡ fed frames ++ frame ∷ []
fed_other frames frame other =
    filter-append (λ (f : Raw). not (asks_state f)) frames (frame ∷ []) ∙ ap (λ (b : Bool). fed frames ++ cond (not b) (frame ∷ []) []) other

-- no more than there are
kept_few : (b : Bool) (frame : Raw) (kept : List Raw) (n : ℕ) → length kept ≤ n → length (cond b (frame ∷ kept) kept) ≤ suc n
kept_few true frame kept n few = omega (arith, few)
kept_few false frame kept n few = omega (arith, few)

pub fed_few : (frames : List Raw) → length (fed frames) ≤ length frames
fed_few [] = omega arith
fed_few (frame ∷ later) = kept_few (not (asks_state frame)) frame (fed later) (length later) (fed_few later)
