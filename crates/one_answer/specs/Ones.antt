-- When two results of a call are one.
use Rattle.std.specs.Prelude.{◌≡◌, ◌⊎◌, Result, Ok, Err}
use Rattle.befp_maker.specs.declared.halves.Decided.{Decided}
use Rattle.befp_maker.specs.declared.halves.Decided.TheVariants.{Matches, Bad}

-- they have one value or one refusal, unless memory ran out
abbrev pub AreOne : {X Y E : Type 0} → (X → Y) → E → Result X E → Result X E → Type 0
AreOne view full (Ok x) (Ok y) = view x ≡ view y
AreOne view full (Ok x) (Err e) = e ≡ full
AreOne view full (Err e) (Ok y) = e ≡ full
AreOne view full (Err d) (Err e) = (d ≡ e) ⊎ ((d ≡ full) ⊎ (e ≡ full))

-- two decisions on an axis are one: the same cells come back, or the same fraud proof is given
abbrev pub AreOneDecision : Decided → Decided → Type 0
AreOneDecision (Matches cells) (Matches others) = cells.items ≡ others.items
AreOneDecision (Matches cells) (Bad proof) = ⊥
AreOneDecision (Bad proof) (Matches cells) = ⊥
AreOneDecision (Bad proof) (Bad other) = proof ≡ other
