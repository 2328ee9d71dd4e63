-- Checks of a share, one after another, that all pass.
use Rattle.std.proofs.Common.{◌≡◌, Bool, true, false, cond, not, Some, None, refl}
use Rattle.share_split.specs.declared.joining.JoinError.{JoinError}

-- three checks that hold
pub three : (v s f : Bool) (a b c : JoinError) → v ≡ true → s ≡ true → f ≡ true → cond (not v) (Some a) (cond (not s) (Some b) (cond f None (Some c))) ≡ None
three true true true a b c p q r = refl
three false s f a b c p q r = absurd cc
three true false f a b c p q r = absurd cc
three true true false a b c p q r = absurd cc

-- three checks that passed hold
pub three_passed : (v s f : Bool) (a b c : JoinError) → cond (not v) (Some a) (cond (not s) (Some b) (cond f None (Some c))) ≡ None → (v ≡ true) × (s ≡ true) × (f ≡ true)
three_passed true true true a b c e = (refl, refl, refl)
three_passed false s f a b c e = absurd cc
three_passed true false f a b c e = absurd cc
three_passed true true false a b c e = absurd cc

-- the same of four, of which the third must fail
pub four : (v n s f : Bool) (a b c d : JoinError) → v ≡ true → n ≡ true → s ≡ false → f ≡ true
    → cond (not v) (Some a) (cond (not n) (Some b) (cond s (Some c) (cond f None (Some d)))) ≡ None
four true true false true a b c d p q r t = refl
four false n s f a b c d p q r t = absurd cc
four true false s f a b c d p q r t = absurd cc
four true true true f a b c d p q r t = absurd cc
four true true false false a b c d p q r t = absurd cc

-- four checks that passed hold
pub four_passed : (v n s f : Bool) (a b c d : JoinError) → cond (not v) (Some a) (cond (not n) (Some b) (cond s (Some c) (cond f None (Some d)))) ≡ None
    → (v ≡ true) × (n ≡ true) × (s ≡ false) × (f ≡ true)
four_passed true true false true a b c d e = (refl, refl, refl, refl)
four_passed false n s f a b c d e = absurd cc
four_passed true false s f a b c d e = absurd cc
four_passed true true true f a b c d e = absurd cc
four_passed true true false false a b c d e = absurd cc
