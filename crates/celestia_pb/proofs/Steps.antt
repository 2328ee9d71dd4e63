-- Readings that came of several steps.
use Rattle.std.proofs.Common.{◌≡◌, ℕ, Bool, true, false, cond, List, Option, Some, None, Result, Ok, Err, IsErr, IsErrAnd, refl, sym, ap, ◌∙◌}
use Rattle.std.proofs.lemmas.Option.{same_Some}
use Rattle.celestia_pb.specs.Reading.{then_read, with_offset, ReadsMessage}

-- what was read, if it was
abbrev was_read : {A : Type 0} → Result A ℕ → Option A
was_read (Ok x) = Some x
was_read (Err left) = None

-- two that were read are one
pub same_ok : {A : Type 0} (x y : A) → ◌≡◌ {A = Result A ℕ} (Ok x) (Ok y) → x ≡ y
same_ok x y e = same_Some x y (ap was_read e)

-- an answer that a test let through
pub cond_ok : {A : Type 0} (b : Bool) (x y : A) (left : ℕ) → cond b (Ok x) (Err left) ≡ Ok y → (b ≡ true) × (x ≡ y)
cond_ok true x y left e = (refl, same_ok x y e)
cond_ok false x y left e = absurd cc

-- both steps succeeded
pub then_ok : {A B : Type 0} (next : A → List ℕ → Result B ℕ) (r : Result (A × List ℕ) ℕ) (y : B) → then_read next r ≡ Ok y
    → (x : A × List ℕ) × (r ≡ Ok x) × (next x.0 x.1 ≡ Ok y)
then_ok next (Ok x) y e = (x, refl, e)
then_ok next (Err left) y e = absurd cc

-- what was read doesn't depend on where what is wrong is
pub placed_ok : {A : Type 0} (size : ℕ) (r : Result A ℕ) (y : A) → with_offset size r ≡ Ok y → r ≡ Ok y
placed_ok size (Ok x) y e = e
placed_ok size (Err left) y e = absurd cc

-- an error that was handed on is the one that was read
pub err_reads : {X Y : Type 0} (view : X → Y) (result : Result X ℕ) (read : Result Y ℕ) (left : ℕ) → read ≡ Err left
    → IsErr result × IsErrAnd result (λ e. e ≡ left) → ReadsMessage view result read
err_reads view (Ok x) read left e is = absurd is.1
err_reads view (Err other) read left e is = e ∙ ap (λ (n : ℕ). Err n) (sym is.1)
