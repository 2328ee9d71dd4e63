-- Two answers of a follower are one.
use Rattle.std.proofs.Common.{◌≡◌, ◌∙◌, ◌⊎◌, ◌↔◌, inl, inr, ⊎_elim, Result, Ok, Err, IfOk, IsErrOf, sym}
use Rattle.blob_feed.specs.declared.entries.Taken.{Taken}
use Rattle.blob_feed.specs.declared.entries.FollowError.{FollowError}
use Rattle.blob_feed.specs.declared.entries.FollowError.TheVariants.{NotBlob, Unwanted, Refused, Twice, NoMemory}
use Rattle.one_answer.specs.Ones.{AreOne}

-- a refusal is for memory or another one
is_full : (e : FollowError) → (e ≡ NoMemory) ⊎ (e ≡ NoMemory → ⊥)
is_full (NotBlob why) = inr (λ z. absurd cc)
is_full Unwanted = inr (λ z. absurd cc)
is_full (Refused why) = inr (λ z. absurd cc)
is_full Twice = inr (λ z. absurd cc)
is_full NoMemory = inl (λ i. NoMemory)

-- what is refused for one cause each, and else gives one value
pub one_answer : (cause : FollowError → Type 0) (value : Taken) (r s : Result Taken FollowError)
    → IfOk r (λ t. t ≡ value) → IfOk s (λ t. t ≡ value)
    → ((why : FollowError) → (why ≡ NoMemory → ⊥) → IsErrOf r why ↔ cause why)
    → ((why : FollowError) → (why ≡ NoMemory → ⊥) → IsErrOf s why ↔ cause why)
    → AreOne (λ x. x) NoMemory r s
one_answer cause value (Ok a) (Ok b) r_is s_is R S = r_is ∙ sym s_is
one_answer cause value (Ok a) (Err e) r_is s_is R S =
    ⊎_elim (λ z. z) (λ n. let z : Ok a ≡ Err e = (R e n).1 ((S e n).0 (λ i. Err e)) in absurd cc) (is_full e)
one_answer cause value (Err d) (Ok b) r_is s_is R S =
    ⊎_elim (λ z. z) (λ n. let z : Ok b ≡ Err d = (S d n).1 ((R d n).0 (λ i. Err d)) in absurd cc) (is_full d)
one_answer cause value (Err d) (Err e) r_is s_is R S =
    ⊎_elim (λ z. inr (inl z)) (λ n. let z : Err e ≡ Err d = (S d n).1 ((R d n).0 (λ i. Err d)) in inl cc) (is_full d)
