-- How long a payload is, and what its parts add to it.
use Rattle.std.proofs.Common.{◌≡◌, ℕ, ◌+◌, ◌*◌, ◌<◌, ◌≤◌, nat_lt, Bool, true, false, List, [], ◌∷◌, ◌++◌, length, length-append, Some, None, refl, arith}
use Rattle.std.specs.List.{flat_map, AllByRecursion}
use Rattle.std.proofs.Math.Nat.{mul-suc}
use Rattle.std.proofs.lemmas.Bool.Decides.{nat_tests}
use Rattle.frame_payloads.specs.Payloads.{max_payload, written}

-- a payload within the limit is written, where its value can be
pub written_within : (unwritten : Bool) (n : ℕ) (payload : List ℕ) → unwritten ≡ false → n ≡ length payload → n ≤ max_payload → written unwritten payload ≡ Some payload
written_within unwritten n payload can e h =
    let within : nat_lt max_payload (length payload) ≡ false = grind (arith, nat_tests) in
    rw (can, within) refl

-- a payload above the limit isn't
pub written_beyond : (unwritten : Bool) (n : ℕ) (payload : List ℕ) → unwritten ≡ false → n ≡ length payload → max_payload < n → written unwritten payload ≡ None
written_beyond unwritten n payload can e h =
    let beyond : nat_lt max_payload (length payload) ≡ true = grind (arith, nat_tests) in
    rw (can, beyond) refl

-- no more values than bytes
pub count_few : {A : Type 0} (text : A → List ℕ) → ((x : A) → 0 < length (text x)) → (xs : List A) → length xs ≤ length (flat_map text xs)
count_few text some [] = omega arith
count_few text some (x ∷ xs) =
    let sum : length (text x ++ flat_map text xs) ≡ length (text x) + length (flat_map text xs) = length-append (text x) (flat_map text xs) in
    omega (arith, sum, some x, count_few text some xs)

-- texts of so many bytes each have no more together
pub texts_few : {A : Type 0} (text : A → List ℕ) (Is : A → Type 0) (most : ℕ) → ((x : A) → Is x → length (text x) ≤ most) → (xs : List A) → AllByRecursion Is xs
    → length (flat_map text xs) ≤ most * length xs
texts_few text Is most few [] all = omega arith
texts_few text Is most few (x ∷ xs) all =
    let first : length (text x) ≤ most = few x all.0 in
    let others : length (flat_map text xs) ≤ most * length xs = texts_few text Is most few xs all.1 in
    omega (arith, first, others, mul-suc most (length xs), length-append (text x) (flat_map text xs))
