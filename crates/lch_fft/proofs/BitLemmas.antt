-- Bits of numbers below 1,024, by computing.
use Rattle.std.proofs.Common.{◌≡◌, ℕ, ◌+◌, ◌/◌, ◌%◌, ◌^◌, ◌<◌, ◌≤◌, true, refl, arith}
use Rattle.std.specs.Prelude.{◌==◌, nat_lt}
use Rattle.std.proofs.lemmas.Bool.{eqb-true, ltb-true}
use Rattle.namespace_id.proofs.TestLemmas.{passes_below, passes_below-at, where_holds, where_holds-true}

-- a test of all numbers of up to 10 bits, and of each bit
fits_test : passes_below 11 (λ b. passes_below b (λ i. passes_below (2 ^ b) (λ m. where_holds (m / 2 ^ i % 2 == 0) (nat_lt (m + 2 ^ i) (2 ^ b))))) ≡ true
unfolding passes_below
fits_test = refl

-- a number of b bits stays one where a bit that isn't set is added
pub bit_fits : (b i m : ℕ) → b ≤ 10 → i < b → m < 2 ^ b → (m / 2 ^ i % 2 == 0) ≡ true → m + 2 ^ i < 2 ^ b
bit_fits b i m hb hi hm unset =
    ltb-true _ _ (where_holds-true (m / 2 ^ i % 2 == 0) (nat_lt (m + 2 ^ i) (2 ^ b))
    (passes_below-at (2 ^ b) (λ m. where_holds (m / 2 ^ i % 2 == 0) (nat_lt (m + 2 ^ i) (2 ^ b)))
    (passes_below-at b (λ i. passes_below (2 ^ b) (λ m. where_holds (m / 2 ^ i % 2 == 0) (nat_lt (m + 2 ^ i) (2 ^ b))))
    (passes_below-at 11 (λ b. passes_below b (λ i. passes_below (2 ^ b) (λ m. where_holds (m / 2 ^ i % 2 == 0) (nat_lt (m + 2 ^ i) (2 ^ b))))) fits_test b (omega arith))
    i hi) m hm) unset)

-- a test of all numbers of up to 10 bits with the bit above them
same_test : passes_below 11 (λ b. passes_below b (λ i. passes_below (2 ^ b) (λ m. (2 ^ b + m) / 2 ^ i % 2 == m / 2 ^ i % 2))) ≡ true
unfolding passes_below
same_test = refl

-- a bit above those of a number leaves them
pub bit_same : (b i m : ℕ) → b ≤ 10 → i < b → m < 2 ^ b → (2 ^ b + m) / 2 ^ i % 2 ≡ m / 2 ^ i % 2
bit_same b i m hb hi hm =
    eqb-true _ _
    (passes_below-at (2 ^ b) (λ m. (2 ^ b + m) / 2 ^ i % 2 == m / 2 ^ i % 2)
    (passes_below-at b (λ i. passes_below (2 ^ b) (λ m. (2 ^ b + m) / 2 ^ i % 2 == m / 2 ^ i % 2))
    (passes_below-at 11 (λ b. passes_below b (λ i. passes_below (2 ^ b) (λ m. (2 ^ b + m) / 2 ^ i % 2 == m / 2 ^ i % 2))) same_test b (omega arith))
    i hi) m hm)
