-- The tables of powers and of logarithms of bytes, by computing.
use Rattle.std.proofs.Common.{◌≡◌, ℕ, zero, suc, ◌+◌, ◌-◌, ◌%◌, ◌<◌, Bool, true, refl, sym, ap, ap₂, ◌∙◌, ◌==◌, nat_lt, ◌&&◌, ◌||◌, List, [], ◌∷◌, length, ⊎_elim, arith, get_or}
use Rattle.std.proofs.lemmas.Bool.{agree_below, agree_below_at, and_parts, or_cases, eqb-true, ltb-true}
use Rattle.gf_cantor.specs.declared.tables.TheConstants.{EXP, LOG}
use Rattle.gf_cantor.specs.Field.{combine, element, label, times_x, shift, power, times, product, byte_field}
use Rattle.gf_cantor.proofs.Product.{element-label}
use Rattle.gf_cantor.proofs.PowerLaws.{shift-times_x, power-lt, power-times-power, period}
use Rattle.gf_cantor.proofs.Computed.{byte_labels, byte_cantor}

-- whether a list has the labels of p, p x, p x^2, ..
unfoldable pub are_powers_from : ℕ → List ℕ → Bool
are_powers_from p [] = true
are_powers_from p (e ∷ es) = (e == label byte_field p) && are_powers_from (times_x byte_field p) es

-- the table has the labels of the powers of x
exp_test : are_powers_from 1 EXP ≡ true
unfolding are_powers_from combine label times_x byte_field
exp_test = refl

-- what a list of labels of powers has at a place
are_powers_from-at : (es : List ℕ) (p i : ℕ) → are_powers_from p es ≡ true → i < length es → get_or es i 0 ≡ label byte_field (shift byte_field i p)
unfolding are_powers_from shift
are_powers_from-at [] p i t h = absurd (omega arith)
are_powers_from-at (e ∷ es) p zero t h = eqb-true _ _ (and_parts _ _ t).0
are_powers_from-at (e ∷ es) p (suc i) t h =
    are_powers_from-at es (times_x byte_field p) i (and_parts _ _ t).1 (omega arith) ∙ ap (label byte_field) (shift-times_x byte_field i p)

-- the table's entry at a place is the label of the power of x
pub exp_is : (i : ℕ) → i < 510 → get_or EXP i 0 ≡ label byte_field (power byte_field i)
exp_is i h = are_powers_from-at EXP 1 i exp_test h

-- the other table has for each label but 0 a place of the first one below 255 that has it
log_test : agree_below (λ a. (a == 0) || (nat_lt (get_or LOG a 0) 255 && (get_or EXP (get_or LOG a 0) 0 == a))) (λ x. true) 256 ≡ true
log_test = refl

-- a logarithm is below 255
pub log_lt : (a : ℕ) → 0 < a → a < 256 → get_or LOG a 0 < 255
log_lt a pos h =
    ⊎_elim (λ (z : (a == 0) ≡ true). absurd (omega (arith, eqb-true a 0 z)))
    (λ t. ltb-true _ _ (and_parts _ _ t).0)
    (or_cases _ _ (agree_below_at (λ a. (a == 0) || (nat_lt (get_or LOG a 0) 255 && (get_or EXP (get_or LOG a 0) 0 == a))) (λ x. true) 256 a log_test h))

-- the power at a label's logarithm has that label
exp-log : (a : ℕ) → 0 < a → a < 256 → get_or EXP (get_or LOG a 0) 0 ≡ a
exp-log a pos h =
    ⊎_elim (λ (z : (a == 0) ≡ true). absurd (omega (arith, eqb-true a 0 z)))
    (λ t. eqb-true _ _ (and_parts _ _ t).1)
    (or_cases _ _ (agree_below_at (λ a. (a == 0) || (nat_lt (get_or LOG a 0) 255 && (get_or EXP (get_or LOG a 0) 0 == a))) (λ x. true) 256 a log_test h))

-- the polynomial of a label but 0 is x to the label's logarithm
pub element_log : (a : ℕ) → 0 < a → a < 256 → element byte_field a ≡ power byte_field (get_or LOG a 0)
element_log a pos h =
    ap (element byte_field) (sym (exp-log a pos h) ∙ exp_is (get_or LOG a 0) (omega (arith, log_lt a pos h)))
    ∙ element-label byte_field byte_labels _ (power-lt byte_field 3 byte_cantor (get_or LOG a 0))

-- the product of labels whose elements are powers of x
pub product-powers : (a b i j : ℕ) → element byte_field a ≡ power byte_field i → element byte_field b ≡ power byte_field j
    → product byte_field a b ≡ label byte_field (power byte_field (i + j))
unfolding product
product-powers a b i j ea eb = ap (label byte_field) (ap₂ (times byte_field) ea eb ∙ power-times-power byte_field 3 byte_cantor i j)

-- the label of 1 is 1
pub label_one : label byte_field 1 ≡ 1
unfolding label combine byte_field
label_one = refl

-- x^255 is 1
power_255 : power byte_field 255 ≡ 1
unfolding shift times_x byte_field
power_255 = refl

-- exponents count modulo 255
pub power-period : (i : ℕ) → power byte_field (i % 255) ≡ power byte_field i
power-period i = period byte_field 3 byte_cantor 255 i power_255

-- the product with the label of the power that is left to 255
pub product-inverse : (a i b : ℕ) → i < 255 → element byte_field a ≡ power byte_field i → b ≡ label byte_field (power byte_field (255 - i))
    → product byte_field a b ≡ 1
product-inverse a i b h e be =
    let eb : element byte_field b ≡ power byte_field (255 - i) =
    ap (element byte_field) be ∙ element-label byte_field byte_labels (power byte_field (255 - i)) (power-lt byte_field 3 byte_cantor (255 - i)) in
    let whole : i + (255 - i) ≡ 255 = omega arith in
    product-powers a b i (255 - i) e eb ∙ ap (λ (k : ℕ). label byte_field (power byte_field k)) whole ∙ ap (label byte_field) power_255 ∙ label_one
