-- The tables of powers and of logarithms of words, by computing.
use Rattle.std.proofs.Common.{◌≡◌, ℕ, zero, suc, ◌+◌, ◌*◌, ◌/◌, ◌%◌, ◌<◌, true, refl, sym, ap, ap₂, ◌∙◌, get_or, arith, ◌==◌, ◌&&◌, nat_lt}
use Rattle.std.proofs.lemmas.Bool.{agree_below, agree_below_at, and_parts, eqb-true, ltb-true}
use Rattle.gf_cantor.specs.declared.word_powers.TheConstants.{LOW_POWERS, HIGH_POWERS, LOGARITHMS}
use Rattle.gf_cantor.specs.Field.{combine, element, label, times_x, shift, power, times_low, times, product, word_field}
use Rattle.gf_cantor.proofs.Product.{element-label}
use Rattle.gf_cantor.proofs.PowerLaws.{label-powers, power-lt}
use Rattle.gf_cantor.proofs.Computed.{word_labels, word_cantor}

-- the first table has the labels of the powers
low_test : agree_below (λ i. get_or LOW_POWERS i 0 == label word_field (power word_field i)) (λ x. true) 256 ≡ true
unfolding combine label times_x shift word_field
low_test = refl

-- an entry of it
pub low_is : (i : ℕ) → i < 256 → get_or LOW_POWERS i 0 ≡ label word_field (power word_field i)
low_is i h = eqb-true _ _ (agree_below_at (λ i. get_or LOW_POWERS i 0 == label word_field (power word_field i)) (λ x. true) 256 i low_test h)

-- each entry of the other table is the one before times x^256
high_test : agree_below (λ i. get_or HIGH_POWERS (suc i) 0 == product word_field (get_or HIGH_POWERS i 0) (label word_field (power word_field 256))) (λ x. true) 255 ≡ true
unfolding combine element label times_x shift times_low times product word_field
high_test = refl

-- the first entry is 1
high_first : get_or HIGH_POWERS 0 0 ≡ label word_field (power word_field 0)
unfolding combine label times_x shift word_field
high_first = refl

-- so it has the labels of the powers of x^256
pub high_is : (i : ℕ) → i < 256 → get_or HIGH_POWERS i 0 ≡ label word_field (power word_field (256 * i))
high_is zero h = high_first
high_is (suc i) h =
    let next : 256 * i + 256 ≡ 256 * suc i = omega arith in
    eqb-true _ _ (agree_below_at (λ i. get_or HIGH_POWERS (suc i) 0 == product word_field (get_or HIGH_POWERS i 0) (label word_field (power word_field 256))) (λ x. true) 255 i high_test (omega arith))
    ∙ ap (λ p. product word_field p (label word_field (power word_field 256))) (high_is i (omega arith))
    ∙ label-powers word_field 4 word_cantor (256 * i) 256
    ∙ ap (λ k. label word_field (power word_field k)) next

-- a power of x by those of both tables
pub both_powers : (i : ℕ) → product word_field (label word_field (power word_field (256 * (i / 256)))) (label word_field (power word_field (i % 256))) ≡ label word_field (power word_field i)
both_powers i =
    let parts : 256 * (i / 256) + i % 256 ≡ i = omega arith in
    label-powers word_field 4 word_cantor (256 * (i / 256)) (i % 256) ∙ ap (λ k. label word_field (power word_field k)) parts

-- and by both tables
both_entries : (i : ℕ) → i < 65536 → product word_field (get_or HIGH_POWERS (i / 256) 0) (get_or LOW_POWERS (i % 256) 0) ≡ label word_field (power word_field i)
both_entries i h = ap₂ (product word_field) (high_is (i / 256) (omega arith)) (low_is (i % 256) (omega arith)) ∙ both_powers i

-- the logarithms of the labels below 1,024 but 0
log_test : agree_below (λ a. nat_lt (get_or LOGARITHMS (suc a) 0) 65535
    && (product word_field (get_or HIGH_POWERS (get_or LOGARITHMS (suc a) 0 / 256) 0) (get_or LOW_POWERS (get_or LOGARITHMS (suc a) 0 % 256) 0) == suc a)) (λ x. true) 1023 ≡ true
unfolding combine element label times_x times_low times product word_field
log_test = refl

-- what is tested of a label
log_tested : (a : ℕ) → a < 1023 → (get_or LOGARITHMS (suc a) 0 < 65535)
    × (product word_field (get_or HIGH_POWERS (get_or LOGARITHMS (suc a) 0 / 256) 0) (get_or LOW_POWERS (get_or LOGARITHMS (suc a) 0 % 256) 0) ≡ suc a)
log_tested a h =
    let both = and_parts _ _ (agree_below_at (λ a. nat_lt (get_or LOGARITHMS (suc a) 0) 65535
    && (product word_field (get_or HIGH_POWERS (get_or LOGARITHMS (suc a) 0 / 256) 0) (get_or LOW_POWERS (get_or LOGARITHMS (suc a) 0 % 256) 0) == suc a)) (λ x. true) 1023 a log_test h) in
    (ltb-true _ _ both.0, eqb-true _ _ both.1)

-- a logarithm is below 65,535
pub log-lt : (a : ℕ) → 0 < a → a < 1024 → get_or LOGARITHMS a 0 < 65535
log-lt zero pos h = absurd (omega arith)
log-lt (suc a) pos h = let tested = log_tested a (omega arith) in tested.0

-- and the power of x has that label
pub log-power : (a : ℕ) → 0 < a → a < 1024 → element word_field a ≡ power word_field (get_or LOGARITHMS a 0)
log-power zero pos h = absurd (omega arith)
log-power (suc a) pos h =
    let tested = log_tested a (omega arith) in
    let bound : get_or LOGARITHMS (suc a) 0 < 65535 = tested.0 in
    ap (element word_field) (sym tested.1 ∙ both_entries (get_or LOGARITHMS (suc a) 0) (omega arith))
    ∙ element-label word_field word_labels (power word_field (get_or LOGARITHMS (suc a) 0)) (power-lt word_field 4 word_cantor (get_or LOGARITHMS (suc a) 0))
