-- Lemmas on a test of each element and the one after it.
use Rattle.std.proofs.Common.{◌≡◌, ◌∙◌, ℕ, zero, suc, ◌+◌, ◌-◌, ◌<◌, ◌≤◌, List, [], ◌∷◌, Bool, true, false, ◌&&◌, refl, sym, ap, arith, length, drop, get_or, length-drop}
use Rattle.namespace_id.specs.Lists.{holds_along}

-- from one element on the test holds along where it does from the next on, and of both
along-drop : {A : Type 0} (test : A → A → Bool) (xs : List A) (i : ℕ) (d : A) → suc i < length xs
    → holds_along test (drop i xs) ≡ (test (get_or xs i d) (get_or xs (suc i) d) && holds_along test (drop (suc i) xs))
unfolding holds_along
along-drop test [] i d h = absurd (omega arith)
along-drop test (a ∷ []) zero d h = absurd (omega arith)
along-drop test (a ∷ b ∷ xs) zero d h = refl
along-drop test (a ∷ xs) (suc i) d h = along-drop test xs i d (omega arith)

-- the same from the element before this one on
along_step : {A : Type 0} (test : A → A → Bool) (xs : List A) (i : ℕ) (d : A) → 1 ≤ i → i < length xs
    → holds_along test (drop (i - 1) xs) ≡ (test (get_or xs (i - 1) d) (get_or xs i d) && holds_along test (drop i xs))
along_step test xs i d low high =
    let next : suc (i - 1) ≡ i = omega arith in
    along-drop test xs (i - 1) d (omega arith)
    ∙ ap (λ (k : ℕ). test (get_or xs (i - 1) d) (get_or xs k d) && holds_along test (drop k xs)) next

-- a list of fewer than two elements has no pair
along_short : {A : Type 0} (test : A → A → Bool) (xs : List A) → length xs ≤ 1 → holds_along test xs ≡ true
unfolding holds_along
along_short test [] h = refl
along_short test (a ∷ []) h = refl
along_short test (a ∷ b ∷ xs) h = absurd (omega arith)

-- a loop over the pairs, at a pair of which the test doesn't hold
pub along_fails : {A : Type 0} (test : A → A → Bool) (xs : List A) (i : ℕ) (d : A) → 1 ≤ i → i < length xs
    → test (get_or xs (i - 1) d) (get_or xs i d) ≡ false → holds_along test (drop (i - 1) xs) ≡ holds_along test xs → false ≡ holds_along test xs
along_fails test xs i d low high fails so_far =
    sym (sym so_far ∙ along_step test xs i d low high ∙ ap (λ (b : Bool). b && holds_along test (drop i xs)) fails)

-- at one of which it does
pub along_on : {A : Type 0} (test : A → A → Bool) (xs : List A) (i : ℕ) (d : A) → 1 ≤ i → i < length xs
    → test (get_or xs (i - 1) d) (get_or xs i d) ≡ true → holds_along test (drop (i - 1) xs) ≡ holds_along test xs
    → holds_along test (drop (i + 1 - 1) xs) ≡ holds_along test xs
along_on test xs i d low high holds so_far =
    let place : i + 1 - 1 ≡ i = omega arith in
    ap (λ (k : ℕ). holds_along test (drop k xs)) place
    ∙ sym (along_step test xs i d low high ∙ ap (λ (b : Bool). b && holds_along test (drop i xs)) holds) ∙ so_far

-- at its end
pub along_end : {A : Type 0} (test : A → A → Bool) (xs : List A) (i : ℕ) → length xs ≤ i → holds_along test (drop (i - 1) xs) ≡ holds_along test xs
    → true ≡ holds_along test xs
along_end test xs i h so_far = sym (along_short test (drop (i - 1) xs) (omega (arith, length-drop (i - 1) xs))) ∙ so_far
