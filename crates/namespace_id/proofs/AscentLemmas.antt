-- Numbers that count up, with one more behind them.
use Rattle.std.proofs.Common.{◌≡◌, ◌∙◌, ℕ, zero, suc, ◌+◌, ◌≤◌, List, [], ◌∷◌, ◌++◌, true, refl, ap, arith, map, sym, ap₂}
use Rattle.std.specs.Prelude.{nat_lt}
use Rattle.std.proofs.lemmas.Bool.{and_from}
use Rattle.std.proofs.lemmas.Bool.Decides.{nat_tests}
use Rattle.std.proofs.lemmas.List.{map_push}
use Rattle.namespace_id.specs.Lists.{holds_along, ascending}

-- numbers that count up end by the last of them
pub ascending-last : (n first : ℕ) → ascending first (suc n) ≡ ascending first n ++ (first + n) ∷ []
unfolding ascending
ascending-last zero first = let start : first ≡ first + 0 = omega arith in ap (λ (p : ℕ). p ∷ []) start
ascending-last (suc n) first =
    let next : suc first + n ≡ first + suc n = omega arith in
    ap (λ (ps : List ℕ). first ∷ ps) (ascending-last n (suc first)) ∙ ap (λ (p : ℕ). first ∷ ascending (suc first) n ++ p ∷ []) next

-- numbers that count up and then one that is above them ascend
pub along_then : (n first p : ℕ) → first + n ≤ p → holds_along nat_lt (ascending first n ++ p ∷ []) ≡ true
unfolding ascending holds_along
along_then zero first p h = refl
along_then (suc zero) first p h =
    let next : nat_lt first p ≡ true = grind (arith, nat_tests) in and_from (nat_lt first p) true next refl
along_then (suc (suc n)) first p h =
    let next : nat_lt first (suc first) ≡ true = grind (arith, nat_tests) in
    and_from (nat_lt first (suc first)) (holds_along nat_lt (ascending (suc first) (suc n) ++ p ∷ [])) next
    (along_then (suc n) (suc first) p (omega arith))

-- a list of the values at numbers that count up: no value yet
pub mapped_none : {A : Type 0} (f : ℕ → A) (xs : List A) → xs ≡ [] → xs ≡ map f (ascending 0 0)
unfolding ascending
mapped_none f xs none = none

-- one more value
pub mapped_more : {A : Type 0} (f : ℕ → A) (n : ℕ) (xs : List A) (x : A) → xs ≡ map f (ascending 0 n) → x ≡ f n → xs ++ x ∷ [] ≡ map f (ascending 0 (n + 1))
mapped_more f n xs x before is =
    let start : n ≡ 0 + n = omega arith in
    let next : suc n ≡ n + 1 = omega arith in
    ap₂ (λ (l : List _) (y : _). l ++ y ∷ []) before (is ∙ ap f start)
    ∙ sym (map_push f (ascending 0 n) (0 + n)) ∙ ap (map f) (sym (ascending-last n 0)) ∙ ap (λ (m : ℕ). map f (ascending 0 m)) next
