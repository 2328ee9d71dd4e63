-- Tests that are computed at each number below a bound.
use Rattle.std.proofs.Common.{◌≡◌, ℕ, ◌<◌, Bool, true, false, cond}
use Rattle.std.proofs.lemmas.Bool.{agree_below, agree_below_at}

-- whether a test holds of each number below n
unfoldable pub passes_below : ℕ → (ℕ → Bool) → Bool
passes_below n p = agree_below p (λ a. true) n

-- what a test says of each number below n
pub passes_below-at : (n : ℕ) (p : ℕ → Bool) → passes_below n p ≡ true → (a : ℕ) → a < n → p a ≡ true
unfolding passes_below
passes_below-at n p all a h = agree_below_at p (λ b. true) n a all h

-- the second test, where the first holds
abbrev pub where_holds : Bool → Bool → Bool
where_holds a b = cond a b true

-- where the first holds, so does the second
pub where_holds-true : (a b : Bool) → where_holds a b ≡ true → a ≡ true → b ≡ true
where_holds-true true b h e = h
where_holds-true false b h e = absurd cc
