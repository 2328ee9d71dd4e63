-- Where the content of compact shares stands, and the units that start in it.
use Rattle.std.proofs.Common.{◌≡◌, ◌∙◌, ℕ, zero, suc, ◌+◌, ◌-◌, ◌*◌, ◌<◌, ◌≤◌, ◌^◌, Bool, cond, false, eqb, lt-ltb, le-ltb, inl, inr, List, [], ◌∷◌, ap, arith}
use Rattle.std.proofs.lemmas.Bool.{cases_lt}
use Rattle.std.proofs.lemmas.Bool.Decides.{nat_tests}
use Rattle.share_split.specs.Units.{content_start, content_place, starts_on, place_in, first_place, reserved_of}

-- ---- the content of shares

-- the number of a later share isn't 0
later : (i : ℕ) → eqb (suc i) 0 ≡ false
later i = grind (arith, nat_tests)

-- where the content of a later share begins
content_start-suc : (i : ℕ) → content_start (suc i) ≡ 474 + 478 * i
content_start-suc i =
    let e : suc i - 1 ≡ i = omega arith in
    ap (λ (b : Bool). cond b 0 (474 + 478 * (suc i - 1))) (later i) ∙ ap (λ (k : ℕ). 474 + 478 * k) e

-- the place of the content in a later share
content_place-suc : (i : ℕ) → content_place (suc i) ≡ 34
content_place-suc i = ap (λ (b : Bool). cond b 38 34) (later i)

-- the content of the next share begins later
pub content_start-next : (i : ℕ) → content_start i < content_start (suc i)
content_start-next zero = omega arith
content_start-next (suc i) = omega (arith, content_start-suc i, content_start-suc (suc i))

-- the content goes to the end of the share
content_end : (i : ℕ) → content_place i + content_start (suc i) ≡ 512 + content_start i
content_end zero = omega arith
content_end (suc i) = omega (arith, content_place-suc i, content_start-suc i, content_start-suc (suc i))

-- ---- units that start in a share

-- a unit that starts in front of the end of the content has its place
pub place_in-within : (i start : ℕ) → start < content_start (suc i) → place_in i start ≡ content_place i + (start - content_start i)
place_in-within i start lt =
    ap (λ (b : Bool). cond b (content_place i + (start - content_start i)) 0) (lt-ltb start (content_start (suc i)) lt)

-- one behind it has none
pub place_in-behind : (i start : ℕ) → content_start (suc i) ≤ start → place_in i start ≡ 0
place_in-behind i start le =
    ap (λ (b : Bool). cond b (content_place i + (start - content_start i)) 0) (le-ltb start (content_start (suc i)) le)

-- the place is in the share
place_in-share : (i start : ℕ) → place_in i start < 512
place_in-share i start = elim (cases_lt start (content_start (suc i))) [
  | inl lt ↦ omega (arith, lt, content_end i, content_start-next i, place_in-within i start lt)
  | inr le ↦ omega (arith, place_in-behind i start le)
]

-- so is that of the first unit
first_place-share : (i : ℕ) (starts : List ℕ) → first_place i starts < 512
first_place-share i [] = omega arith
first_place-share i (start ∷ starts) = place_in-share i start

-- four bytes state the number
pub reserved_of-small : (i : ℕ) (starts : List ℕ) → reserved_of i starts < 2 ^ 32
reserved_of-small i starts = omega (arith, first_place-share i (starts_on (content_start i) starts))
