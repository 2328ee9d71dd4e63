-- The first k places of a codeword as known positions.
use Rattle.std.proofs.Common.{◌≡◌, ◌∙◌, ℕ, zero, suc, ◌+◌, ◌*◌, ◌<◌, ◌≤◌, List, [], ◌∷◌, take, refl, ap, sym, arith, true, IsTrue}
use Rattle.std.specs.Prelude.{slice_get, nat_lt}
use Rattle.std.specs.List.{list_all}
use Rattle.std.proofs.lemmas.Bool.{and_from}
use Rattle.std.proofs.lemmas.Bool.Decides.{nat_tests}
use Rattle.namespace_id.specs.declared.shares.Share.{Share}
use Rattle.namespace_id.specs.Lists.{holds_along, ascending}
use Rattle.namespace_id.proofs.AscendingLemmas.{length-ascending, get_or-ascending}
use Rattle.leopard_code.specs.Codewords.{are_positions, HasEntries}

-- numbers that count up are ascending
along_ascending : (n first : ℕ) → holds_along nat_lt (ascending first n) ≡ true
unfolding ascending holds_along
along_ascending zero first = refl
along_ascending (suc zero) first = refl
along_ascending (suc (suc n)) first =
    let next : nat_lt first (suc first) ≡ true = grind (arith, nat_tests) in
    and_from (nat_lt first (suc first)) (holds_along nat_lt (ascending (suc first) (suc n))) next (along_ascending (suc n) (suc first))

-- and below their end
below_ascending : (n first high : ℕ) → first + n ≤ high → list_all (λ pos. nat_lt pos high) (ascending first n) ≡ true
unfolding ascending
below_ascending zero first high h = refl
below_ascending (suc n) first high h =
    let here : nat_lt first high ≡ true = grind (arith, nat_tests) in
    and_from (nat_lt first high) (list_all (λ pos. nat_lt pos high) (ascending (suc first) n)) here (below_ascending n (suc first) high (omega arith))

-- k of them from one that isn't above k on are positions
pub positions_from : (k first : ℕ) → first ≤ k → IsTrue (are_positions k (ascending first k))
positions_from k first low =
    and_from (list_all (λ pos. nat_lt pos (2 * k)) (ascending first k)) (holds_along nat_lt (ascending first k)) (below_ascending k first (2 * k) (omega arith)) (along_ascending k first)

-- the first k places of a codeword are positions
pub first_positions : (k : ℕ) → IsTrue (are_positions k (ascending 0 k))
first_positions k = positions_from k 0 (omega arith)

-- one of the first shares
slice_get-take : (n : ℕ) (shares : List Share) (i : ℕ) → i < n → slice_get (take n shares) i ≡ slice_get shares i
slice_get-take zero shares i h = absurd (omega arith)
slice_get-take (suc n) [] i h = refl
slice_get-take (suc n) (share ∷ shares) zero h = refl
slice_get-take (suc n) (share ∷ shares) (suc i) h = slice_get-take n shares i (omega arith)

-- the first k shares stand there
pub first_entries : (k : ℕ) (word : List Share) → HasEntries (ascending 0 k) (take k word) word
first_entries k word i h =
    let within : i < k = omega (arith, length-ascending k 0) in
    let start : 0 + i ≡ i = omega arith in
    ap (slice_get word) (get_or-ascending k 0 i within ∙ start) ∙ sym (slice_get-take k word i within)
