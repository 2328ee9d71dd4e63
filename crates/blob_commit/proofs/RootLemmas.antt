-- Plain roots.
use Rattle.std.proofs.Common.{◌≡◌, ℕ, suc, ◌^◌, ◌<◌, ◌≤◌, nat_le, List, [], ◌∷◌, length, take, drop, get_or, true, false, refl, arith}
use Rattle.std.proofs.lemmas.Bool.Decides.{nat_tests}
use Rattle.data_header.specs.DataRoots.{inner_hash}
use Rattle.blob_commit.specs.Commitments.{root_over}

-- few hashes
pub root_over-few : (depth : ℕ) (hashes : List (List ℕ)) → length hashes ≤ 2 ^ depth → root_over (suc depth) hashes ≡ root_over depth hashes
unfolding root_over
root_over-few depth hashes h =
    let test : nat_le (length hashes) (2 ^ depth) ≡ true = grind (arith, nat_tests) in rw test

-- more of them
pub root_over-halves : (depth : ℕ) (hashes : List (List ℕ)) → 2 ^ depth < length hashes
    → root_over (suc depth) hashes ≡ inner_hash (root_over depth (take (2 ^ depth) hashes)) (root_over depth (drop (2 ^ depth) hashes))
unfolding root_over
root_over-halves depth hashes h =
    let test : nat_le (length hashes) (2 ^ depth) ≡ false = grind (arith, nat_tests) in rw test

-- one hash
pub root_over-one : (hashes : List (List ℕ)) (d : List ℕ) → 1 ≤ length hashes → get_or hashes 0 d ≡ root_over 0 hashes
unfolding root_over
root_over-one [] d h = absurd (omega arith)
root_over-one (x ∷ hashes) d h = refl
