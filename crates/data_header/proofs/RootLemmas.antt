-- Roots and paths by the halves of their digests.
use Rattle.std.proofs.Common.{◌≡◌, ℕ, suc, ◌+◌, ◌-◌, ◌/◌, ◌^◌, ◌<◌, ◌≤◌, List, [], ◌∷◌, ◌++◌, refl, sym, ap, ap₂, ◌∙◌, arith, length, take, drop, get_or, nat_lt, true, false, zero, inl, inr, length-append, IsTrue}
use Rattle.std.proofs.lemmas.Bool.{cases_lt}
use Rattle.std.proofs.lemmas.Bool.Decides.{nat_tests}
use Rattle.namespace_id.specs.declared.digests.Digest.{Digest}
use Rattle.data_header.specs.DataRoots.{leaf_hash, inner_hash, merkle_root, path_of}
use Rattle.data_header.specs.Paths.{most_hashes}
use Rattle.namespace_id.specs.Powers.{is_power, halvings}
use Rattle.namespace_id.proofs.PowerLemmas.{halvings-le, power_halvings}
use Rattle.namespace_id.proofs.HalfLemmas.{depth_below, depth_zero, half_power}

-- the root of one digest
pub merkle_root-zero : (digests : List Digest) (d : Digest) → length digests ≡ 1 → leaf_hash (get_or digests 0 d) ≡ merkle_root 0 digests
unfolding merkle_root
merkle_root-zero (digest ∷ digests) d h = refl
merkle_root-zero [] d h = absurd (omega arith)

-- the root of more digests, by its halves
pub merkle_root-suc : (depth : ℕ) (digests : List Digest)
    → merkle_root (suc depth) digests ≡ inner_hash (merkle_root depth (take (2 ^ depth) digests)) (merkle_root depth (drop (2 ^ depth) digests))
unfolding merkle_root
merkle_root-suc depth digests = refl

-- the hashes from a place in the left half
pub path_of-low : (depth : ℕ) (digests : List Digest) (place : ℕ) → place < 2 ^ depth
    → path_of (suc depth) digests place ≡ path_of depth (take (2 ^ depth) digests) place ++ merkle_root depth (drop (2 ^ depth) digests) ∷ []
unfolding path_of
path_of-low depth digests place h =
    let test : nat_lt place (2 ^ depth) ≡ true = grind (arith, nat_tests) in rw test

-- the hashes from a place in the right half
pub path_of-high : (depth : ℕ) (digests : List Digest) (place : ℕ) → 2 ^ depth ≤ place
    → path_of (suc depth) digests place ≡ path_of depth (drop (2 ^ depth) digests) (place - 2 ^ depth) ++ merkle_root depth (take (2 ^ depth) digests) ∷ []
unfolding path_of
path_of-high depth digests place h =
    let test : nat_lt place (2 ^ depth) ≡ false = grind (arith, nat_tests) in rw test

-- one digest has no hashes above it
pub path_of-one : (digests : List Digest) (place depth : ℕ) → length digests ≡ 1 → length digests ≡ 2 ^ depth → [] ≡ path_of depth digests place
unfolding path_of
path_of-one digests place depth h power = ap (λ (k : ℕ). path_of k digests place) (sym (depth_zero (length digests) depth h power))

-- a hash is the root of digests, by whatever depth their number has
abbrev pub IsRootOf : List Digest → List ℕ → Type 0
IsRootOf digests hash = (k : ℕ) → length digests ≡ 2 ^ k → hash ≡ merkle_root k digests

-- hashes are those from a place of digests, by whatever depth their number has
abbrev pub IsPathOf : List Digest → ℕ → List (List ℕ) → Type 0
IsPathOf digests place path = (k : ℕ) → length digests ≡ 2 ^ k → path ≡ path_of k digests place

-- both halves of more digests than one
pub record AreHalves (digests left right : List Digest) : Type 0 where
  pub several : length digests ≡ 1 → ⊥
  pub left_is : left ≡ take (length digests / 2) digests
  pub right_is : right ≡ drop (length digests / 2) digests
  pub left_len : length left ≡ length digests / 2
  pub right_len : length right + length digests / 2 ≡ length digests

-- what is split in the middle
pub are_halves : (digests left right : List Digest) → (length digests ≡ 1 → ⊥) → left ≡ take (length digests / 2) digests → right ≡ drop (length digests / 2) digests
    → length left ≡ length digests / 2 → length right + length digests / 2 ≡ length digests → AreHalves digests left right
are_halves digests left right several left_is right_is left_len right_len =
    record { several = several; left_is = left_is; right_is = right_is; left_len = left_len; right_len = right_len }

-- the halves of 2 ^ depth digests, where the depth is that of the halves and one more
pub record AtDepth (digests left right : List Digest) (depth d : ℕ) : Type 0 where
  pub below : depth ≡ suc d
  pub half_is : length digests / 2 ≡ 2 ^ d
  pub left_power : length left ≡ 2 ^ d
  pub right_power : length right ≡ 2 ^ d
  pub left_is : left ≡ take (2 ^ d) digests
  pub right_is : right ≡ drop (2 ^ d) digests

-- halves of 2 ^ depth digests have such a depth
pub halves_depth : (digests left right : List Digest) (depth : ℕ) → AreHalves digests left right → length digests ≡ 2 ^ depth
    → (d : ℕ) × AtDepth digests left right depth d
halves_depth digests left right depth h power =
    let below = depth_below (length digests) depth power h.several in
    let d : ℕ = below.0 in
    let whole : length digests ≡ 2 ^ suc d = power ∙ ap (λ (k : ℕ). 2 ^ k) below.1 in
    let half = half_power (length digests) d whole in
    let half_is : length digests / 2 ≡ 2 ^ d = half.0 in
    let same_sum : length digests / 2 + length digests / 2 ≡ length digests = half.1 in
    let left_len : length left ≡ length digests / 2 = h.left_len in
    let right_len : length right + length digests / 2 ≡ length digests = h.right_len in (
      d,
      record {
        below = below.1;
        half_is = half_is;
        left_power = omega arith;
        right_power = omega arith;
        left_is = h.left_is ∙ ap (λ (k : ℕ). take k digests) half_is;
        right_is = h.right_is ∙ ap (λ (k : ℕ). drop k digests) half_is;
      },
    )

-- the root of more digests, from those of both halves
pub merkle_root-halves : (digests left right : List Digest) (depth : ℕ) (l r result : List ℕ) → AreHalves digests left right → length digests ≡ 2 ^ depth
    → IsRootOf left l → IsRootOf right r
    → result ≡ inner_hash l r → result ≡ merkle_root depth digests
merkle_root-halves digests left right depth l r result h power lefts rights joined =
    let at = halves_depth digests left right depth h power in
    let d : ℕ = at.0 in
    joined
    ∙ ap₂ inner_hash (lefts d at.1.left_power ∙ ap (merkle_root d) at.1.left_is) (rights d at.1.right_power ∙ ap (merkle_root d) at.1.right_is)
    ∙ sym (merkle_root-suc d digests)
    ∙ ap (λ (k : ℕ). merkle_root k digests) (sym at.1.below)

-- the hashes from a place of the left half, and the root of the right half
pub path_of-left : (digests left right : List Digest) (place depth : ℕ) (path result : List (List ℕ)) (hash : List ℕ) → AreHalves digests left right
    → length digests ≡ 2 ^ depth → place < length digests / 2
    → IsPathOf left place path → IsRootOf right hash
    → result ≡ path ++ hash ∷ [] → result ≡ path_of depth digests place
path_of-left digests left right place depth path result hash h power low paths roots pushed =
    let at = halves_depth digests left right depth h power in
    let d : ℕ = at.0 in
    let half_is : length digests / 2 ≡ 2 ^ d = at.1.half_is in
    pushed
    ∙ ap₂ (λ (p : List (List ℕ)) (x : List ℕ). p ++ x ∷ [])
    (paths d at.1.left_power ∙ ap (λ (l : List Digest). path_of d l place) at.1.left_is)
    (roots d at.1.right_power ∙ ap (merkle_root d) at.1.right_is)
    ∙ sym (path_of-low d digests place (omega arith))
    ∙ ap (λ (k : ℕ). path_of k digests place) (sym at.1.below)

-- the hashes from a place of the right half, and the root of the left half
pub path_of-right : (digests left right : List Digest) (place depth : ℕ) (path result : List (List ℕ)) (hash : List ℕ) → AreHalves digests left right
    → length digests ≡ 2 ^ depth → length digests / 2 ≤ place
    → IsPathOf right (place - length digests / 2) path → IsRootOf left hash
    → result ≡ path ++ hash ∷ [] → result ≡ path_of depth digests place
path_of-right digests left right place depth path result hash h power high paths roots pushed =
    let at = halves_depth digests left right depth h power in
    let d : ℕ = at.0 in
    let half_is : length digests / 2 ≡ 2 ^ d = at.1.half_is in
    pushed
    ∙ ap₂ (λ (p : List (List ℕ)) (x : List ℕ). p ++ x ∷ [])
    (paths d at.1.right_power ∙ ap₂ (λ (l : List Digest) (k : ℕ). path_of d l (place - k)) at.1.right_is half_is)
    (roots d at.1.left_power ∙ ap (merkle_root d) at.1.left_is)
    ∙ sym (path_of-high d digests place (omega arith))
    ∙ ap (λ (k : ℕ). path_of k digests place) (sym at.1.below)

-- one hash after others
length-more : (hashes : List (List ℕ)) (hash : List ℕ) (d : ℕ) → length hashes ≡ d → length (hashes ++ hash ∷ []) ≡ suc d
length-more hashes hash d h = omega (arith, length-append hashes (hash ∷ []))

-- there is a hash for each halving
pub length-path_of : (depth : ℕ) (digests : List Digest) (place : ℕ) → length (path_of depth digests place) ≡ depth
unfolding path_of
length-path_of zero digests place = refl
length-path_of (suc d) digests place =
    elim (cases_lt place (2 ^ d)) [
      | inl low ↦ ap length (path_of-low d digests place low) ∙ length-more _ _ d (length-path_of d (take (2 ^ d) digests) place)
      | inr high ↦ ap length (path_of-high d digests place high) ∙ length-more _ _ d (length-path_of d (drop (2 ^ d) digests) (place - 2 ^ d))
    ]

-- one more hash fits in a path
pub path_of-room : (digests : List Digest) (place : ℕ) (path : List (List ℕ)) → IsTrue (is_power (length digests))
    → IsPathOf digests place path → length path < most_hashes
path_of-room digests place path count value =
    let hashes : length path ≡ halvings (length digests) =
    ap length (value _ (sym (power_halvings (length digests) count))) ∙ length-path_of _ digests place in
    omega (arith, hashes, halvings-le (length digests))
