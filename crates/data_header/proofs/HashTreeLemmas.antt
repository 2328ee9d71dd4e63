-- The hashes of all nodes of a tree: where those beside a way lead, and what the one at place 1 is.
use Rattle.std.proofs.Common.{◌≡◌, ℕ, zero, suc, ◌+◌, ◌-◌, ◌*◌, ◌/◌, ◌%◌, ◌^◌, ◌<◌, ◌≤◌, ◌==◌, if◌then◌else◌, List, [], ◌∷◌, ◌++◌, refl, sym, ap, ap₂, ◌∙◌, arith, length, take, drop, get_or, inl, inr, append_assoc, append-nil, false, Bool}
use Rattle.std.proofs.lemmas.Bool.{cases_eq, cases_lt, eq-eqb}
use Rattle.std.proofs.lemmas.Bool.Decides.{nat_tests}
use Rattle.std.proofs.lemmas.Nat.{pow_pos}
use Rattle.std.proofs.Math.Nat.{pow-suc, le-mul_of_pos_right}
use Rattle.std.proofs.Math.Seq.{take-length}
use Rattle.std.proofs.lemmas.List.{length-take, length-drop, get_or-drop, get_or-take, take-take, drop-take, drop-drop}
use Rattle.namespace_id.specs.declared.digests.Digest.{Digest}
use Rattle.namespace_id.specs.Digests.{no_digest}
use Rattle.data_header.specs.DataRoots.{leaf_hash, inner_hash, merkle_root, led}
use Rattle.data_header.specs.HashTrees.{hash_at, beside, siblings, AreTreeHashes}
use Rattle.data_header.proofs.RootLemmas.{merkle_root-zero, merkle_root-suc}
use Rattle.data_header.proofs.LedLemmas.{raised, raised-even, raised-odd, led-cons, led-nil}

-- there is one for each level
pub length-siblings : (levels : ℕ) (hashes : List (List ℕ)) (place : ℕ) → length (siblings levels hashes place) ≡ levels
unfolding siblings
length-siblings zero hashes place = refl
length-siblings (suc levels) hashes place = ap suc (length-siblings levels hashes (place / 2))

-- beside an even place stands the next one
beside-even : (place : ℕ) → place % 2 ≡ 0 → beside place ≡ place + 1
beside-even place even = ap (λ (b : Bool). if b then place + 1 else place - 1) (eq-eqb (place % 2) 0 even)

-- beside an odd place stands the one before it
beside-odd : (place : ℕ) → (place % 2 ≡ 0 → ⊥) → beside place ≡ place - 1
beside-odd place odd =
    let test : (place % 2 == 0) ≡ false = grind (arith, nat_tests) in
    ap (λ (b : Bool). if b then place + 1 else place - 1) test

-- both are in a list of an even length, or none
pub beside-lt : (place n : ℕ) → place < 2 * n → beside place < 2 * n
beside-lt place n h = elim (cases_eq (place % 2) 0) [
  | inl even ↦ omega (arith, h, even, beside-even place even)
  | inr odd ↦ omega (arith, h, beside-odd place odd)
]

-- one hash more, of those on the levels that are left
pub siblings_next : (left : ℕ) (hashes path next whole : List (List ℕ)) (place : ℕ) (hash : List ℕ)
    → path ++ siblings (suc left) hashes place ≡ whole → hash ≡ hash_at hashes (beside place) → next ≡ path ++ hash ∷ []
    → next ++ siblings left hashes (place / 2) ≡ whole
unfolding siblings
siblings_next left hashes path next whole place hash so_far is pushed =
    ap (λ (l : List (List ℕ)). l ++ siblings left hashes (place / 2)) pushed
    ∙ append_assoc path (hash ∷ []) (siblings left hashes (place / 2))
    ∙ ap (λ (x : List ℕ). path ++ x ∷ siblings left hashes (place / 2)) is
    ∙ so_far

-- where no level is left, these are all
pub siblings_end : (hashes path whole : List (List ℕ)) (place left : ℕ) → left ≡ 0 → path ++ siblings left hashes place ≡ whole → path ≡ whole
unfolding siblings
siblings_end hashes path whole place left none so_far =
    sym (append-nil path) ∙ ap (λ (n : ℕ). path ++ siblings n hashes place) (sym none) ∙ so_far

-- a way from a place with a number of places before it goes as from the place
pub led-behind : (hashes : List (List ℕ)) (place : ℕ) (top : List ℕ) → led (2 ^ length hashes + place) top hashes ≡ led place top hashes
led-behind [] place top = led-nil (2 ^ 0 + place) top ∙ sym (led-nil place top)
led-behind (x ∷ hashes) place top =
    let twice : 2 ^ suc (length hashes) ≡ 2 ^ length hashes * 2 = pow-suc 2 (length hashes) in
    let halved : (2 ^ suc (length hashes) + place) / 2 ≡ 2 ^ length hashes + place / 2 = omega arith in
    let same_side : (2 ^ suc (length hashes) + place) % 2 ≡ place % 2 = omega arith in
    led-cons (2 ^ suc (length hashes) + place) top x hashes
    ∙ ap₂ (λ (p s : ℕ). led p (if s == 0 then inner_hash top x else inner_hash x top) hashes) halved same_side
    ∙ led-behind hashes (place / 2) (raised place top x)
    ∙ sym (led-cons place top x hashes)

-- one of eight leaves that were hashed side by side
pub leaf_among : (digests : List Digest) (new made : List (List ℕ)) (at first k i : ℕ) → k ≡ 8 → first ≤ i → i < first + 8
    → ((j : ℕ) → j < 8 → hash_at new (at + first + j) ≡ hash_at made j)
    → ((j : ℕ) → j < 8 → hash_at made j ≡ leaf_hash (get_or (take k (drop first digests)) j no_digest))
    → hash_at new (at + i) ≡ leaf_hash (get_or digests i no_digest)
leaf_among digests new made at first k i ek low high put is =
    let j : ℕ = i - first in
    let here : at + first + j ≡ at + i = omega arith in
    let own : first + j ≡ i = omega arith in
    ap (hash_at new) (sym here) ∙ put j (omega arith) ∙ is j (omega arith)
    ∙ ap leaf_hash (get_or-take k (drop first digests) j no_digest (omega arith) ∙ get_or-drop first digests j no_digest ∙ ap (λ (n : ℕ). get_or digests n no_digest) own)

-- one of sixteen hashes below eight nodes
below_eight : (now : List (List ℕ)) (from k j i : ℕ) → k ≡ 16 → j < 16 → from + j ≡ i → hash_at (take k (drop from now)) j ≡ hash_at now i
below_eight now from k j i ek few own =
    get_or-take k (drop from now) j [] (omega arith) ∙ get_or-drop from now j [] ∙ ap (hash_at now) own

-- a node, after the eight from a place on were hashed side by side over those behind them
pub node_among : (now new made : List (List ℕ)) (first k i : ℕ) → k ≡ 16 → 8 ≤ first → first ≤ i
    → ((j : ℕ) → j < 8 → hash_at new (first + j) ≡ hash_at made j)
    → ((p : ℕ) → first + 8 ≤ p → hash_at new p ≡ hash_at now p)
    → ((j : ℕ) → j < 8 → hash_at made j ≡ inner_hash (hash_at (take k (drop (2 * first) now)) (2 * j)) (hash_at (take k (drop (2 * first) now)) (2 * j + 1)))
    → (first + 8 ≤ i → hash_at now i ≡ inner_hash (hash_at now (2 * i)) (hash_at now (2 * i + 1)))
    → hash_at new i ≡ inner_hash (hash_at new (2 * i)) (hash_at new (2 * i + 1))
node_among now new made first k i ek high low put kept is before =
    let left : hash_at new (2 * i) ≡ hash_at now (2 * i) = kept (2 * i) (omega arith) in
    let right : hash_at new (2 * i + 1) ≡ hash_at now (2 * i + 1) = kept (2 * i + 1) (omega arith) in
    elim (cases_lt i (first + 8)) [
      | inl among ↦
          let j : ℕ = i - first in
          let own : first + j ≡ i = omega arith in
          let few : j < 8 = omega arith in
          ap (hash_at new) (sym own) ∙ put j few ∙ is j few
          ∙ ap₂ inner_hash
          (below_eight now (2 * first) k (2 * j) (2 * i) ek (omega arith) (omega arith) ∙ sym left)
          (below_eight now (2 * first) k (2 * j + 1) (2 * i + 1) ek (omega arith) (omega arith) ∙ sym right)
      | inr behind ↦ kept i behind ∙ before behind ∙ ap₂ inner_hash (sym left) (sym right)
    ]

-- twice a number
doubled : (p : ℕ) → p * 2 ≡ p + p
doubled p = omega arith

-- a number times twice another
spread : (i p : ℕ) → i * (p + p) ≡ i * p + i * p
spread i p = omega arith

-- twice a number times another
left_times : (i p : ℕ) → 2 * i * p ≡ i * p + i * p
left_times i p = omega arith

-- and once more
right_times : (i p : ℕ) → (2 * i + 1) * p ≡ i * p + i * p + p
right_times i p = omega arith

-- a product that isn't 0 has no factor 0
not_first : (i p : ℕ) → 0 < i * p → 0 < i
not_first zero p h = absurd (omega (arith, h))
not_first (suc i) p h = omega arith

module _ (digests : List Digest) (hashes : List (List ℕ)) (are : AreTreeHashes digests hashes) where
  -- the hash over a place and the one beside it
  raised_up : (place : ℕ) → 2 ≤ place → place < 2 * length digests → raised place (hash_at hashes place) (hash_at hashes (beside place)) ≡ hash_at hashes (place / 2)
  raised_up place low high =
      let up : ℕ = place / 2 in
      let above : hash_at hashes up ≡ inner_hash (hash_at hashes (2 * up)) (hash_at hashes (2 * up + 1)) = are.inner up (omega arith) (omega arith) in
      elim (cases_eq (place % 2) 0) [
        | inl even ↦
            let here : 2 * up ≡ place = omega arith in
            sym (raised-even place (hash_at hashes place) (hash_at hashes (beside place)) even)
            ∙ ap (λ (p : ℕ). inner_hash (hash_at hashes place) (hash_at hashes p)) (beside-even place even)
            ∙ sym (above ∙ ap (λ (p : ℕ). inner_hash (hash_at hashes p) (hash_at hashes (p + 1))) here)
        | inr odd ↦
            let before : 2 * up ≡ place - 1 = omega arith in
            let here : 2 * up + 1 ≡ place = omega arith in
            sym (raised-odd place (hash_at hashes place) (hash_at hashes (beside place)) odd)
            ∙ ap (λ (p : ℕ). inner_hash (hash_at hashes p) (hash_at hashes place)) (beside-odd place odd)
            ∙ sym (above ∙ ap₂ (λ (p q : ℕ). inner_hash (hash_at hashes p) (hash_at hashes q)) before here)
      ]

  -- those beside the way lead from a place to the root's
  pub led-siblings : (levels place : ℕ) → 2 ^ levels ≤ place → place < 2 ^ suc levels → place < 2 * length digests
      → led place (hash_at hashes place) (siblings levels hashes place) ≡ hash_at hashes 1
  unfolding siblings
  led-siblings zero place low high within =
      let top : place ≡ 1 = omega arith in
      led-nil place (hash_at hashes place) ∙ ap (hash_at hashes) top
  led-siblings (suc levels) place low high within =
      let twice : 2 ^ suc levels ≡ 2 ^ levels * 2 = pow-suc 2 levels in
      let more : 2 ^ suc (suc levels) ≡ 2 ^ suc levels * 2 = pow-suc 2 (suc levels) in
      let some = pow_pos levels in
      led-cons place (hash_at hashes place) (hash_at hashes (beside place)) (siblings levels hashes (place / 2))
      ∙ ap (λ (t : List ℕ). led (place / 2) t (siblings levels hashes (place / 2))) (raised_up place (omega arith) within)
      ∙ led-siblings levels (place / 2) (omega arith) (omega arith) (omega arith)

  -- a node's hash is the root over the digests below it; `start` is the place of the first of these
  pub node_root : (depth i start : ℕ) → start + length digests ≡ i * 2 ^ depth → start + 2 ^ depth ≤ length digests
      → hash_at hashes i ≡ merkle_root depth (take (2 ^ depth) (drop start digests))
  node_root zero i start at within =
      let leaf : i ≡ length digests + start = omega arith in
      let xs : List Digest = take 1 (drop start digests) in
      let one : length xs ≡ 1 = omega (arith, length-take 1 (drop start digests), length-drop start digests) in
      let first : start + 0 ≡ start = omega arith in
      ap (hash_at hashes) leaf ∙ are.leaves start (omega arith)
      ∙ ap leaf_hash (ap (λ (p : ℕ). get_or digests p no_digest) (sym first) ∙ sym (get_or-drop start digests 0 no_digest) ∙ sym (get_or-take 1 (drop start digests) 0 no_digest (omega arith)))
      ∙ merkle_root-zero xs no_digest one
  node_root (suc depth) i start at within =
      let p : ℕ = 2 ^ depth in
      let some : 0 < p = pow_pos depth in
      let twice : 2 ^ suc depth ≡ p + p = pow-suc 2 depth ∙ doubled p in
      let whole : i * 2 ^ suc depth ≡ i * p + i * p = ap (λ (q : ℕ). i * q) twice ∙ spread i p in
      let many : i ≤ i * p = le-mul_of_pos_right i some in
      let left : hash_at hashes (2 * i) ≡ merkle_root depth (take p (drop start digests)) =
      node_root depth (2 * i) start (at ∙ whole ∙ sym (left_times i p)) (omega (arith, within, twice)) in
      let right : hash_at hashes (2 * i + 1) ≡ merkle_root depth (take p (drop (start + p) digests)) =
      node_root depth (2 * i + 1) (start + p) (omega (arith, at, whole, right_times i p)) (omega (arith, within, twice)) in
      let front : take p (take (p + p) (drop start digests)) ≡ take p (drop start digests) = take-take p (p + p) (drop start digests) (omega arith) in
      let back : drop p (take (p + p) (drop start digests)) ≡ take p (drop (start + p) digests) =
      drop-take p p (drop start digests) ∙ ap (take p) (drop-drop p start digests) in
      are.inner i (not_first i p (omega (arith, at, whole, within, twice, some))) (omega (arith, at, whole, within, twice, many, some))
      ∙ ap₂ inner_hash (left ∙ ap (merkle_root depth) (sym front)) (right ∙ ap (merkle_root depth) (sym back))
      ∙ sym (merkle_root-suc depth (take (p + p) (drop start digests)))
      ∙ ap (λ (q : ℕ). merkle_root (suc depth) (take q (drop start digests))) (sym twice)

  -- the hash at place 1 is the root over all digests
  pub top_root : (depth : ℕ) → length digests ≡ 2 ^ depth → hash_at hashes 1 ≡ merkle_root depth digests
  top_root depth power =
      let one : 1 * 2 ^ depth ≡ 2 ^ depth = omega arith in
      let all : take (2 ^ depth) (drop 0 digests) ≡ digests = ap (λ (n : ℕ). take n digests) (sym power) ∙ take-length digests in
      node_root depth 1 0 (omega (arith, power, one)) (omega (arith, power)) ∙ ap (merkle_root depth) all

  -- a leaf, and what stands beside its way, lead to the root over all digests
  pub leaf_led : (depth place : ℕ) → length digests ≡ 2 ^ depth → place < length digests
      → led place (leaf_hash (get_or digests place no_digest)) (siblings depth hashes (length digests + place)) ≡ merkle_root depth digests
  leaf_led depth place power within =
      let twice : 2 ^ suc depth ≡ 2 ^ depth * 2 = pow-suc 2 depth in
      let path : List (List ℕ) = siblings depth hashes (length digests + place) in
      let at : 2 ^ length path + place ≡ length digests + place = ap (λ (n : ℕ). 2 ^ n + place) (length-siblings depth hashes (length digests + place)) ∙ ap (λ (n : ℕ). n + place) (sym power) in
      sym (led-behind path place (leaf_hash (get_or digests place no_digest)))
      ∙ ap₂ (λ (p : ℕ) (t : List ℕ). led p t path) at (sym (are.leaves place within))
      ∙ led-siblings depth (length digests + place) (omega (arith, power)) (omega (arith, power, within, twice)) (omega (arith, within))
      ∙ top_root depth power
