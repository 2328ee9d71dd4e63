-- Where hashes lead.
use Rattle.std.proofs.Common.{◌≡◌, ℕ, zero, suc, ◌+◌, ◌-◌, ◌*◌, ◌/◌, ◌%◌, ◌^◌, ◌<◌, ◌==◌, if◌then◌else◌, List, [], ◌∷◌, ◌++◌, refl, sym, ap, ap₂, ◌∙◌, arith, length, take, drop, get_or, inl, inr, add-one, drop-cons, true, false}
use Rattle.std.proofs.lemmas.Bool.Decides.{nat_tests}
use Rattle.std.proofs.Math.Nat.{pow-suc}
use Rattle.std.proofs.lemmas.Bool.{cases_lt}
use Rattle.std.proofs.lemmas.List.{length-take, length-drop, get_or-drop, get_or-take}
use Rattle.namespace_id.specs.declared.digests.Digest.{Digest}
use Rattle.data_header.specs.DataRoots.{leaf_hash, inner_hash, merkle_root, path_of, led}
use Rattle.data_header.proofs.RootLemmas.{merkle_root-zero, merkle_root-suc, path_of-low, path_of-high, length-path_of}

-- the hash over two, of which the next stands on the left at an odd place
abbrev pub raised : ℕ → List ℕ → List ℕ → List ℕ
raised place top hash = if place % 2 == 0 then inner_hash top hash else inner_hash hash top

-- at an even place the next hash stands on the right
pub raised-even : (place : ℕ) (top hash : List ℕ) → place % 2 ≡ 0 → inner_hash top hash ≡ raised place top hash
raised-even place top hash h =
    let test : (place % 2 == 0) ≡ true = grind (arith, nat_tests) in rw test

-- at an odd place the next hash stands on the left
pub raised-odd : (place : ℕ) (top hash : List ℕ) → (place % 2 ≡ 0 → ⊥) → inner_hash hash top ≡ raised place top hash
raised-odd place top hash h =
    let test : (place % 2 == 0) ≡ false = grind (arith, nat_tests) in rw test

-- a hash more leads one level up
pub led-cons : (place : ℕ) (top hash : List ℕ) (hashes : List (List ℕ)) → led place top (hash ∷ hashes) ≡ led (place / 2) (raised place top hash) hashes
unfolding led
led-cons place top hash hashes = refl

-- no hashes lead nowhere
pub led-nil : (place : ℕ) (top : List ℕ) → led place top [] ≡ top
unfolding led
led-nil place top = refl

-- one hash more, of those that are left
pub led-step : (hashes : List (List ℕ)) (i place : ℕ) (top next whole d : List ℕ) → i < length hashes
    → led place top (drop i hashes) ≡ whole → next ≡ raised place top (get_or hashes i d) → led (place / 2) next (drop (i + 1) hashes) ≡ whole
led-step hashes i place top next whole d h before raise =
    ap₂ (λ (t : List ℕ) (k : ℕ). led (place / 2) t (drop k hashes)) raise (add-one i)
    ∙ sym (led-cons place top (get_or hashes i d) (drop (suc i) hashes))
    ∙ ap (led place top) (sym (drop-cons hashes i d h)) ∙ before

-- a hash at the upper end, where the place is in the left half
pub led-left : (hashes : List (List ℕ)) (place : ℕ) (top hash : List ℕ) → place < 2 ^ length hashes
    → led place top (hashes ++ hash ∷ []) ≡ inner_hash (led place top hashes) hash
led-left [] place top hash h =
    let first : place ≡ 0 = omega arith in
    ap (λ (p : ℕ). led p top (hash ∷ [])) first ∙ led-cons 0 top hash [] ∙ led-nil 0 (inner_hash top hash)
    ∙ ap (λ (t : List ℕ). inner_hash t hash) (sym (led-nil place top))
led-left (x ∷ hashes) place top hash h =
    let twice : 2 ^ suc (length hashes) ≡ 2 ^ length hashes * 2 = pow-suc 2 (length hashes) in
    let below : place / 2 < 2 ^ length hashes = omega arith in
    led-cons place top x (hashes ++ hash ∷ []) ∙ led-left hashes (place / 2) (raised place top x) hash below
    ∙ ap (λ (t : List ℕ). inner_hash t hash) (sym (led-cons place top x hashes))

-- a hash at the upper end, where the place is in the right half
pub led-right : (hashes : List (List ℕ)) (place : ℕ) (top hash : List ℕ) → place < 2 ^ length hashes
    → led (2 ^ length hashes + place) top (hashes ++ hash ∷ []) ≡ inner_hash hash (led place top hashes)
led-right [] place top hash h =
    let second : 2 ^ 0 + place ≡ 1 = omega arith in
    ap (λ (p : ℕ). led p top (hash ∷ [])) second ∙ led-cons 1 top hash [] ∙ led-nil (1 / 2) (inner_hash hash top)
    ∙ ap (λ (t : List ℕ). inner_hash hash t) (sym (led-nil place top))
led-right (x ∷ hashes) place top hash h =
    let twice : 2 ^ suc (length hashes) ≡ 2 ^ length hashes * 2 = pow-suc 2 (length hashes) in
    let below : place / 2 < 2 ^ length hashes = omega arith in
    let halved : (2 ^ suc (length hashes) + place) / 2 ≡ 2 ^ length hashes + place / 2 = omega arith in
    let same_side : (2 ^ suc (length hashes) + place) % 2 ≡ place % 2 = omega arith in
    led-cons (2 ^ suc (length hashes) + place) top x (hashes ++ hash ∷ [])
    ∙ ap₂ (λ (p s : ℕ). led p (if s == 0 then inner_hash top x else inner_hash x top) (hashes ++ hash ∷ [])) halved same_side
    ∙ led-right hashes (place / 2) (raised place top x) hash below
    ∙ ap (λ (t : List ℕ). inner_hash hash t) (sym (led-cons place top x hashes))

-- a hash at the upper end, where the place is in the left half, with a depth for the number of hashes
pub led-left-power : (hashes : List (List ℕ)) (d place : ℕ) (top hash : List ℕ) → length hashes ≡ d → place < 2 ^ d
    → led place top (hashes ++ hash ∷ []) ≡ inner_hash (led place top hashes) hash
led-left-power hashes d place top hash count h =
    let power : 2 ^ length hashes ≡ 2 ^ d = ap (λ (k : ℕ). 2 ^ k) count in
    led-left hashes place top hash (omega arith)

-- a hash at the upper end, where the place is in the right half, with a depth for the number of hashes
pub led-right-power : (hashes : List (List ℕ)) (d place : ℕ) (top hash : List ℕ) → length hashes ≡ d → place < 2 ^ d
    → led (2 ^ d + place) top (hashes ++ hash ∷ []) ≡ inner_hash hash (led place top hashes)
led-right-power hashes d place top hash count h =
    let power : 2 ^ length hashes ≡ 2 ^ d = ap (λ (k : ℕ). 2 ^ k) count in
    ap (λ (k : ℕ). led (k + place) top (hashes ++ hash ∷ [])) (sym power) ∙ led-right hashes place top hash (omega arith)

-- the hashes from a place lead to the root
pub led-path_of : (depth : ℕ) (digests : List Digest) (place : ℕ) (e : Digest) → place < 2 ^ depth → length digests ≡ 2 ^ depth
    → led place (leaf_hash (get_or digests place e)) (path_of depth digests place) ≡ merkle_root depth digests
unfolding path_of
led-path_of zero digests place e h power =
    let first : place ≡ 0 = omega arith in
    led-nil place (leaf_hash (get_or digests place e)) ∙ ap (λ (p : ℕ). leaf_hash (get_or digests p e)) first
    ∙ merkle_root-zero digests e power
led-path_of (suc d) digests place e h power =
    let twice : 2 ^ suc d ≡ 2 ^ d * 2 = pow-suc 2 d in
    let l : List Digest = take (2 ^ d) digests in
    let r : List Digest = drop (2 ^ d) digests in
    let left_power : length l ≡ 2 ^ d = omega (arith, length-take (2 ^ d) digests) in
    let right_power : length r ≡ 2 ^ d = omega (arith, length-drop (2 ^ d) digests) in
    elim (cases_lt place (2 ^ d)) [
      | inl low ↦
          ap₂ (λ (x : Digest) (p : List (List ℕ)). led place (leaf_hash x) p) (sym (get_or-take (2 ^ d) digests place e low)) (path_of-low d digests place low)
          ∙ led-left-power (path_of d l place) d place (leaf_hash (get_or l place e)) (merkle_root d r) (length-path_of d l place) low
          ∙ ap (λ (t : List ℕ). inner_hash t (merkle_root d r)) (led-path_of d l place e low left_power)
          ∙ sym (merkle_root-suc d digests)
      | inr high ↦
          let p : ℕ = place - 2 ^ d in
          let whole : 2 ^ d + p ≡ place = omega arith in
          let within : p < 2 ^ d = omega arith in
          ap₂ (λ (x : Digest) (q : List (List ℕ)). led place (leaf_hash x) q)
          (ap (λ (k : ℕ). get_or digests k e) (sym whole) ∙ sym (get_or-drop (2 ^ d) digests p e)) (path_of-high d digests place high)
          ∙ ap (λ (k : ℕ). led k (leaf_hash (get_or r p e)) (path_of d r p ++ merkle_root d l ∷ [])) (sym whole)
          ∙ led-right-power (path_of d r p) d p (leaf_hash (get_or r p e)) (merkle_root d l) (length-path_of d r p) within
          ∙ ap (λ (t : List ℕ). inner_hash (merkle_root d l) t) (led-path_of d r p e within right_power)
          ∙ sym (merkle_root-suc d digests)
    ]
