-- Two plain trees with one hash: at some place both have a string, and these are a collision, or they agree.
use Rattle.std.proofs.Common.{◌≡◌, ◌⊎◌, ◌∙◌, ℕ, zero, suc, ◌+◌, ◌*◌, ◌/◌, ◌%◌, ◌^◌, ◌<◌, ◌≤◌, ◌==◌, List, [], ◌∷◌, ◌++◌, length, take, drop, get_or, Bool, true, false, cond, Some, refl, sym, ap, ap₂, subst, inl, inr, arith, length-drop}
use Rattle.std.specs.List.{AllByRecursion}
use Rattle.std.specs.Str.{bytes_eq}
use Rattle.std.proofs.lemmas.Bool.{cases_Bool, cases_lt, true≢false, eq-eqb, eqb-true}
use Rattle.std.proofs.lemmas.List.{length-take-le, drop-drop, take-take, drop-take}
use Rattle.std.proofs.lemmas.Slice.Eq.{bytes_eq-Decides}
use Rattle.std.proofs.Math.Nat.{pow-suc, mul_comm, mul_assoc}
use Rattle.sha2.specs.Sha256.{sha256}
use Rattle.namespace_id.specs.declared.digests.Digest.{Digest}
use Rattle.namespace_id.specs.Bytes.{IsString, AreBytes}
use Rattle.namespace_id.specs.Digests.{IsDigest, AreDigests, no_digest}
use Rattle.namespace_id.proofs.StringLemmas.{AreBytes-cons, AreBytes-append}
use Rattle.nmt_proofs.specs.Clashes.{IsClash}
use Rattle.nmt_proofs.proofs.Parts.ListLemmas.{each-take, each-drop}
use Rattle.nmt_proofs.proofs.Parts.DigestLemmas.{append_parts, string-sha256, same_digest}
use Rattle.data_header.specs.DataRoots.{leaf_hash, inner_hash, merkle_root, led}
use Rattle.blob_commit.specs.DataTrees.{Plain, known, ending, fork, hash_of, hashed_text, plain_text_at, climbed, full}
use Rattle.blob_commit.proofs.RowCutLemmas.{add_times}

-- the hashes and digests in a tree have their lengths
abbrev pub IsSized : Plain → Type 0
IsSized (known hash) = IsString 32 hash
IsSized (ending digest) = IsDigest digest
IsSized (fork left right) = IsSized left × IsSized right

-- two trees are the same wherever both show something, and a hash that one knows is the other's
abbrev pub Agree : Plain → Plain → Type 0
Agree (known h) q = h ≡ hash_of q
Agree (ending d) (known h) = leaf_hash d ≡ h
Agree (ending d) (ending e) = d ≡ e
Agree (ending d) (fork u v) = ⊥
Agree (fork l r) (known h) = hash_of (fork l r) ≡ h
Agree (fork l r) (ending e) = ⊥
Agree (fork l r) (fork u v) = Agree l u × Agree r v

-- at some place both have a string, and these are a collision
pub record Clashes (p q : Plain) : Type 0 where
  pub turns : List Bool
  pub left : List ℕ
  pub right : List ℕ
  pub left_at : plain_text_at turns p ≡ Some left
  pub right_at : plain_text_at turns q ≡ Some right
  pub clash : IsClash left right

-- the hash of a sized tree is one
pub hash-sized : (p : Plain) → IsSized p → IsString 32 (hash_of p)
unfolding leaf_hash inner_hash
hash-sized (known h) s = s
hash-sized (ending d) s = string-sha256 (0 ∷ d.0)
hash-sized (fork l r) s = string-sha256 (1 ∷ hash_of l ++ hash_of r)

-- the strings are byte strings
leaf-bytes : (d : Digest) → IsDigest d → AreBytes (0 ∷ d.0)
leaf-bytes d h = AreBytes-cons 0 d.0 (omega arith) h.fits

fork-bytes : (a b : List ℕ) → IsString 32 a → IsString 32 b → AreBytes (1 ∷ a ++ b)
fork-bytes a b h g = AreBytes-cons 1 (a ++ b) (omega arith) (AreBytes-append a b h.fits g.fits)

-- two strings with one hash are equal, or a collision
equal_or : (a b : List ℕ) → AreBytes a → AreBytes b → sha256 a ≡ sha256 b → (a ≡ b) ⊎ IsClash a b
equal_or a b h g e = elim (cases_Bool (bytes_eq a b)) [
  | inl t ↦ inl ((bytes_eq-Decides a b).0 t)
  | inr f ↦ inr (record { left_bytes = h; right_bytes = g; apart = λ same. true≢false (sym ((bytes_eq-Decides a b).1 same) ∙ f); digest = e })
]

-- the collision of two roots
here : (p q : Plain) (a b : List ℕ) → hashed_text p ≡ Some a → hashed_text q ≡ Some b → IsClash a b → Clashes p q
here p q a b e f clash = record { turns = []; left = a; right = b; left_at = e; right_at = f; clash = clash }

-- strings with different first bytes are no equal strings
apart : (a b : List ℕ) → 0 ∷ a ≡ 1 ∷ b → ⊥
apart a b e = absurd cc

-- one that is further down
below_left : (l r u v : Plain) → Clashes l u → Clashes (fork l r) (fork u v)
below_left l r u v c = record { turns = false ∷ c.turns; left = c.left; right = c.right; left_at = c.left_at; right_at = c.right_at; clash = c.clash }

below_right : (l r u v : Plain) → Clashes r v → Clashes (fork l r) (fork u v)
below_right l r u v c = record { turns = true ∷ c.turns; left = c.left; right = c.right; left_at = c.left_at; right_at = c.right_at; clash = c.clash }

-- two trees with one hash agree, or they have a collision at some place
pub agree_or : (p q : Plain) → IsSized p → IsSized q → hash_of p ≡ hash_of q → Agree p q ⊎ Clashes p q
unfolding leaf_hash inner_hash
agree_or (known h) q s t e = inl e
agree_or (ending d) (known h) s t e = inl e
agree_or (ending d) (ending f) s t e = elim (equal_or (0 ∷ d.0) (0 ∷ f.0) (leaf-bytes d s) (leaf-bytes f t) e) [
  | inl same ↦ inl (same_digest d f (let tail : d.0 ≡ f.0 = cc in tail))
  | inr clash ↦ inr (here (ending d) (ending f) (0 ∷ d.0) (0 ∷ f.0) refl refl clash)
]
agree_or (ending d) (fork u v) s t e =
    let b : List ℕ = hash_of u ++ hash_of v in
    elim (equal_or (0 ∷ d.0) (1 ∷ b) (leaf-bytes d s) (fork-bytes (hash_of u) (hash_of v) (hash-sized u t.0) (hash-sized v t.1)) e) [
      | inl same ↦ absurd (apart d.0 b same)
      | inr clash ↦ inr (here (ending d) (fork u v) (0 ∷ d.0) (1 ∷ b) refl refl clash)
    ]
agree_or (fork l r) (known h) s t e = inl e
agree_or (fork l r) (ending f) s t e =
    let a : List ℕ = hash_of l ++ hash_of r in
    elim (equal_or (1 ∷ a) (0 ∷ f.0) (fork-bytes (hash_of l) (hash_of r) (hash-sized l s.0) (hash-sized r s.1)) (leaf-bytes f t) e) [
      | inl same ↦ absurd (apart f.0 a (sym same))
      | inr clash ↦ inr (here (fork l r) (ending f) (1 ∷ a) (0 ∷ f.0) refl refl clash)
    ]
agree_or (fork l r) (fork u v) s t e =
    let a : List ℕ = hash_of l ++ hash_of r in
    let b : List ℕ = hash_of u ++ hash_of v in
    let hl = hash-sized l s.0 in
    let hr = hash-sized r s.1 in
    let hu = hash-sized u t.0 in
    let hv = hash-sized v t.1 in
    elim (equal_or (1 ∷ a) (1 ∷ b) (fork-bytes (hash_of l) (hash_of r) hl hr) (fork-bytes (hash_of u) (hash_of v) hu hv) e) [
      | inl same ↦
          let tail : a ≡ b = cc in
          let both = append_parts (hash_of l) (hash_of r) (hash_of u) (hash_of v) (hl.size_is ∙ sym hu.size_is) tail in
          elim (agree_or l u s.0 t.0 both.0) [
            | inl x ↦ elim (agree_or r v s.1 t.1 both.1) [
              | inl y ↦ inl (x, y)
              | inr c ↦ inr (below_right l r u v c)
            ]
            | inr c ↦ inr (below_left l r u v c)
          ]
      | inr clash ↦ inr (here (fork l r) (fork u v) (1 ∷ a) (1 ∷ b) refl refl clash)
    ]

-- ---- trees of paths

-- the hash that is led to is that of the tree that is climbed
pub hash-climbed : (place : ℕ) (tree : Plain) (hashes : List (List ℕ)) → hash_of (climbed place tree hashes) ≡ led place (hash_of tree) hashes
unfolding climbed led
hash-climbed place tree [] = refl
hash-climbed place tree (h ∷ hashes) = elim (cases_Bool (place % 2 == 0)) [
  | inl t ↦
      ap (λ (b : Bool). hash_of (climbed (place / 2) (cond b (fork tree (known h)) (fork (known h) tree)) hashes)) t
      ∙ hash-climbed (place / 2) (fork tree (known h)) hashes
      ∙ sym (ap (λ (b : Bool). led (place / 2) (cond b (inner_hash (hash_of tree) h) (inner_hash h (hash_of tree))) hashes) t)
  | inr f ↦
      ap (λ (b : Bool). hash_of (climbed (place / 2) (cond b (fork tree (known h)) (fork (known h) tree)) hashes)) f
      ∙ hash-climbed (place / 2) (fork (known h) tree) hashes
      ∙ sym (ap (λ (b : Bool). led (place / 2) (cond b (inner_hash (hash_of tree) h) (inner_hash h (hash_of tree))) hashes) f)
]

-- it is sized
pub climbed-sized : (place : ℕ) (tree : Plain) (hashes : List (List ℕ)) → IsSized tree → AllByRecursion (IsString 32) hashes → IsSized (climbed place tree hashes)
unfolding climbed
climbed-sized place tree [] s h = s
climbed-sized place tree (x ∷ hashes) s h = elim (cases_Bool (place % 2 == 0)) [
  | inl t ↦
      subst (λ (b : Bool). IsSized (climbed (place / 2) (cond b (fork tree (known x)) (fork (known x) tree)) hashes)) (sym t) (climbed-sized (place / 2) (fork tree (known x)) hashes (s, h.0) h.1)
  | inr f ↦
      subst (λ (b : Bool). IsSized (climbed (place / 2) (cond b (fork tree (known x)) (fork (known x) tree)) hashes)) (sym f) (climbed-sized (place / 2) (fork (known x) tree) hashes (h.0, s) h.1)
]

-- a leaf stands at a depth
abbrev pub EndsAt : ℕ → Plain → Type 0
EndsAt n (known h) = ⊥
EndsAt zero (ending d) = Unit {0}
EndsAt (suc n) (ending d) = ⊥
EndsAt zero (fork l r) = ⊥
EndsAt (suc n) (fork l r) = EndsAt n l ⊎ EndsAt n r

next : (n m : ℕ) → suc n + m ≡ n + suc m
next n m = omega arith

-- what is climbed has the leaf as much deeper as there are hashes
pub ends-climbed : (n place : ℕ) (tree : Plain) (hashes : List (List ℕ)) → EndsAt n tree → EndsAt (n + length hashes) (climbed place tree hashes)
unfolding climbed
ends-climbed n place tree [] h = let same : n ≡ n + 0 = omega arith in subst (λ (k : ℕ). EndsAt k tree) same h
ends-climbed n place tree (x ∷ hashes) h = elim (cases_Bool (place % 2 == 0)) [
  | inl t ↦
      subst (λ (b : Bool). EndsAt (n + suc (length hashes)) (climbed (place / 2) (cond b (fork tree (known x)) (fork (known x) tree)) hashes)) (sym t)
      (subst (λ (k : ℕ). EndsAt k (climbed (place / 2) (fork tree (known x)) hashes)) (next n (length hashes)) (ends-climbed (suc n) (place / 2) (fork tree (known x)) hashes (inl h)))
  | inr f ↦
      subst (λ (b : Bool). EndsAt (n + suc (length hashes)) (climbed (place / 2) (cond b (fork tree (known x)) (fork (known x) tree)) hashes)) (sym f)
      (subst (λ (k : ℕ). EndsAt k (climbed (place / 2) (fork (known x) tree) hashes)) (next n (length hashes)) (ends-climbed (suc n) (place / 2) (fork (known x) tree) hashes (inr h)))
]

-- nothing is only known by its hash
abbrev pub IsOpen : Plain → Type 0
IsOpen (known h) = ⊥
IsOpen (ending d) = Unit {0}
IsOpen (fork l r) = IsOpen l × IsOpen r

-- where two agree, the one that is open has leaves where the other has
pub ends-agree : (n : ℕ) (p q : Plain) → IsOpen q → Agree p q → EndsAt n p → EndsAt n q
ends-agree n (known h) q o a e = elim e [ ]
ends-agree n (ending d) (known h) o a e = elim o [ ]
ends-agree zero (ending d) (ending f) o a e = tt
ends-agree (suc n) (ending d) (ending f) o a e = elim e [ ]
ends-agree n (ending d) (fork u v) o a e = elim a [ ]
ends-agree n (fork l r) (known h) o a e = elim o [ ]
ends-agree n (fork l r) (ending f) o a e = elim a [ ]
ends-agree zero (fork l r) (fork u v) o a e = elim e [ ]
ends-agree (suc n) (fork l r) (fork u v) o a (inl e) = inl (ends-agree n l u o.0 a.0 e)
ends-agree (suc n) (fork l r) (fork u v) o a (inr e) = inr (ends-agree n r v o.1 a.1 e)

-- ---- the tree over digests

pub hash-full : (d : ℕ) (digests : List Digest) → hash_of (full d digests) ≡ merkle_root d digests
unfolding full merkle_root
hash-full zero [] = refl
hash-full zero (x ∷ digests) = refl
hash-full (suc d) digests = ap₂ inner_hash (hash-full d (take (2 ^ d) digests)) (hash-full d (drop (2 ^ d) digests))

-- it is open
pub open-full : (d : ℕ) (digests : List Digest) → length digests ≡ 2 ^ d → IsOpen (full d digests)
unfolding full
open-full zero [] h = absurd (omega (arith, h))
open-full zero (x ∷ digests) h = tt
open-full (suc d) digests h = (
  open-full d (take (2 ^ d) digests) (length-take-le (2 ^ d) digests (omega (arith, pow-suc 2 d, h))),
  open-full d (drop (2 ^ d) digests) (omega (arith, pow-suc 2 d, h, length-drop (2 ^ d) digests)),
)

-- and sized
pub sized-full : (d : ℕ) (digests : List Digest) → length digests ≡ 2 ^ d → AreDigests digests → IsSized (full d digests)
unfolding full
sized-full zero [] h s = absurd (omega (arith, h))
sized-full zero (x ∷ digests) h s = s.0
sized-full (suc d) digests h s = (
  sized-full d (take (2 ^ d) digests) (length-take-le (2 ^ d) digests (omega (arith, pow-suc 2 d, h))) (each-take IsDigest (2 ^ d) digests s),
  sized-full d (drop (2 ^ d) digests) (omega (arith, pow-suc 2 d, h, length-drop (2 ^ d) digests)) (each-drop IsDigest (2 ^ d) digests s),
)

-- its leaves all stand at one depth
pub ends-full : (n d : ℕ) (digests : List Digest) → EndsAt n (full d digests) → n ≡ d
unfolding full
ends-full n zero [] e = elim e [ ]
ends-full zero zero (x ∷ digests) e = refl
ends-full (suc n) zero (x ∷ digests) e = elim e [ ]
ends-full zero (suc d) digests e = elim e [ ]
ends-full (suc n) (suc d) digests (inl e) = ap suc (ends-full n d (take (2 ^ d) digests) e)
ends-full (suc n) (suc d) digests (inr e) = ap suc (ends-full n d (drop (2 ^ d) digests) e)

-- the digests behind it play no part
pub full-take : (d : ℕ) (digests : List Digest) → full d (take (2 ^ d) digests) ≡ full d digests
unfolding full
full-take zero [] = refl
full-take zero (x ∷ digests) = refl
full-take (suc d) digests =
    let size : ℕ = 2 ^ d in
    let twice : 2 ^ suc d ≡ size + size = omega (arith, pow-suc 2 d) in
    let within : size ≤ 2 ^ suc d = omega (arith, twice) in
    let back : drop size (take (2 ^ suc d) digests) ≡ take size (drop size digests) = ap (λ (k : ℕ). drop size (take k digests)) twice ∙ drop-take size size digests in
    ap₂ fork (ap (full d) (take-take size (2 ^ suc d) digests within)) (ap (full d) back ∙ full-take d (drop size digests))

-- the halves of the tree from a place of a list on
pub full-halved : (d st : ℕ) (digests : List Digest) → full (suc d) (drop st digests) ≡ fork (full d (drop st digests)) (full d (drop (st + 2 ^ d) digests))
unfolding full
full-halved d st digests = ap₂ fork (full-take d (drop st digests)) (ap (full d) (drop-drop (2 ^ d) st digests))

one_times : (m : ℕ) → 1 * m ≡ m
one_times m = omega arith

-- where what is climbed agrees with the tree over digests, what it began with agrees with the tree at its place
pub agree-climbed : (level place : ℕ) (tree : Plain) (hashes : List (List ℕ)) (digests : List Digest) → place < 2 ^ length hashes
    → Agree (climbed place tree hashes) (full (level + length hashes) digests) → Agree tree (full level (drop (place * 2 ^ level) digests))
unfolding climbed
agree-climbed level place tree [] digests h a =
    let first : 0 ≡ place * 2 ^ level = let none : place ≡ 0 = omega (arith, h) in let zero_times : 0 ≡ 0 * 2 ^ level = omega arith in zero_times ∙ ap (λ (p : ℕ). p * 2 ^ level) (sym none) in
    let same : level + 0 ≡ level = omega arith in
    subst (λ (k : ℕ). Agree tree (full level (drop k digests))) first (subst (λ (k : ℕ). Agree tree (full k digests)) same a)
agree-climbed level place tree (x ∷ hashes) digests h a =
    let half : ℕ = place / 2 in
    let m : ℕ = half * 2 ^ suc level in
    let twice : 2 ^ suc (length hashes) ≡ 2 ^ length hashes * 2 = pow-suc 2 (length hashes) in
    let below : half < 2 ^ length hashes = omega (arith, twice, h) in
    let deeper : level + suc (length hashes) ≡ suc level + length hashes = omega arith in
    let whole = subst (λ (k : ℕ). Agree (climbed place tree (x ∷ hashes)) (full k digests)) deeper a in
    let up : m ≡ half * 2 * 2 ^ level = ap (λ (k : ℕ). half * k) (pow-suc 2 level ∙ mul_comm (2 ^ level) 2) ∙ sym (mul_assoc half 2 (2 ^ level)) in
    elim (cases_Bool (place % 2 == 0)) [
      | inl t ↦
          let rest = agree-climbed (suc level) half (fork tree (known x)) hashes digests below
          (subst (λ (b : Bool). Agree (climbed half (cond b (fork tree (known x)) (fork (known x) tree)) hashes) (full (suc level + length hashes) digests)) t whole) in
          let both = subst (Agree (fork tree (known x))) (full-halved level m digests) rest in
          let even : half * 2 ≡ place = omega (arith, eqb-true (place % 2) 0 t) in
          subst (λ (k : ℕ). Agree tree (full level (drop k digests))) (up ∙ ap (λ (k : ℕ). k * 2 ^ level) even) both.0
      | inr f ↦
          let rest = agree-climbed (suc level) half (fork (known x) tree) hashes digests below
          (subst (λ (b : Bool). Agree (climbed half (cond b (fork tree (known x)) (fork (known x) tree)) hashes) (full (suc level + length hashes) digests)) f whole) in
          let both = subst (Agree (fork (known x) tree)) (full-halved level m digests) rest in
          let not_even : place % 2 ≡ 0 → ⊥ = λ e. absurd (let y : true ≡ false = sym (eq-eqb (place % 2) 0 e) ∙ f in cc) in
          let odd : half * 2 + 1 ≡ place = elim (cases_lt (place % 2) 1) [ inl lt ↦ absurd (not_even (omega (arith, lt))) | inr ge ↦ omega (arith, ge) ] in
          let one : (half * 2 + 1) * 2 ^ level ≡ half * 2 * 2 ^ level + 2 ^ level = add_times (half * 2) 1 (2 ^ level) ∙ ap (λ (k : ℕ). half * 2 * 2 ^ level + k) (one_times (2 ^ level)) in
          subst (λ (k : ℕ). Agree tree (full level (drop k digests))) (ap (λ (k : ℕ). k + 2 ^ level) up ∙ sym one ∙ ap (λ (k : ℕ). k * 2 ^ level) odd) both.1
    ]

-- a leaf that agrees with the tree of one place is the digest there
pub ending-at : (place : ℕ) (digests : List Digest) (d : Digest) → place < length digests → Agree (ending d) (full 0 (drop place digests)) → d ≡ get_or digests place no_digest
unfolding full
ending-at place [] d h a = absurd (omega (arith, h))
ending-at zero (x ∷ digests) d h a = a
ending-at (suc place) (x ∷ digests) d h a = ending-at place digests d (omega (arith, h)) a
