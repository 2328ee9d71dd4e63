-- Where an axis root stands in the data tree of a header.
use Rattle.std.proofs.Common.{◌≡◌, ◌∙◌, ℕ, zero, suc, ◌+◌, ◌-◌, ◌*◌, ◌^◌, ◌<◌, nat_lt, List, [], ◌∷◌, ◌++◌, length, take, drop, get_or, Bool, true, false, cond, Some, sym, ap, arith, inl, inr, length-drop, length-append}
use Rattle.std.proofs.lemmas.Bool.{cases_lt}
use Rattle.std.proofs.lemmas.Bool.Decides.{nat_tests}
use Rattle.std.proofs.lemmas.List.{length-take-le, get_or-take, get_or-drop}
use Rattle.std.proofs.Math.Nat.{pow-suc}
use Rattle.namespace_id.specs.declared.cells.Axis.{Axis}
use Rattle.namespace_id.specs.declared.digests.Digest.{Digest}
use Rattle.namespace_id.specs.Digests.{no_digest}
use Rattle.data_header.specs.Headers.{Roots, AreRoots, root_of}
use Rattle.data_header.specs.DataRoots.{root_halvings, root_place}
use Rattle.blob_commit.specs.DataTrees.{full, plain_text_at, turns_to}
use Rattle.blob_commit.specs.Places.{turns_for}
use Rattle.blob_commit.proofs.HeaderLemmas.{power_width, place-lt, root-at}

-- the string over a digest
abbrev pub over_digest : Digest → List ℕ
over_digest digest = 0 ∷ digest.0

-- at the end of the turns to a place stands the leaf over the digest of this place
pub leaf_at : (depth : ℕ) (digests : List Digest) (place : ℕ) → length digests ≡ 2 ^ depth → place < 2 ^ depth
    → plain_text_at (turns_to depth place) (full depth digests) ≡ Some (over_digest (get_or digests place no_digest))
unfolding turns_to full
leaf_at zero [] place count lt = absurd (omega (arith, count))
leaf_at zero (digest ∷ digests) place count lt =
    let first : place ≡ 0 = omega (arith, lt) in
    ap (λ (p : ℕ). Some (over_digest (get_or (digest ∷ digests) p no_digest))) (sym first)
leaf_at (suc d) digests place count lt =
    let two : 2 ^ suc d ≡ 2 ^ d * 2 = pow-suc 2 d in
    elim (cases_lt place (2 ^ d)) [
      | inl low ↦
          let test : nat_lt place (2 ^ d) ≡ true = grind (arith, nat_tests) in
          ap (λ (b : Bool). plain_text_at (cond b (false ∷ turns_to d place) (true ∷ turns_to d (place - 2 ^ d))) (full (suc d) digests)) test
          ∙ leaf_at d (take (2 ^ d) digests) place (length-take-le (2 ^ d) digests (omega (arith, count, two))) low
          ∙ ap (λ (x : Digest). Some (over_digest x)) (get_or-take (2 ^ d) digests place no_digest low)
      | inr high ↦
          let test : nat_lt place (2 ^ d) ≡ false = grind (arith, nat_tests) in
          let back : length (drop (2 ^ d) digests) ≡ 2 ^ d = omega (arith, length-drop (2 ^ d) digests, count, two) in
          let here : 2 ^ d + (place - 2 ^ d) ≡ place = omega (arith, high) in
          ap (λ (b : Bool). plain_text_at (cond b (false ∷ turns_to d place) (true ∷ turns_to d (place - 2 ^ d))) (full (suc d) digests)) test
          ∙ leaf_at d (drop (2 ^ d) digests) (place - 2 ^ d) back (omega (arith, lt, two, high))
          ∙ ap (λ (x : Digest). Some (over_digest x))
          (get_or-drop (2 ^ d) digests (place - 2 ^ d) no_digest ∙ ap (λ (p : ℕ). get_or digests p no_digest) here)
    ]

-- at the end of the turns for an axis stands the leaf over its root
pub axis_leaf : (header : Roots) → AreRoots header → (axis : Axis) (index : ℕ) → index < 2 * header.k
    → plain_text_at (turns_for header.k axis index) (full (root_halvings header.k) (header.rows ++ header.cols)) ≡ Some (0 ∷ (root_of header axis index).0)
axis_leaf header are axis index lt =
    let whole : 4 * header.k ≡ 2 ^ root_halvings header.k = power_width header.k are.width in
    let count : length (header.rows ++ header.cols) ≡ 2 ^ root_halvings header.k =
    omega (arith, length-append header.rows header.cols, are.rows, are.cols, whole) in
    leaf_at (root_halvings header.k) (header.rows ++ header.cols) (root_place header.k axis index) count
    (omega (arith, place-lt header.k axis index lt, whole))
    ∙ ap (λ (x : Digest). Some (over_digest x)) (root-at header axis index are.rows lt)
