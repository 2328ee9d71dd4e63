-- Neighbors among openings under one root.
use Rattle.std.proofs.Common.{◌≡◌, ◌∙◌, ℕ, zero, suc, ◌+◌, ◌-◌, ◌<◌, ◌≤◌, List, [], ◌∷◌, length, take, get_or, true, false, Option, Some, None, refl, sym, ap, subst, arith}
use Rattle.std.specs.Prelude.{MatchOption}
use Rattle.std.specs.List.{AllByRecursion, Contains}
use Rattle.std.specs.Option.{is_some}
use Rattle.std.proofs.lemmas.Bool.{true≢false}
use Rattle.std.proofs.lemmas.Slice.Eq.{bytes_eq-Decides}
use Rattle.namespace_id.specs.declared.digests.Digest.{Digest}
use Rattle.nmt_proofs.specs.Parts.{digest_of}
use Rattle.nmt_proofs.specs.Clashes.{clash_at}
use Rattle.nmt_proofs.specs.Merging.{Branch, branch_tree, HoldsFrom, HoldsAlong, BranchesAgree, IsBranch}
use Rattle.hash_clash.specs.Collisions.{Strings, strings_in}
use Rattle.befp_verify.specs.declared.compacting.Placed.{Placed}
use Rattle.befp_verify.specs.Placed.{placed_of, placed_branches, NamesTwoOf}

-- a fact of each branch holds of one
pub placed_at : (P : Branch → Type 0) (ps : List Placed) (i : ℕ) (p : Placed) → i < length ps → p ≡ get_or ps i p → AllByRecursion P (placed_branches ps) → P (placed_of p)
placed_at P ps i p h is all = subst (λ (x : Placed). P (placed_of x)) (sym is) (holds ps i h all)
  where
    holds : (qs : List Placed) (j : ℕ) → j < length qs → AllByRecursion P (placed_branches qs) → P (placed_of (get_or qs j p))
    holds [] j h all = absurd (omega arith)
    holds (q ∷ qs) zero h all = all.0
    holds (q ∷ qs) (suc j) h all = holds qs j (omega arith) all.1

-- it is among them
pub contains_at : (ps : List Placed) (i : ℕ) (p : Placed) → i < length ps → p ≡ get_or ps i p → Contains (placed_branches ps) (placed_of p)
contains_at ps i p h is = (i, long ps i h, at ps i h ∙ ap placed_of (sym is))
  where
    long : (qs : List Placed) (j : ℕ) → j < length qs → j < length (placed_branches qs)
    long [] j h = absurd (omega arith)
    long (q ∷ qs) zero h = omega arith
    long (q ∷ qs) (suc j) h = let rest = long qs j (omega arith) in omega (arith, rest)

    at : (qs : List Placed) (j : ℕ) → j < length qs → get_or (placed_branches qs) j (placed_of p) ≡ placed_of (get_or qs j p)
    at [] j h = absurd (omega arith)
    at (q ∷ qs) zero h = refl
    at (q ∷ qs) (suc j) h = at qs j (omega arith)

-- two of them have one digest
pub one_root : (d : ℕ) (bs : List Branch) (x y : Branch) → (root : Digest) → IsBranch d root x → IsBranch d root y → digest_of (branch_tree d x) ≡ digest_of (branch_tree d y)
one_root d bs x y root hx hy =
    ap (λ (bytes : List ℕ). record { 0 = bytes }) ((bytes_eq-Decides (digest_of (branch_tree d x)).0 root.0).0 hx.opens.value)
    ∙ sym (ap (λ (bytes : List ℕ). record { 0 = bytes }) ((bytes_eq-Decides (digest_of (branch_tree d y)).0 root.0).0 hy.opens.value))

-- what was found is named by two of them
pub some_named : (d : ℕ) (bs : List Branch) (x y : Branch) (found : Option Strings) → Contains bs x → Contains bs y → strings_in found ≡ clash_at (branch_tree d x) (branch_tree d y)
    → is_some found ≡ true → MatchOption found (HoldsAlong (BranchesAgree d) bs) (NamesTwoOf d bs)
some_named d bs x y None hx hy e some = absurd (true≢false (sym some))
some_named d bs x y (Some clash) hx hy e some = record { left = x; right = y; left_in = hx; right_in = hy; found = sym e }

-- where nothing was found they are alike
pub none_named : (d : ℕ) (x y : Branch) (found : Option Strings) → strings_in found ≡ clash_at (branch_tree d x) (branch_tree d y) → is_some found ≡ false → BranchesAgree d x y
none_named d x y None e none = sym e
none_named d x y (Some clash) e none = absurd (true≢false none)

from_more : {A : Type 0} (R : A → A → Type 0) (w : A) (ys : List A) (i : ℕ) (d : A) → i < length ys → HoldsFrom R w (take i ys) → R (get_or (w ∷ ys) i d) (get_or ys i d)
    → HoldsFrom R w (take (suc i) ys)
from_more R w [] i d h so_far next = absurd (omega arith)
from_more R w (y ∷ ys) zero d h so_far next = (next, tt)
from_more R w (y ∷ ys) (suc i) d h so_far next = (so_far.0, from_more R y ys i d (omega arith) so_far.1 next)

-- one more element of a list along which a relation holds
pub along_next : {A : Type 0} (R : A → A → Type 0) (xs : List A) (i : ℕ) (d : A) → 1 ≤ i → i < length xs → HoldsAlong R (take i xs) → R (get_or xs (i - 1) d) (get_or xs i d)
    → HoldsAlong R (take (i + 1) xs)
along_next R [] i d low high so_far next = absurd (omega arith)
along_next R (w ∷ ys) zero d low high so_far next = absurd (omega arith)
along_next R (w ∷ ys) (suc j) d low high so_far next =
    let more : suc (suc j) ≡ suc j + 1 = omega arith in
    let same : suc j - 1 ≡ j = omega arith in
    subst (λ (n : ℕ). HoldsAlong R (take n (w ∷ ys))) more
    (from_more R w ys j d (omega arith) so_far (subst (λ (n : ℕ). R (get_or (w ∷ ys) n d) (get_or ys j d)) same next))

-- what stands among branches at a place
pub branch_at : (ps : List Placed) (i : ℕ) (p : Placed) (d : Branch) → i < length ps → p ≡ get_or ps i p → placed_of p ≡ get_or (placed_branches ps) i d
branch_at ps i p d h is = ap placed_of is ∙ at ps i h
  where
    at : (qs : List Placed) (j : ℕ) → j < length qs → placed_of (get_or qs j p) ≡ get_or (placed_branches qs) j d
    at [] j h = absurd (omega arith)
    at (q ∷ qs) zero h = refl
    at (q ∷ qs) (suc j) h = at qs j (omega arith)
