-- What a run of a network was before its last step.
use Rattle.std.proofs.Common.{◌≡◌, List, [], ◌∷◌, ◌++◌, refl, sym, ap₂, subst}
use Rattle.da_net.specs.declared.items.Item.{Item}
use Rattle.da_net.specs.declared.items.Item.TheVariants as item
use Rattle.da_net.specs.declared.items.Kept.{Kept}
use Rattle.da_net.specs.declared.items.Kept.TheVariants as kept
use Rattle.axis_roots.specs.Claims.{ClaimParts}
use Rattle.da_net.specs.Networks.{NodeKind, Network, rejecting, NodeMayStand, handed, IsRun, start, put, hand, publish}

-- ---- lists with one element more

-- none is empty
pushed_none : {A : Type 0} (xs : List A) (x : A) → xs ++ x ∷ [] ≡ [] → ⊥
pushed_none [] x e = cc
pushed_none (y ∷ xs) x e = cc

-- two that are the same have the same element more than the same list
pub pushed_parts : {A : Type 0} (xs ys : List A) (x y : A) → xs ++ x ∷ [] ≡ ys ++ y ∷ [] → (xs ≡ ys) × (x ≡ y)
pushed_parts [] [] x y e = let same : x ≡ y = cc in (refl, same)
pushed_parts [] (b ∷ ys) x y e = let none : ys ++ y ∷ [] ≡ [] = cc in absurd (pushed_none ys y none)
pushed_parts (a ∷ xs) [] x y e = let none : xs ++ x ∷ [] ≡ [] = cc in absurd (pushed_none xs x none)
pushed_parts (a ∷ xs) (b ∷ ys) x y e =
    let head : a ≡ b = cc in
    let rest : xs ++ x ∷ [] ≡ ys ++ y ∷ [] = cc in
    let parts = pushed_parts xs ys x y rest in (ap₂ (λ z zs. z ∷ zs) head parts.0, parts.1)

-- ---- runs

-- a run as it was before this last step, by its pool and its steps before
abbrev pub Before : Network → List Item → List Kept → Kept → Type 0
Before net pool steps kept.Put = (old : List Item) × (one : Item) × (pool ≡ old ++ one ∷ []) × IsRun net old steps
Before net pool steps (kept.Hand place node) = IsRun net pool steps
Before net pool steps (kept.Publish node) =
    (old : List Item) × (kind : NodeKind) × (claim : ClaimParts) × (pool ≡ old ++ item.Claim claim ∷ []) × IsRun net old steps
    × NodeMayStand net.header kind (handed old steps node) (rejecting claim)

-- each run of a step more was such a run
pub before_last : (net : Network) (pool : List Item) (all : List Kept) → IsRun net pool all → (steps : List Kept) (last : Kept) → all ≡ steps ++ last ∷ []
    → Before net pool steps last
before_last net _ _ start steps last e = absurd (pushed_none steps last (sym e))
before_last net _ _ (put old done one run is) steps last e =
    let parts = pushed_parts done steps kept.Put last e in
    subst (λ (k : Kept). Before net (old ++ one ∷ []) steps k) parts.1
    (old, one, refl, subst (λ (s : List Kept). IsRun net old s) parts.0 run)
before_last net _ _ (hand old done place node run within is) steps last e =
    let parts = pushed_parts done steps (kept.Hand place node) last e in
    subst (λ (k : Kept). Before net old steps k) parts.1 (subst (λ (s : List Kept). IsRun net old s) parts.0 run)
before_last net _ _ (publish old done node kind claim run is stands) steps last e =
    let parts = pushed_parts done steps (kept.Publish node) last e in
    subst (λ (k : Kept). Before net (old ++ item.Claim claim ∷ []) steps k) parts.1 (
      old,
      kind,
      claim,
      refl,
      subst (λ (s : List Kept). IsRun net old s) parts.0 run,
      subst (λ (s : List Kept). NodeMayStand net.header kind (handed old s node) (rejecting claim)) parts.0 stands,
    )
