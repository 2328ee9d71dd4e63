-- Facts of each element of a list.
use Rattle.std.proofs.Common.{◌≡◌, ◌⊎◌, suc, List, [], ◌∷◌, refl, inl, inr, arith, subst, ⊎_elim}
use Rattle.std.specs.List.{AllByRecursion, Contains}
use Rattle.namespace_id.proofs.MemberLemmas.{contains_cons, contains_none}

-- a fact of each element follows from two others
pub each_from : {A : Type 0} (P Q R : A → Type 0) → ((x : A) → P x → Q x → R x) → (xs : List A) → AllByRecursion P xs → AllByRecursion Q xs
    → AllByRecursion R xs
each_from P Q R step [] p q = tt
each_from P Q R step (x ∷ xs) p q = (step x p.0 q.0, each_from P Q R step xs p.1 q.1)

-- an element of a list's rest is one of the list
one_later : {A : Type 0} (Q : A → Type 0) (first : A) (xs : List A) → ((x : A) × Contains xs x × Q x) → (x : A) × Contains (first ∷ xs) x × Q x
one_later Q first xs found = (found.0, (suc found.1.0, omega (arith, found.1.1), found.1.2), found.2)

-- where one of two facts holds of each element, the first holds of all, or the second of one
pub each_or_one : {A : Type 0} (P Q : A → Type 0) (xs : List A) → AllByRecursion (λ x. P x ⊎ Q x) xs
    → AllByRecursion P xs ⊎ ((x : A) × Contains xs x × Q x)
each_or_one P Q [] h = inl tt
each_or_one P Q (x ∷ xs) h = elim h.0 [
  | inl p ↦ elim (each_or_one P Q xs h.1) [
    | inl ps ↦ inl (p, ps)
    | inr found ↦ inr (one_later Q x xs found)
  ]
  | inr q ↦ inr (x, (0, omega arith, refl), q)
]

-- a fact of each element holds of one
pub each_of : {A : Type 0} (P : A → Type 0) (xs : List A) (x : A) → AllByRecursion P xs → Contains xs x → P x
each_of P [] x h at = absurd (contains_none x at)
each_of P (y ∷ ys) x h at =
    ⊎_elim (λ (same : y ≡ x). subst P same h.0) (λ later. each_of P ys x h.1 later) (contains_cons y x ys at)
