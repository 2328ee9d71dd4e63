-- Lists by their halves, and lists of one element.
use Rattle.std.proofs.Common.{◌≡◌, ◌∙◌, ℕ, zero, suc, List, [], ◌∷◌, ◌++◌, length, take, drop, get_or, sym, ap, ap₂, arith}
use Rattle.std.specs.List.{AllByRecursion}
use Rattle.std.proofs.lemmas.List.{take-append-drop}

-- a fact of each element of a list holds of each of its first ones
pub each-take : {A : Type 0} (P : A → Type 0) (n : ℕ) (xs : List A) → AllByRecursion P xs → AllByRecursion P (take n xs)
each-take P zero xs h = tt
each-take P (suc n) [] h = tt
each-take P (suc n) (x ∷ xs) h = (h.0, each-take P n xs h.1)

-- and of each one behind those
pub each-drop : {A : Type 0} (P : A → Type 0) (n : ℕ) (xs : List A) → AllByRecursion P xs → AllByRecursion P (drop n xs)
each-drop P zero xs h = h
each-drop P (suc n) [] h = tt
each-drop P (suc n) (x ∷ xs) h = each-drop P n xs h.1

-- a fact of each element of two lists holds of each of both together
pub each-append : {A : Type 0} (P : A → Type 0) (xs ys : List A) → AllByRecursion P xs → AllByRecursion P ys → AllByRecursion P (xs ++ ys)
each-append P [] ys h k = k
each-append P (x ∷ xs) ys h k = (h.0, each-append P xs ys h.1 k)

-- and of each of two lists where it holds of each of both together
pub each-split : {A : Type 0} (P : A → Type 0) (xs ys : List A) → AllByRecursion P (xs ++ ys) → AllByRecursion P xs × AllByRecursion P ys
each-split P [] ys h = (tt, h)
each-split P (x ∷ xs) ys h = let rest = each-split P xs ys h.1 in ((h.0, rest.0), rest.1)

-- a fact of each element follows from another
pub each-then : {A : Type 0} (P Q : A → Type 0) → ((x : A) → P x → Q x) → (xs : List A) → AllByRecursion P xs → AllByRecursion Q xs
each-then P Q step [] h = tt
each-then P Q step (x ∷ xs) h = (step x h.0, each-then P Q step xs h.1)

-- two facts of each element are one
pub each-both : {A : Type 0} (P Q : A → Type 0) (xs : List A) → AllByRecursion P xs → AllByRecursion Q xs → AllByRecursion (λ x. P x × Q x) xs
each-both P Q [] h k = tt
each-both P Q (x ∷ xs) h k = ((h.0, k.0), each-both P Q xs h.1 k.1)

-- lists with one front and one rest are one list
pub same_halves : {A : Type 0} (i : ℕ) (xs ys : List A) → take i xs ≡ take i ys → drop i xs ≡ drop i ys → xs ≡ ys
same_halves i xs ys e f = sym (take-append-drop i xs) ∙ ap₂ (λ (x y : List _). x ++ y) e f ∙ take-append-drop i ys

-- lists of one element, the same in both, are one list
pub same_one : {A : Type 0} (xs ys : List A) (o : A) → length xs ≡ 1 → length ys ≡ 1 → get_or xs 0 o ≡ get_or ys 0 o → xs ≡ ys
same_one [] ys o h k e = absurd (omega (arith, h))
same_one (x ∷ z ∷ xs) ys o h k e = absurd (omega (arith, h))
same_one (x ∷ []) [] o h k e = absurd (omega (arith, k))
same_one (x ∷ []) (y ∷ z ∷ ys) o h k e = absurd (omega (arith, k))
same_one (x ∷ []) (y ∷ []) o h k e = ap (λ z. z ∷ []) e
