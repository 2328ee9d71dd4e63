-- Bytes are the values that a walk over them finds, one after another, and then bytes at whose front none
-- stands.
use Rattle.std.proofs.Common.{◌≡◌, ◌∙◌, ◌⊎◌, inl, inr, ℕ, zero, suc, ◌+◌, ◌<◌, ◌≤◌, List, [], ◌∷◌, ◌++◌, length, length-append, take, drop, Option, Some, None, refl, sym, ap, subst, arith, append_assoc, append-nil}
use Rattle.std.specs.List.{flat_map, AllByRecursion}
use Rattle.std.proofs.lemmas.List.{take_at, drop_at, length-drop}
use Rattle.std.proofs.lemmas.Option.{same_Some, none-some}
use Rattle.namespace_id.specs.Bytes.{AreBytes}
use Rattle.namespace_id.proofs.StringLemmas.{AreBytes-drop}
use Rattle.da_wire.specs.Walks.{walk_from, stop_from}
use Rattle.da_wire.proofs.WalkLemmas.{walk_on, walk_stop, stop_on, stop_here}

-- a value at the front of bytes, `n` bytes long
pub record IsFront (A : Type 0) (text : A → List ℕ) (Is : A → Type 0) (bytes : List ℕ) (x : A) (n : ℕ) : Type 0 where
  pub is : Is x
  pub size : n ≡ length (text x)
  pub rest : List ℕ
  pub parts : bytes ≡ text x ++ rest

-- a reader finds a value exactly where its text is at the front
pub record IsReader (A : Type 0) (one : List ℕ → Option (A × ℕ)) (text : A → List ℕ) (Is : A → Type 0) : Type 0 where
  pub again : (x : A) (rest : List ℕ) → Is x → one (text x ++ rest) ≡ Some (x, length (text x))
  pub takes : (bytes : List ℕ) (x : A) (n : ℕ) → AreBytes bytes → one bytes ≡ Some (x, n) → IsFront A text Is bytes x n
  pub some : (x : A) → Is x → 0 < length (text x)

-- ---- values as a file

-- a walk over values that are written one after another finds them, and stops nowhere
pub listed_again : {A : Type 0} (one : List ℕ → Option (A × ℕ)) (text : A → List ℕ) (Is : A → Type 0) → IsReader A one text Is
    → (at : ℕ) (xs : List A) → AllByRecursion Is xs → (stop_from one 0 at (flat_map text xs) ≡ None) × (walk_from one 0 (flat_map text xs) ≡ xs)
unfolding walk_from stop_from
listed_again one text Is reader at [] all = (refl, refl)
listed_again {A} one text Is reader at (x ∷ xs) all =
    let n : ℕ = length (text x) in
    let rest : List ℕ = flat_map text xs in
    let some : 0 < n = reader.some x all.0 in
    let long : 0 < length (text x ++ rest) = omega (arith, some, length-append (text x) rest) in
    let found = reader.again x rest all.0 in
    let behind : drop n (text x ++ rest) ≡ rest = drop_at (text x) rest n refl in
    let later = listed_again one text Is reader (at + n) xs all.1 in (
      stop_on one at (text x ++ rest) x n found some long ∙ ap (λ (l : List ℕ). stop_from one 0 (at + n) l) behind ∙ later.0,
      walk_on one (text x ++ rest) x n found some long ∙ ap (λ (l : List ℕ). x ∷ walk_from one 0 l) behind ∙ ap (λ (l : List A). x ∷ l) later.1,
    )

-- ---- a file as values

-- values, then no byte; or values, then bytes at whose front none stands
pub record IsWalked (A : Type 0) (one : List ℕ → Option (A × ℕ)) (text : A → List ℕ) (Is : A → Type 0) (at : ℕ) (bytes : List ℕ) (xs : List A) (stop : Option ℕ) : Type 0 where
  pub rest : List ℕ
  pub parts : bytes ≡ flat_map text xs ++ rest
  pub all : AllByRecursion Is xs
  pub end : ((rest ≡ []) × (stop ≡ None)) ⊎ ((0 < length rest) × (one rest ≡ None) × (stop ≡ Some (at + length (flat_map text xs))))

-- a value in front of what was walked over
walked_more : {A : Type 0} (one : List ℕ → Option (A × ℕ)) (text : A → List ℕ) (Is : A → Type 0) (at : ℕ) (bytes : List ℕ) (xs : List A) (stop : Option ℕ) (x : A)
    → Is x → IsWalked A one text Is (at + length (text x)) bytes xs stop → IsWalked A one text Is at (text x ++ bytes) (x ∷ xs) stop
walked_more one text Is at bytes xs stop x is w =
    let sum : at + length (text x) + length (flat_map text xs) ≡ at + length (text x ++ flat_map text xs) = omega (arith, length-append (text x) (flat_map text xs)) in
    record {
      rest = w.rest;
      parts = ap (λ (l : List ℕ). text x ++ l) w.parts ∙ sym (append_assoc (text x) (flat_map text xs) w.rest);
      all = (is, w.all);
      end = elim w.end [
        | inl none ↦ inl none
        | inr more ↦ inr (more.0, more.1, more.2 ∙ ap (λ (n : ℕ). Some n) sum)
      ];
    }

-- what stands at the front decides
walked_by : {A : Type 0} (one : List ℕ → Option (A × ℕ)) (text : A → List ℕ) (Is : A → Type 0) → IsReader A one text Is
    → (at : ℕ) (bytes : List ℕ) (o : Option (A × ℕ)) → 0 < length bytes → AreBytes bytes → one bytes ≡ o
    → ((n : ℕ) → 0 < n → IsWalked A one text Is (at + n) (drop n bytes) (walk_from one 0 (drop n bytes)) (stop_from one 0 (at + n) (drop n bytes)))
    → IsWalked A one text Is at bytes (walk_from one 0 bytes) (stop_from one 0 at bytes)
walked_by {A} one text Is reader at bytes None some fits e later =
    let nothing : walk_from one 0 bytes ≡ [] = walk_stop one bytes e in
    let here : stop_from one 0 at bytes ≡ Some (at + 0) = stop_here one at bytes e some ∙ ap (λ (n : ℕ). Some n) (omega arith) in
    subst (λ (l : List A). IsWalked A one text Is at bytes l (stop_from one 0 at bytes)) (sym nothing)
    (record { rest = bytes; parts = refl; all = tt; end = inr (some, e, here) })
walked_by {A} one text Is reader at bytes (Some x) some fits e later =
    let f : IsFront A text Is bytes x.0 x.1 = reader.takes bytes x.0 x.1 fits e in
    let long : 0 < x.1 = omega (arith, f.size, reader.some x.0 f.is) in
    let behind : drop x.1 bytes ≡ f.rest = ap (λ (l : List ℕ). drop x.1 l) f.parts ∙ drop_at (text x.0) f.rest x.1 (sym f.size) in
    let whole : text x.0 ++ drop x.1 bytes ≡ bytes = ap (λ (l : List ℕ). text x.0 ++ l) behind ∙ sym f.parts in
    let xs : List A = walk_from one 0 (drop x.1 bytes) in
    let stop : Option ℕ = stop_from one 0 (at + x.1) (drop x.1 bytes) in
    let next : IsWalked A one text Is (at + length (text x.0)) (drop x.1 bytes) xs stop =
    subst (λ (n : ℕ). IsWalked A one text Is (at + n) (drop x.1 bytes) xs stop) f.size (later x.1 long) in
    let more : IsWalked A one text Is at bytes (x.0 ∷ xs) stop =
    subst (λ (l : List ℕ). IsWalked A one text Is at l (x.0 ∷ xs) stop) whole (walked_more one text Is at (drop x.1 bytes) xs stop x.0 f.is next) in
    let found : IsWalked A one text Is at bytes (walk_from one 0 bytes) stop =
    subst (λ (l : List A). IsWalked A one text Is at bytes l stop) (sym (walk_on one bytes x.0 x.1 e long some)) more in
    subst (λ (o : Option ℕ). IsWalked A one text Is at bytes (walk_from one 0 bytes) o) (sym (stop_on one at bytes x.0 x.1 e long some)) found

-- what a walk finds is at the front of the bytes, by recursion on a bound of their length
walked_within : {A : Type 0} (one : List ℕ → Option (A × ℕ)) (text : A → List ℕ) (Is : A → Type 0) → IsReader A one text Is
    → (most at : ℕ) (bytes : List ℕ) → length bytes ≤ most → AreBytes bytes → IsWalked A one text Is at bytes (walk_from one 0 bytes) (stop_from one 0 at bytes)
unfolding walk_from stop_from
walked_within one text Is reader most at [] short fits = record { rest = []; parts = refl; all = tt; end = inl (refl, refl) }
walked_within one text Is reader zero at (b ∷ bytes) short fits = absurd (omega arith)
walked_within one text Is reader (suc most) at (b ∷ bytes) short fits =
    walked_by one text Is reader at (b ∷ bytes) (one (b ∷ bytes)) (omega arith) fits refl
    (λ n some. walked_within one text Is reader most (at + n) (drop n (b ∷ bytes)) (omega (arith, length-drop n (b ∷ bytes))) (AreBytes-drop n (b ∷ bytes) fits))

-- what a walk finds is at the front of the bytes, up to where it stops
pub walked : {A : Type 0} (one : List ℕ → Option (A × ℕ)) (text : A → List ℕ) (Is : A → Type 0) → IsReader A one text Is
    → (bytes : List ℕ) → AreBytes bytes → IsWalked A one text Is 0 bytes (walk_from one 0 bytes) (stop_from one 0 0 bytes)
walked one text Is reader bytes fits = walked_within one text Is reader (length bytes) 0 bytes (omega arith) fits

-- nowhere does a walk stop: the file is these values
pub walked_all : {A : Type 0} (one : List ℕ → Option (A × ℕ)) (text : A → List ℕ) (Is : A → Type 0) (bytes : List ℕ) (xs : List A) (stop : Option ℕ)
    → IsWalked A one text Is 0 bytes xs stop → stop ≡ None → (flat_map text xs ≡ bytes) × AllByRecursion Is xs
walked_all one text Is bytes xs stop w e = elim w.end [
  | inl none ↦ (sym (w.parts ∙ ap (λ (l : List ℕ). flat_map text xs ++ l) none.0 ∙ append-nil (flat_map text xs)), w.all)
  | inr more ↦ let never : ⊥ = none-some (0 + length (flat_map text xs)) (sym e ∙ more.2) in absurd never
]

-- values before the place at which it stops
pub record IsStop (A : Type 0) (one : List ℕ → Option (A × ℕ)) (text : A → List ℕ) (Is : A → Type 0) (bytes : List ℕ) (xs : List A) (at : ℕ) : Type 0 where
  pub within : at < length bytes
  pub front : flat_map text xs ≡ take at bytes
  pub all : AllByRecursion Is xs
  pub none : one (drop at bytes) ≡ None

-- where a walk stops, the values before stand in front of that place
pub walked_some : {A : Type 0} (one : List ℕ → Option (A × ℕ)) (text : A → List ℕ) (Is : A → Type 0) (bytes : List ℕ) (xs : List A) (stop : Option ℕ) (at : ℕ)
    → IsWalked A one text Is 0 bytes xs stop → stop ≡ Some at → IsStop A one text Is bytes xs at
walked_some one text Is bytes xs stop at w e = elim w.end [
  | inl none ↦ let never : ⊥ = none-some at (sym none.1 ∙ e) in absurd never
  | inr more ↦
      let front : List ℕ = flat_map text xs in
      let same : length front ≡ at = let begins : 0 + length front ≡ at = same_Some (0 + length front) at (sym more.2 ∙ e) in omega (arith, begins) in
      record {
        within = omega (arith, same, more.0, ap length w.parts, length-append front w.rest);
        front = sym (ap (λ (l : List ℕ). take at l) w.parts ∙ take_at front w.rest at same);
        all = w.all;
        none = ap (λ (l : List ℕ). one l) (ap (λ (l : List ℕ). drop at l) w.parts ∙ drop_at front w.rest at same) ∙ more.1;
      }
]
