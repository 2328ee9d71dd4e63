-- Two lists that go along, place by place.
use Rattle.std.proofs.Common.{◌≡◌, ◌∙◌, ℕ, ◌-◌, List, [], ◌∷◌, ◌++◌, length, length-append, Some, slice_get, refl, ap, arith}
use Rattle.std.specs.List.{AllZip}

-- what stands behind a list
pub get_behind : {X : Type 0} (xs : List X) (x : X) (ys : List X) → slice_get (xs ++ x ∷ ys) (length xs) ≡ Some x
get_behind [] x ys = refl
get_behind (y ∷ xs) x ys = get_behind xs x ys

-- the last of a list
pub last_pushed : {X : Type 0} (xs : List X) (x : X) → slice_get (xs ++ x ∷ []) (length (xs ++ x ∷ []) - 1) ≡ Some x
last_pushed {X} xs x =
    let long = length-append xs (x ∷ []) in
    let last : length (xs ++ x ∷ []) - 1 ≡ length xs = omega (arith, long) in
    ap (λ (n : ℕ). slice_get (xs ++ x ∷ []) n) last ∙ get_behind xs x []

module _ {A B : Type 0} (R : A → B → Type 0) where
  -- what goes along with a list that ends in something
  pub record Split (xs : List A) (x : A) (ys : List B) : Type 0 where
    pub front : List B
    pub last : B
    pub parts : ys ≡ front ++ last ∷ []
    pub along : AllZip R xs front
    pub ends : R x last

  -- it is parted so
  pub zip_split : (xs : List A) (x : A) (ys : List B) → AllZip R (xs ++ x ∷ []) ys → Split xs x ys
  zip_split [] x [] all = absurd all
  zip_split [] x (b ∷ []) all = record { front = []; last = b; parts = refl; along = tt; ends = all.0 }
  zip_split [] x (b ∷ c ∷ ys) all = absurd all.1
  zip_split (a ∷ xs) x [] all = absurd all
  zip_split (a ∷ xs) x (b ∷ ys) all =
      let rest = zip_split xs x ys all.1 in
      record {
        front = b ∷ rest.front;
        last = rest.last;
        parts = ap (λ (l : List B). b ∷ l) rest.parts;
        along = (all.0, rest.along);
        ends = rest.ends;
      }
