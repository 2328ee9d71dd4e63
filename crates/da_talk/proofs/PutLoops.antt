-- A loop that appends what each element is written as: what is there and what is left are all.
use Rattle.std.proofs.Common.{◌≡◌, ◌∙◌, ℕ, ◌+◌, ◌<◌, ◌≤◌, zero, suc, List, [], ◌∷◌, ◌++◌, length, length-append, drop, get_or, Vec, Global, vec_len, vec_capacity, refl, sym, ap, arith, append_assoc, append-nil}
use Rattle.std.specs.List.{flat_map}
use Rattle.std.proofs.lemmas.List.{drop_all}

-- what an element adds, and then what the later ones do
pub flat_here : {A : Type 0} (f : A → List ℕ) (xs : List A) (i : ℕ) (d : A) → i < length xs
    → flat_map f (drop i xs) ≡ f (get_or xs i d) ++ flat_map f (drop (i + 1) xs)
flat_here f [] i d h = absurd (omega arith)
flat_here f (x ∷ xs) zero d h = refl
flat_here f (x ∷ xs) (suc i) d h =
    let next : suc i + 1 ≡ suc (i + 1) = omega arith in
    flat_here f xs i d (omega arith) ∙ sym (ap (λ (k : ℕ). f (get_or xs i d) ++ flat_map f (drop k (x ∷ xs))) next)

-- what is there and what is left are all, and there is capacity for what is left
abbrev pub IsPutting : {A : Type 0} (text : A → List ℕ) (xs : List A) (i : ℕ) (first out : Vec ℕ Global)
    (all : List ℕ) (total : ℕ) → Type 0
IsPutting text xs i first out all total = record {
  all : out.items ++ flat_map text (drop i xs) ≡ all;
  len : vec_len out + length (flat_map text (drop i xs)) ≡ total;
  capacity : vec_capacity first ≤ vec_capacity out;
}

-- this is there, and no less capacity than before
abbrev pub IsPut : (first out : Vec ℕ Global) (all : List ℕ) (total : ℕ) → Type 0
IsPut first out all total = record {
  appended : out.items ≡ all;
  len : vec_len out ≡ total;
  capacity : vec_capacity first ≤ vec_capacity out;
}

-- ---- an element is next

module _ {A : Type 0} (text : A → List ℕ) (xs : List A) (i : ℕ) (x : A) (here : i < length xs) (is : x ≡ get_or xs i x)
    (first out : Vec ℕ Global) (all : List ℕ) (total : ℕ) (at : IsPutting text xs i first out all total) where
  -- what is left is the element, and then the later ones
  left_here : flat_map text (drop i xs) ≡ text x ++ flat_map text (drop (i + 1) xs)
  left_here = flat_here text xs i x here ∙ sym (ap (λ (y : A). text y ++ flat_map text (drop (i + 1) xs)) is)

  -- so are their lengths
  length_here : length (flat_map text (drop i xs)) ≡ length (text x) + length (flat_map text (drop (i + 1) xs))
  length_here = ap length left_here ∙ length-append (text x) (flat_map text (drop (i + 1) xs))

  -- capacity for what is left is capacity for the element
  pub put_room : total ≤ vec_capacity first → vec_len out + length (text x) ≤ vec_capacity out
  put_room few = omega (arith, length_here, at.len, at.capacity)

  -- one more is there
  pub put_more : (new : Vec ℕ Global) → IsPut out new (out.items ++ text x) (vec_len out + length (text x))
      → IsPutting text xs (i + 1) first new all total
  put_more new put = record {
    all = ap (λ (l : List ℕ). l ++ flat_map text (drop (i + 1) xs)) put.appended
        ∙ append_assoc out.items (text x) (flat_map text (drop (i + 1) xs))
        ∙ sym (ap (λ (l : List ℕ). out.items ++ l) left_here) ∙ at.all;
    len = omega (arith, length_here, at.len, put.len);
    capacity = omega (arith, at.capacity, put.capacity);
  }

-- ---- none is left

-- all are there
pub put_end : {A : Type 0} (text : A → List ℕ) (xs : List A) (i : ℕ) → length xs ≤ i
    → (first out : Vec ℕ Global) (all : List ℕ) (total : ℕ) → IsPutting text xs i first out all total → IsPut first out all total
put_end {A} text xs i past first out all total at =
    let none : flat_map text (drop i xs) ≡ [] = ap (λ (l : List A). flat_map text l) (drop_all i xs past) in
    let length_none : length (flat_map text (drop i xs)) ≡ 0 = ap length none in
    record {
      appended = sym (ap (λ (l : List ℕ). out.items ++ l) none ∙ append-nil out.items) ∙ at.all;
      len = omega (arith, length_none, at.len);
      capacity = at.capacity;
    }
