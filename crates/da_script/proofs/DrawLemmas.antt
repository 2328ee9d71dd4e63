-- Keys with their counts, one after another.
use Rattle.std.proofs.Common.{◌≡◌, ◌∙◌, ℕ, zero, suc, ◌+◌, ◌-◌, ◌<◌, Bool, true, false, ◌||◌, List, [], ◌∷◌, ◌++◌, append-nil, map, length, take, drop, refl, sym, ap, arith}
use Rattle.std.specs.Int.{w16, from_be_bytes}
use Rattle.std.specs.List.{list_any, AllByRecursion}
use Rattle.std.proofs.Math.Seq.{append_snoc}
use Rattle.std.proofs.lemmas.List.{map-append}
use Rattle.da_script.specs.Scripts.{Draw, draws_at}

-- the key in front of bytes, with its count
abbrev pub draw_in : List ℕ → Draw
draw_in bytes = record { key = take 32 bytes; count = from_be_bytes w16 (take 2 (drop 32 bytes)) }

-- one more stands in front
draws_more : (n : ℕ) (bytes : List ℕ) → draws_at (suc n) bytes ≡ draw_in bytes ∷ draws_at n (drop 34 bytes)
unfolding draws_at
draws_more n bytes = refl

-- while any are left, the next one stands in front
pub draws_next : (count at : ℕ) (bytes : List ℕ) → at < count → draws_at (count - at) bytes ≡ draw_in bytes ∷ draws_at (count - (at + 1)) (drop 34 bytes)
draws_next count at bytes below =
    let left : count - at ≡ suc (count - (at + 1)) = omega arith in
    ap (λ (n : ℕ). draws_at n bytes) left ∙ draws_more (count - (at + 1)) bytes

-- none are left
pub draws_none : (count at : ℕ) (bytes : List ℕ) → count - at ≡ 0 → draws_at (count - at) bytes ≡ []
unfolding draws_at
draws_none count at bytes none = ap (λ (n : ℕ). draws_at n bytes) none

-- there are as many as are counted
pub length-draws_at : (n : ℕ) (bytes : List ℕ) → length (draws_at n bytes) ≡ n
unfolding draws_at
length-draws_at zero bytes = refl
length-draws_at (suc n) bytes = ap suc (length-draws_at n (drop 34 bytes))

module _ {A : Type 0} (test : A → Bool) where
  -- one is found in front
  pub any_here : (x : A) (xs all : List A) → all ≡ x ∷ xs → test x ≡ true → list_any test all ≡ true
  any_here x xs all e h = ap (list_any test) e ∙ ap (λ (b : Bool). b || list_any test xs) h

  -- or behind
  pub any_later : (x : A) (xs all : List A) → all ≡ x ∷ xs → test x ≡ false → list_any test all ≡ list_any test xs
  any_later x xs all e h = ap (list_any test) e ∙ ap (λ (b : Bool). b || list_any test xs) h

  -- where none is found, it is neither
  pub none_found : (x : A) (xs all : List A) → all ≡ x ∷ xs → list_any test all ≡ false → (test x ≡ false) × (list_any test xs ≡ false)
  none_found x xs all e none = parts (test x) (list_any test xs) (sym (ap (list_any test) e) ∙ none)
    where
      parts : (a b : Bool) → (a || b) ≡ false → (a ≡ false) × (b ≡ false)
      parts true b h = absurd cc
      parts false b h = (refl, h)

-- ---- lists that grow

-- one that was made of the next one goes from the left to the right
pub made_more : {A B D : Type 0} (f : A → D) (g : B → D) (xs : List A) (x : A) (y : B) (rest later : List B) (all : List D) → rest ≡ y ∷ later
    → f x ≡ g y → map f xs ++ map g rest ≡ all → map f (xs ++ x ∷ []) ++ map g later ≡ all
made_more {A} {B} {D} f g xs x y rest later all next same before =
    ap (λ (l : List D). l ++ map g later) (map-append f xs (x ∷ []))
    ∙ append_snoc (map f xs) (f x) (map g later)
    ∙ ap (λ (d : D). map f xs ++ d ∷ map g later) same
    ∙ sym (ap (λ (l : List B). map f xs ++ map g l) next) ∙ before

-- where nothing is left, all are made
pub made_all : {A B D : Type 0} (f : A → D) (g : B → D) (xs : List A) (rest : List B) (all : List D) → rest ≡ []
    → map f xs ++ map g rest ≡ all → map f xs ≡ all
made_all {A} {B} {D} f g xs rest all none made = sym (append-nil (map f xs)) ∙ sym (ap (λ (l : List B). map f xs ++ map g l) none) ∙ made

-- what holds of each holds with one more
pub all_push : {A : Type 0} (P : A → Type 0) (xs : List A) (x : A) → AllByRecursion P xs → P x → AllByRecursion P (xs ++ x ∷ [])
all_push P [] x all here = (here, tt)
all_push P (y ∷ xs) x all here = (all.0, all_push P xs x all.1 here)
