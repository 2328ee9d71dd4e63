-- A list that rises, and has equal elements in the order of another list, is that list sorted by
-- insertion.
use Rattle.std.proofs.Common.{◌≡◌, ◌∙◌, ℕ, suc, ◌+◌, ◌<◌, Bool, true, false, cond, if◌then◌else◌, List, [], ◌∷◌, length, get_or, filter, ◌⊎◌, refl, sym, ap, arith, inl, inr, add-one}
use Rattle.std.proofs.lemmas.Bool.{cond-true, cond-false, cases_Bool, true≢false}
use Rattle.std.specs.List.{AllByRecursion}

-- a test whether one element is at most another, and one whether both are
pub record Ranks {X : Type 0} (le level : X → X → Bool) : Type 0 where
  pub total : (x y : X) → (le x y ≡ true) ⊎ (le y x ≡ true)
  pub trans : (x y z : X) → le x y ≡ true → le y z ≡ true → le x z ≡ true
  pub parts : (x y : X) → level x y ≡ true → (le x y ≡ true) × (le y x ≡ true)
  pub from : (x y : X) → le x y ≡ true → le y x ≡ true → level x y ≡ true

-- an element before the first that it is at most
unfoldable pub put_by : {X : Type 0} → (X → X → Bool) → X → List X → List X
put_by le x [] = x ∷ []
put_by le x (y ∷ ys) = if le x y then x ∷ y ∷ ys else y ∷ put_by le x ys

-- a list in the order of a rank, equals as they came
unfoldable pub order_by : {X : Type 0} → (X → X → Bool) → List X → List X
order_by le [] = []
order_by le (x ∷ xs) = put_by le x (order_by le xs)

-- an element is at most each of a list
abbrev pub IsAtMostAll : {X : Type 0} → (X → X → Bool) → X → List X → Type 0
IsAtMostAll le x ys = AllByRecursion (λ y. le x y ≡ true) ys

-- each element is at most all behind it
abbrev pub Rises : {X : Type 0} → (X → X → Bool) → List X → Type 0
Rises le [] = Unit {0}
Rises le (y ∷ ys) = IsAtMostAll le y ys × Rises le ys

-- an element that passes is kept
filter-kept : {X : Type 0} (p : X → Bool) (y : X) (ys : List X) → p y ≡ true → filter p (y ∷ ys) ≡ y ∷ filter p ys
filter-kept p y ys h = cond-true _ _ _ h

-- an element that does not pass is dropped
filter-dropped : {X : Type 0} (p : X → Bool) (y : X) (ys : List X) → p y ≡ false → filter p (y ∷ ys) ≡ filter p ys
filter-dropped p y ys h = cond-false _ _ _ h

-- an element that is at most the first stands before it
put_by-stays : {X : Type 0} (le : X → X → Bool) (x y : X) (ys : List X) → le x y ≡ true → put_by le x (y ∷ ys) ≡ x ∷ y ∷ ys
unfolding put_by
put_by-stays le x y ys h = cond-true _ _ _ h

-- an element that is above the first stands behind it
put_by-past : {X : Type 0} (le : X → X → Bool) (x y : X) (ys : List X) → le x y ≡ false → put_by le x (y ∷ ys) ≡ y ∷ put_by le x ys
unfolding put_by
put_by-past le x y ys h = cond-false _ _ _ h

module _ {X : Type 0} {le level : X → X → Bool} (r : Ranks le level) where
  le-self : (x : X) → le x x ≡ true
  le-self x = elim (r.total x x) [ inl h ↦ h | inr h ↦ h ]

  level-self : (x : X) → level x x ≡ true
  level-self x = r.from x x (le-self x) (le-self x)

  -- what isn't at most is above
  other_way : (x y : X) → le x y ≡ false → le y x ≡ true
  other_way x y h = elim (r.total x y) [ inl k ↦ absurd (true≢false (sym k ∙ h)) | inr k ↦ k ]

  IsAtMostAll-trans : (x y : X) (ys : List X) → le x y ≡ true → IsAtMostAll le y ys → IsAtMostAll le x ys
  IsAtMostAll-trans x y [] h k = tt
  IsAtMostAll-trans x y (z ∷ zs) h k = (r.trans x y z h k.0, IsAtMostAll-trans x y zs h k.1)

  -- an element that is put where it belongs
  IsAtMostAll-put_by : (y x : X) (ys : List X) → le y x ≡ true → IsAtMostAll le y ys → IsAtMostAll le y (put_by le x ys)
  unfolding put_by
  IsAtMostAll-put_by y x [] h k = (h, tt)
  IsAtMostAll-put_by y x (z ∷ zs) h k = elim (le x z) as (λ b. IsAtMostAll le y (if b then x ∷ z ∷ zs else z ∷ put_by le x zs)) [
    | true ↦ (h, k)
    | false ↦ (k.0, IsAtMostAll-put_by y x zs h k.1)
  ]

  Rises-put_by : (x : X) (ys : List X) → Rises le ys → Rises le (put_by le x ys)
  unfolding put_by
  Rises-put_by x [] h = (tt, tt)
  Rises-put_by x (y ∷ ys) h = elim (cases_Bool (le x y)) [
    | inl stays ↦ rw (put_by-stays le x y ys stays) ((stays, IsAtMostAll-trans x y ys stays h.0), h)
    | inr past ↦ rw (put_by-past le x y ys past) (IsAtMostAll-put_by y x ys (other_way x y past) h.0, Rises-put_by x ys h.1)
  ]

  pub Rises-order_by : (xs : List X) → Rises le (order_by le xs)
  unfolding order_by
  Rises-order_by [] = tt
  Rises-order_by (x ∷ xs) = Rises-put_by x (order_by le xs) (Rises-order_by xs)

  -- what stands level with w keeps its order
  filter-put_by : (w x : X) (ys : List X) → filter (level w) (put_by le x ys) ≡ filter (level w) (x ∷ ys)
  unfolding put_by
  filter-put_by w x [] = refl
  filter-put_by w x (y ∷ ys) = elim (cases_Bool (le x y)) [
    | inl stays ↦ ap (filter (level w)) (put_by-stays le x y ys stays)
    | inr past ↦
        ap (filter (level w)) (put_by-past le x y ys past)
        ∙ elim (cases_Bool (level w y)) [
          | inr without ↦
              filter-dropped (level w) y (put_by le x ys) without ∙ filter-put_by w x ys
              ∙ ap (λ (l : List X). cond (level w x) (x ∷ l) l) (sym (filter-dropped (level w) y ys without))
          | inl with ↦
              elim (cases_Bool (level w x)) [
                | inl both ↦ absurd (true≢false (sym (r.trans x w y (r.parts w x both).1 (r.parts w y with).0) ∙ past))
                | inr only ↦
                    filter-kept (level w) y (put_by le x ys) with ∙ ap (λ (l : List X). y ∷ l) (filter-put_by w x ys ∙ filter-dropped (level w) x ys only)
                    ∙ sym (filter-dropped (level w) x (y ∷ ys) only ∙ filter-kept (level w) y ys with)
              ]
        ]
  ]

  pub filter-order_by : (w : X) (xs : List X) → filter (level w) (order_by le xs) ≡ filter (level w) xs
  unfolding order_by
  filter-order_by w [] = refl
  filter-order_by w (x ∷ xs) = filter-put_by w x (order_by le xs) ∙ ap (λ (l : List X). cond (level w x) (x ∷ l) l) (filter-order_by w xs)

  -- what is at most all is at most what occurs among them
  occurs : (y w : X) (ys : List X) (v : X) (vs : List X) → IsAtMostAll le y ys → filter (level w) ys ≡ v ∷ vs → le y w ≡ true
  occurs y w [] v vs h e = absurd cc
  occurs y w (z ∷ zs) v vs h e = elim (cases_Bool (level w z)) [
    | inl with ↦ r.trans y z w h.0 (r.parts w z with).1
    | inr without ↦ occurs y w zs v vs h.1 (sym (filter-dropped (level w) z zs without) ∙ e)
  ]

  one_order : (ys zs : List X) → Rises le ys → Rises le zs → ((w : X) → filter (level w) ys ≡ filter (level w) zs) → ys ≡ zs
  one_order [] [] left right same = refl
  one_order [] (z ∷ zs) left right same =
      let clash : [] ≡ z ∷ filter (level z) zs = same z ∙ filter-kept (level z) z zs (level-self z) in absurd cc
  one_order (y ∷ ys) [] left right same =
      let clash : [] ≡ y ∷ filter (level y) ys = sym (same y) ∙ filter-kept (level y) y ys (level-self y) in absurd cc
  one_order (y ∷ ys) (z ∷ zs) left right same =
      let at_y : filter (level y) (y ∷ ys) ≡ y ∷ filter (level y) ys = filter-kept (level y) y ys (level-self y) in
      let at_z : filter (level z) (z ∷ zs) ≡ z ∷ filter (level z) zs = filter-kept (level z) z zs (level-self z) in
      let up : le z y ≡ true = occurs z y (z ∷ zs) y _ (le-self z, right.0) (sym (same y) ∙ at_y) in
      let down : le y z ≡ true = occurs y z (y ∷ ys) z _ (le-self y, left.0) (same z ∙ at_z) in
      let heads : y ∷ filter (level y) ys ≡ z ∷ filter (level y) zs = sym at_y ∙ same y ∙ filter-kept (level y) z zs (r.from y z down up) in
      let head : y ≡ z = cc in
      let tails : (w : X) → filter (level w) ys ≡ filter (level w) zs =
      λ w. elim (cases_Bool (level w y)) [
        | inl with ↦
            let both : y ∷ filter (level w) ys ≡ z ∷ filter (level w) zs =
            sym (filter-kept (level w) y ys with) ∙ same w ∙ filter-kept (level w) z zs (ap (level w) (sym head) ∙ with) in cc
        | inr without ↦
            sym (filter-dropped (level w) y ys without) ∙ same w ∙ filter-dropped (level w) z zs (ap (level w) (sym head) ∙ without)
      ] in
      let rest : ys ≡ zs = one_order ys zs left.1 right.1 tails in cc

  -- a stable sort is a sort by insertion
  pub sorted_is : (xs ys : List X) → Rises le ys → ((w : X) → filter (level w) ys ≡ filter (level w) xs) → ys ≡ order_by le xs
  sorted_is xs ys up same = one_order ys (order_by le xs) up (Rises-order_by xs) (λ w. same w ∙ sym (filter-order_by w xs))

  -- a list in which no element is above the next one rises
  pub Rises-from_neighbours : (ys : List X) → ((k : ℕ) (d : X) → k + 1 < length ys → le (get_or ys k d) (get_or ys (k + 1) d) ≡ true) → Rises le ys
  Rises-from_neighbours [] h = tt
  Rises-from_neighbours (y ∷ []) h = (tt, tt)
  Rises-from_neighbours (y ∷ z ∷ zs) h =
      let first : le y z ≡ true = h 0 y (omega arith) in
      let rest : Rises le (z ∷ zs) = Rises-from_neighbours (z ∷ zs) (λ k d lt. rw add-one (rw add-one at (h (suc k) d (omega (arith, lt))))) in
      ((first, IsAtMostAll-trans y z zs first rest.0), rest)
