-- Numbers that count up, those of them that pass a test, and what is made of these.
use Rattle.std.proofs.Common.{◌≡◌, ◌∙◌, ℕ, zero, suc, ◌+◌, ◌-◌, ◌<◌, ◌≤◌, List, [], ◌∷◌, ◌++◌, map, Bool, true, false, cond, refl, sym, ap, ap₂, subst, inl, inr, arith}
use Rattle.std.proofs.lemmas.Bool.{cases_Bool}
use Rattle.std.specs.List.{filter, flat_map, AllByRecursion}
use Rattle.namespace_id.specs.Lists.{ascending}

module _ (p : ℕ → Bool) where
  -- the numbers below k that pass, from one on
  abbrev pub passing_from : ℕ → ℕ → List ℕ
  passing_from k i = filter p (ascending i (k - i))

  -- those of n + 1 numbers, where the first one passes, or doesn't
  passing : (b : Bool) (n first : ℕ) → p first ≡ b
      → filter p (ascending first (suc n)) ≡ cond b (first ∷ filter p (ascending (suc first) n)) (filter p (ascending (suc first) n))
  unfolding ascending
  passing b n first e = ap (λ (c : Bool). cond c (first ∷ filter p (ascending (suc first) n)) (filter p (ascending (suc first) n))) e

  -- a number, where it passes, and those behind it
  pub passing-step : (b : Bool) (k i : ℕ) → i < k → p i ≡ b → passing_from k i ≡ cond b (i ∷ passing_from k (i + 1)) (passing_from k (i + 1))
  passing-step b k i h e =
      let left : k - i ≡ suc (k - (i + 1)) = omega (arith, h) in
      let next : suc i ≡ i + 1 = omega arith in
      ap (λ (n : ℕ). filter p (ascending i n)) left ∙ passing b (k - (i + 1)) i e
      ∙ ap (λ (j : ℕ). cond b (i ∷ filter p (ascending j (k - (i + 1)))) (filter p (ascending j (k - (i + 1))))) next

  -- from k on there are none
  pub passing-end : (k i : ℕ) → k ≤ i → passing_from k i ≡ []
  unfolding ascending
  passing-end k i h =
      let none : k - i ≡ 0 = omega (arith, h) in
      ap (λ (n : ℕ). filter p (ascending i n)) none

  -- a fact of what is made of each number that passes is one of each element
  pub each_passing : {A : Type 0} (f : ℕ → A) (P : A → Type 0) (n first : ℕ) → ((i : ℕ) → first ≤ i → i < first + n → p i ≡ true → P (f i))
      → AllByRecursion P (map f (filter p (ascending first n)))
  unfolding ascending
  each_passing f P zero first each = tt
  each_passing f P (suc n) first each =
      let rest : AllByRecursion P (map f (filter p (ascending (suc first) n))) = each_passing f P n (suc first) (λ i low high. each i (omega (arith, low)) (omega (arith, high))) in
      elim (cases_Bool (p first)) [
        | inl t ↦ subst (λ (is : List ℕ). AllByRecursion P (map f is)) (sym (passing true n first t)) (each first (omega arith) (omega arith) t, rest)
        | inr other ↦ subst (λ (is : List ℕ). AllByRecursion P (map f is)) (sym (passing false n first other)) rest
      ]

  module _ {A E : Type 0} (f : ℕ → List A) (g : E → List A) (row : E → ℕ) where
    -- where the first number gives nothing, all give what the others do
    nothing_first : (n first : ℕ) → f first ≡ [] → flat_map f (ascending (suc first) n) ≡ flat_map f (ascending first (suc n))
    unfolding ascending
    nothing_first n first none = ap (λ (a : List A). a ++ flat_map f (ascending (suc first) n)) (sym none)

    -- what the elements give is what the numbers give, where each element stands for the next number that passes the test
    pub row_by_row : (n first : ℕ) (xs : List E) → map row xs ≡ filter p (ascending first n) → AllByRecursion (λ x. g x ≡ f (row x)) xs
        → ((i : ℕ) → first ≤ i → i < first + n → p i ≡ false → f i ≡ []) → flat_map g xs ≡ flat_map f (ascending first n)
    unfolding ascending
    row_by_row zero first [] rows each none = refl
    row_by_row zero first (x ∷ xs) rows each none = absurd cc
    row_by_row (suc n) first [] rows each none = elim (cases_Bool (p first)) [
      | inl t ↦ let wrong : [] ≡ first ∷ filter p (ascending (suc first) n) = rows ∙ passing true n first t in absurd cc
      | inr other ↦
          row_by_row n (suc first) [] (rows ∙ passing false n first other) tt (λ i low high. none i (omega (arith, low)) (omega (arith, high)))
          ∙ nothing_first n first (none first (omega arith) (omega arith) other)
    ]
    row_by_row (suc n) first (x ∷ xs) rows each none = elim (cases_Bool (p first)) [
      | inl t ↦
          let both : row x ∷ map row xs ≡ first ∷ filter p (ascending (suc first) n) = rows ∙ passing true n first t in
          let here : row x ≡ first = cc in
          let rest : map row xs ≡ filter p (ascending (suc first) n) = cc in
          ap₂ (λ (a b : List A). a ++ b) (each.0 ∙ ap f here)
          (row_by_row n (suc first) xs rest each.1 (λ i low high. none i (omega (arith, low)) (omega (arith, high))))
      | inr other ↦
          row_by_row n (suc first) (x ∷ xs) (rows ∙ passing false n first other) each (λ i low high. none i (omega (arith, low)) (omega (arith, high)))
          ∙ nothing_first n first (none first (omega arith) (omega arith) other)
    ]
