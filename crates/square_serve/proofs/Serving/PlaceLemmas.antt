-- Where a namespace stands among namespaces that never fall.
use Rattle.std.proofs.Common.{◌≡◌, ◌∙◌, ℕ, zero, suc, ◌+◌, ◌<◌, ◌≤◌, List, [], ◌∷◌, length, Bool, true, false, cond, not, true≢false, inl, inr, refl, sym, ap, subst, subst₂, arith}
use Rattle.std.specs.List.{filter}
use Rattle.std.proofs.lemmas.Bool.{cases_Bool, not-false}
use Rattle.std.proofs.lemmas.Slice.Eq.{bytes_eq-Decides}
use Rattle.namespace_id.specs.declared.namespaces.Namespace.{Namespace}
use Rattle.namespace_id.specs.Names.{is_at_most, is_below}
use Rattle.namespace_id.proofs.OrderLemmas.{at_most_refl, at_most_trans, at_most_antisym}
use Rattle.nmt_tree.specs.Roots.{is_ordered}
use Rattle.nmt_tree.specs.Spans.{name_at}
use Rattle.nmt_tree.proofs.NameLemmas.{same_name, ordered_at, ordered_tail}
use Rattle.square_serve.specs.Serving.{count_below, count_same}
use Rattle.square_serve.proofs.Serving.CountLemmas.{is_same, below_not-same}

-- so many namespaces are below one, then so many are this one, and all behind them are above it
pub record IsCounted (name : Namespace) (names : List Namespace) (below same : ℕ) : Type 0 where
  pub within : below + same ≤ length names
  pub under : (i : ℕ) → i < below → is_below (name_at names i) name ≡ true
  pub here : (i : ℕ) → below ≤ i → i < below + same → name_at names i ≡ name
  pub over : (i : ℕ) → below + same ≤ i → i < length names → is_below name (name_at names i) ≡ true

-- one that is at most another isn't above it
pub at_most_not-below : (a b : Namespace) → is_at_most a b ≡ true → is_below b a ≡ true → ⊥
at_most_not-below a b le lt = true≢false (sym lt ∙ ap not le)

-- one that is at most another and isn't it is below it
above : (name a : Namespace) → is_at_most name a ≡ true → is_same name a ≡ false → is_below name a ≡ true
above name a le other = elim (cases_Bool (is_at_most a name)) [
  | inl t ↦ absurd (true≢false (sym ((bytes_eq-Decides a.0 name.0).1 (ap (λ (n : Namespace). n.0) (at_most_antisym a name t le))) ∙ other))
  | inr f ↦ ap not f
]

-- below one that is at most another is below that
above_trans : (name a b : Namespace) → is_below name a ≡ true → is_at_most a b ≡ true → is_below name b ≡ true
above_trans name a b lt le = elim (cases_Bool (is_at_most b name)) [
  | inl t ↦ absurd (at_most_not-below a name (at_most_trans a b name le t) lt)
  | inr f ↦ ap not f
]

-- with one namespace before them that is below
counted_below : (name a : Namespace) (names : List Namespace) (below same : ℕ) → is_below a name ≡ true → IsCounted name names below same → IsCounted name (a ∷ names) (suc below) same
counted_below name a names below same lt rest = record {
  within = omega (arith, rest.within);
  under = λ i. under_more i;
  here = λ i. here_more i;
  over = λ i. over_more i;
}
  where
    here_more : (i : ℕ) → suc below ≤ i → i < suc below + same → name_at (a ∷ names) i ≡ name
    here_more zero low high = absurd (omega (arith, low))
    here_more (suc i) low high = rest.here i (omega (arith, low)) (omega (arith, high))

    under_more : (i : ℕ) → i < suc below → is_below (name_at (a ∷ names) i) name ≡ true
    under_more zero h = lt
    under_more (suc i) h = rest.under i (omega (arith, h))

    over_more : (i : ℕ) → suc below + same ≤ i → i < suc (length names) → is_below name (name_at (a ∷ names) i) ≡ true
    over_more zero low high = absurd (omega (arith, low))
    over_more (suc i) low high = rest.over i (omega (arith, low)) (omega (arith, high))

-- with the namespace itself before them
counted_same : (name a : Namespace) (names : List Namespace) (same : ℕ) → a ≡ name → IsCounted name names 0 same → IsCounted name (a ∷ names) 0 (suc same)
counted_same name a names same e rest = record {
  within = omega (arith, rest.within);
  under = λ i h. absurd (omega (arith, h));
  here = λ i. here_more i;
  over = λ i. over_more i;
}
  where
    here_more : (i : ℕ) → 0 ≤ i → i < 0 + suc same → name_at (a ∷ names) i ≡ name
    here_more zero low high = e
    here_more (suc i) low high = rest.here i (omega arith) (omega (arith, high))

    over_more : (i : ℕ) → 0 + suc same ≤ i → i < suc (length names) → is_below name (name_at (a ∷ names) i) ≡ true
    over_more zero low high = absurd (omega (arith, low))
    over_more (suc i) low high = rest.over i (omega (arith, low)) (omega (arith, high))

-- with one above it before them
counted_above : (name a : Namespace) (names : List Namespace) → is_below name a ≡ true → IsCounted name names 0 0 → IsCounted name (a ∷ names) 0 0
counted_above name a names lt rest = record {
  within = omega arith;
  under = λ i h. absurd (omega (arith, h));
  here = λ i low high. absurd (omega (arith, high));
  over = λ i. over_more i;
}
  where
    over_more : (i : ℕ) → 0 + 0 ≤ i → i < suc (length names) → is_below name (name_at (a ∷ names) i) ≡ true
    over_more zero low high = lt
    over_more (suc i) low high = rest.over i (omega arith) (omega (arith, high))

-- where the first isn't below, none is
none_below : (name : Namespace) (names : List Namespace) (below same : ℕ) → IsCounted name names below same → (0 < length names → is_at_most name (name_at names 0) ≡ true) → below ≡ 0
none_below name names zero same rest first = refl
none_below name names (suc below) same rest first =
    absurd (at_most_not-below name (name_at names 0) (first (omega (arith, rest.within))) (rest.under 0 (omega arith)))

-- where the first is above, none is the namespace
none_same : (name : Namespace) (names : List Namespace) (same : ℕ) → IsCounted name names 0 same → (0 < length names → is_below name (name_at names 0) ≡ true) → same ≡ 0
none_same name names zero rest first = refl
none_same name names (suc same) rest first =
    absurd (at_most_not-below (name_at names 0) name
    (ap (λ (n : Namespace). is_at_most n name) (rest.here 0 (omega arith) (omega arith)) ∙ at_most_refl name) (first (omega (arith, rest.within))))

-- how many of the names that begin with one are below, and are the namespace
count_first : (test : Namespace → Bool) (a : Namespace) (names : List Namespace) (b : Bool) → test a ≡ b → length (filter test (a ∷ names)) ≡ length (cond b (a ∷ filter test names) (filter test names))
count_first test a names b e = ap (λ (c : Bool). length (cond c (a ∷ filter test names) (filter test names))) e

-- where namespaces never fall, the counts tell where a namespace stands
pub counted : (name : Namespace) (names : List Namespace) → is_ordered names ≡ true → IsCounted name names (count_below name names) (count_same name names)
counted name [] h = record {
  within = omega arith;
  under = λ i h. absurd (omega (arith, h));
  here = λ i low high. absurd (omega (arith, high));
  over = λ i low high. absurd (omega (arith, high));
}
counted name (a ∷ names) h =
    let rest = counted name names (ordered_tail a names h) in
    let below : ℕ = count_below name names in
    let same : ℕ = count_same name names in
    let Goal : ℕ → ℕ → Type 0 = λ b s. IsCounted name (a ∷ names) b s in
    let is_under : Namespace → Bool = λ n. is_below n name in
    elim (cases_Bool (is_below a name)) [
      | inl lt ↦
          subst₂ Goal (sym (count_first is_under a names true lt)) (sym (count_first (is_same name) a names false (below_not-same name a lt)))
          (counted_below name a names below same lt rest)
      | inr f ↦
          let le : is_at_most name a ≡ true = not-false (is_at_most name a) f in
          let first : 0 < length names → is_at_most a (name_at names 0) ≡ true = λ some. ordered_at (a ∷ names) 0 1 h (omega arith) (omega (arith, some)) in
          let none : below ≡ 0 = none_below name names below same rest (λ some. at_most_trans name a (name_at names 0) le (first some)) in
          let later : IsCounted name names 0 same = subst (λ (b : ℕ). IsCounted name names b same) none rest in
          let under : count_below name (a ∷ names) ≡ 0 = count_first is_under a names false f ∙ none in
          elim (cases_Bool (is_same name a)) [
            | inl it ↦
                subst₂ Goal (sym under) (sym (count_first (is_same name) a names true it))
                (counted_same name a names same (same_name a name ((bytes_eq-Decides a.0 name.0).0 it)) later)
            | inr other ↦
                let lt : is_below name a ≡ true = above name a le other in
                let none_here : same ≡ 0 = none_same name names same later (λ some. above_trans name a (name_at names 0) lt (first some)) in
                subst₂ Goal (sym under) (sym (count_first (is_same name) a names false other ∙ none_here))
                (counted_above name a names lt (subst (λ (s : ℕ). IsCounted name names 0 s) none_here later))
          ]
    ]
