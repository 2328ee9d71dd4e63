-- How many of the elements of a list pass a test, and how many of the namespaces of a row are below one or are it.
use Rattle.std.proofs.Common.{◌≡◌, ◌∙◌, ℕ, suc, ◌+◌, ◌<◌, ◌≤◌, List, [], ◌∷◌, length, take, drop, get_or, Bool, true, false, cond, not, true≢false, inl, inr, refl, sym, ap, arith, length-append, length-drop}
use Rattle.std.specs.List.{filter}
use Rattle.std.specs.Str.{bytes_eq}
use Rattle.std.proofs.lemmas.List.{take-append-drop, get_or-drop}
use Rattle.std.proofs.lemmas.List.Elements.{filter-append, filter_more}
use Rattle.std.proofs.lemmas.Bool.{cases_Bool}
use Rattle.std.proofs.lemmas.Slice.Eq.{bytes_eq-Decides}
use Rattle.namespace_id.specs.declared.cells.Axis.TheVariants.{Row}
use Rattle.namespace_id.specs.declared.namespaces.Namespace.{Namespace}
use Rattle.namespace_id.specs.declared.shares.Share.{Share}
use Rattle.namespace_id.specs.Names.{IsNamespace, is_at_most, is_below, is_parity, parity}
use Rattle.namespace_id.proofs.OrderLemmas.{at_most_refl, at_most_parity}
use Rattle.nmt_tree.specs.Spans.{name_at}
use Rattle.nmt_tree.proofs.NameLemmas.{same_name}
use Rattle.axis_roots.specs.Grids.{axis_names, axis_shares}
use Rattle.axis_roots.proofs.Grids.LineLemmas.{length-line_names}
use Rattle.square_serve.specs.Serving.{count_below, count_same}
use Rattle.square_serve.proofs.RowLemmas.{axis_names-parity}

module _ {A : Type 0} (test : A → Bool) where
  -- how many of a list pass
  abbrev pub count_of : List A → ℕ
  count_of xs = length (filter test xs)

  -- one element more
  pub count_more : (xs : List A) (i : ℕ) (d : A) (b : Bool) → i < length xs → test (get_or xs i d) ≡ b
      → count_of (take (i + 1) xs) ≡ count_of (take i xs) + length (cond b (get_or xs i d ∷ []) [])
  count_more xs i d b within is =
      ap length (filter_more test xs i d within) ∙ length-append (filter test (take i xs)) (cond (test (get_or xs i d)) (get_or xs i d ∷ []) [])
      ∙ ap (λ (c : Bool). count_of (take i xs) + length (cond c (get_or xs i d ∷ []) [])) is

  -- where none passes
  count_none : (xs : List A) (d : A) → ((i : ℕ) → i < length xs → test (get_or xs i d) ≡ false) → count_of xs ≡ 0
  count_none [] d each = refl
  count_none (x ∷ xs) d each =
      ap (λ (b : Bool). length (cond b (x ∷ filter test xs) (filter test xs))) (each 0 (omega arith)) ∙ count_none xs d (λ i h. each (suc i) (omega (arith, h)))

  -- where none passes from one place on, those before it count
  pub count_front : (xs : List A) (k : ℕ) (d : A) → ((i : ℕ) → k ≤ i → i < length xs → test (get_or xs i d) ≡ false) → count_of (take k xs) ≡ count_of xs
  count_front xs k d each =
      let behind : count_of (drop k xs) ≡ 0 = count_none (drop k xs) d (λ i h.
      ap test (get_or-drop k xs i d) ∙ each (k + i) (omega arith) (omega (arith, h, length-drop k xs))) in
      let parts : count_of xs ≡ count_of (take k xs) + count_of (drop k xs) =
      ap count_of (sym (take-append-drop k xs)) ∙ ap length (filter-append test (take k xs) (drop k xs)) ∙ length-append (filter test (take k xs)) (filter test (drop k xs)) in
      omega (arith, behind, parts)

-- ---- the namespaces of a row

-- whether a namespace is this one
abbrev pub is_same : Namespace → Namespace → Bool
is_same name n = bytes_eq n.0 name.0

-- none is below itself
pub below_not-same : (name n : Namespace) → is_below n name ≡ true → is_same name n ≡ false
below_not-same name n below = elim (cases_Bool (is_same name n)) [
  | inl same ↦
      let e : n ≡ name = same_name n name ((bytes_eq-Decides n.0 name.0).0 same) in
      absurd (true≢false (sym below ∙ ap (λ (m : Namespace). not (is_at_most name m)) e ∙ ap not (at_most_refl name)))
  | inr other ↦ other
]

-- PARITY is below none
pub parity_not-below : (name : Namespace) → IsNamespace name → is_below parity name ≡ false
parity_not-below name is = ap not (at_most_parity name is)

-- and is no other
pub parity_not-same : (name : Namespace) → is_parity name ≡ false → is_same name parity ≡ false
parity_not-same name other = elim (cases_Bool (is_same name parity)) [
  | inl same ↦ absurd (true≢false (sym ((bytes_eq-Decides name.0 parity.0).1 (sym ((bytes_eq-Decides parity.0 name.0).0 same))) ∙ other))
  | inr apart ↦ apart
]

-- those of the first k columns below a namespace are those of the row
pub row_below : (k : ℕ) (grid : List Share) (row : ℕ) (name : Namespace) → row < k → IsNamespace name
    → count_below name (take k (axis_names k grid Row row)) ≡ count_below name (axis_names k grid Row row)
row_below k grid row name within is =
    count_front (λ n. is_below n name) (axis_names k grid Row row) k parity (λ i low high.
    ap (λ (n : Namespace). is_below n name) (axis_names-parity k grid row i within low (omega (arith, high, length-line_names k Row row (axis_shares k grid Row row))))
    ∙ parity_not-below name is)

-- and those that are it
pub row_same : (k : ℕ) (grid : List Share) (row : ℕ) (name : Namespace) → row < k → is_parity name ≡ false
    → count_same name (take k (axis_names k grid Row row)) ≡ count_same name (axis_names k grid Row row)
row_same k grid row name within other =
    count_front (is_same name) (axis_names k grid Row row) k parity (λ i low high.
    ap (is_same name) (axis_names-parity k grid row i within low (omega (arith, high, length-line_names k Row row (axis_shares k grid Row row))))
    ∙ parity_not-same name other)

-- ---- counting column by column

-- the namespaces before a column are counted: so many are below one, and so many are it
pub record AreCounted (name : Namespace) (names : List Namespace) (col below same : ℕ) : Type 0 where
  pub below_is : below ≡ count_below name (take col names)
  pub same_is : same ≡ count_same name (take col names)
  pub within : below + same ≤ col

-- one more that is below
pub one_below : (name n : Namespace) (names : List Namespace) (col below same : ℕ) → col < length names → n ≡ name_at names col
    → is_below n name ≡ true → AreCounted name names col below same → AreCounted name names (col + 1) (below + 1) same
one_below name n names col below same h e is so_far = record {
  below_is = omega (arith, so_far.below_is, count_more (λ m. is_below m name) names col parity true h (ap (λ (m : Namespace). is_below m name) (sym e) ∙ is));
  same_is = omega (arith, so_far.same_is, count_more (is_same name) names col parity false h (ap (is_same name) (sym e) ∙ below_not-same name n is));
  within = omega (arith, so_far.within);
}

-- one more that is it
pub one_same : (name n : Namespace) (names : List Namespace) (col below same : ℕ) → col < length names → n ≡ name_at names col
    → is_below n name ≡ false → is_same name n ≡ true → AreCounted name names col below same → AreCounted name names (col + 1) below (same + 1)
one_same name n names col below same h e is it so_far = record {
  below_is = omega (arith, so_far.below_is, count_more (λ m. is_below m name) names col parity false h (ap (λ (m : Namespace). is_below m name) (sym e) ∙ is));
  same_is =
      omega (arith, so_far.same_is, count_more (is_same name) names col parity true h (ap (is_same name) (sym e) ∙ it));
  within = omega (arith, so_far.within);
}

-- one more that is neither
pub one_other : (name n : Namespace) (names : List Namespace) (col below same : ℕ) → col < length names → n ≡ name_at names col
    → is_below n name ≡ false → is_same name n ≡ false → AreCounted name names col below same → AreCounted name names (col + 1) below same
one_other name n names col below same h e is other so_far = record {
  below_is = omega (arith, so_far.below_is, count_more (λ m. is_below m name) names col parity false h (ap (λ (m : Namespace). is_below m name) (sym e) ∙ is));
  same_is = omega (arith, so_far.same_is, count_more (is_same name) names col parity false h (ap (is_same name) (sym e) ∙ other));
  within = omega (arith, so_far.within);
}
