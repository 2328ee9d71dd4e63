-- The first cell of a list that fails a test.
use Rattle.std.proofs.Common.{◌≡◌, ◌∙◌, ℕ, zero, suc, ◌<◌, List, [], ◌∷◌, ◌++◌, append_assoc, append-nil, Bool, true, false, ◌||◌, true≢false, if◌then◌else◌, Option, Some, None, slice_get, refl, sym, ap, subst, inl, inr, arith}
use Rattle.std.specs.List.{Contains, list_any}
use Rattle.std.proofs.lemmas.Bool.{cases_Bool}
use Rattle.namespace_id.specs.declared.cells.Cell.{Cell}
use Rattle.namespace_id.proofs.KeyLemmas.{equal_cells}
use Rattle.namespace_id.proofs.MemberLemmas.{contains_cons, contains_none}
use Rattle.light_node.specs.Nodes.{is_same}
use Rattle.light_node.proofs.DistinctLemmas.{added, all_added, added_cases}

-- the first cell of a list that fails a test
abbrev pub first_failing : (Cell → Bool) → List Cell → Option Cell
first_failing test [] = None
first_failing test (x ∷ xs) = if test x then first_failing test xs else Some x

module _ (test : Cell → Bool) where
  -- where the first cell passes, it is that of the others
  passes : (x : Cell) (xs : List Cell) → test x ≡ true → first_failing test (x ∷ xs) ≡ first_failing test xs
  passes x xs e = ap (λ (b : Bool). if b then first_failing test xs else Some x) e

  -- and else it is the first one
  fails : (x : Cell) (xs : List Cell) → test x ≡ false → first_failing test (x ∷ xs) ≡ Some x
  fails x xs e = ap (λ (b : Bool). if b then first_failing test xs else Some x) e

  -- where two lists have the same first one, they have so behind one more cell
  both_behind : (x : Cell) (xs ys : List Cell) → (test x ≡ true → first_failing test xs ≡ first_failing test ys)
      → first_failing test (x ∷ xs) ≡ first_failing test (x ∷ ys)
  both_behind x xs ys same = elim (cases_Bool (test x)) [
    | inl e ↦ passes x xs e ∙ same e ∙ sym (passes x ys e)
    | inr e ↦ fails x xs e ∙ sym (fails x ys e)
  ]

  -- a cell that passes may be left out
  leave_out : (front back : List Cell) (c : Cell) → test c ≡ true
      → first_failing test (front ++ c ∷ back) ≡ first_failing test (front ++ back)
  leave_out [] back c e = passes c back e
  leave_out (x ∷ front) back c e = both_behind x (front ++ c ∷ back) (front ++ back) (λ _. leave_out front back c e)

  -- and so may one that stands in front too
  leave_repeat : (front back : List Cell) (c : Cell) → list_any (is_same c) front ≡ true
      → first_failing test (front ++ c ∷ back) ≡ first_failing test (front ++ back)
  leave_repeat [] back c found = absurd (true≢false (sym found))
  leave_repeat (x ∷ front) back c found =
      both_behind x (front ++ c ∷ back) (front ++ back) (λ passed. elim (cases_Bool (is_same c x)) [
        | inl same ↦
            leave_out front back c (subst (λ (y : Cell). test y ≡ true) (sym (equal_cells c x same)) passed)
        | inr apart ↦
            leave_repeat front back c (sym (ap (λ (b : Bool). b || list_any (is_same c) front) apart) ∙ found)
      ])

  -- so a list has the same first one, with its repeats and without
  pub first_failing-added : (more cells : List Cell)
      → first_failing test (all_added cells more) ≡ first_failing test (cells ++ more)
  first_failing-added [] cells = ap (first_failing test) (sym (append-nil cells))
  first_failing-added (c ∷ more) cells = elim (added_cases cells c) [
    | inl same ↦ first_failing-added more (added cells c) ∙ ap (λ (l : List Cell). first_failing test (l ++ more))
        same.1
        ∙ sym (leave_repeat cells more c same.0)
    | inr e ↦ first_failing-added more (added cells c) ∙ ap (λ (l : List Cell). first_failing test (l ++ more)) e
        ∙ ap (first_failing test) (append_assoc cells (c ∷ []) more)
  ]

  -- it stands where those in front pass and it doesn't
  pub first_failing-at : (xs : List Cell) (i : ℕ)
      → ((j : ℕ) (x : Cell) → j < i → slice_get xs j ≡ Some x → test x ≡ true)
      → ((x : Cell) → slice_get xs i ≡ Some x → test x ≡ false)
      → first_failing test xs ≡ slice_get xs i
  first_failing-at [] i before at = refl
  first_failing-at (x ∷ xs) zero before at = fails x xs (at x refl)
  first_failing-at (x ∷ xs) (suc i) before at =
      passes x xs (before 0 x (omega arith) refl)
      ∙ first_failing-at xs i (λ j y below e. before (suc j) y (omega arith) e) at

  -- where there is none, all pass
  pub none_failing : (xs : List Cell) → first_failing test xs ≡ None → (x : Cell) → Contains xs x → test x ≡ true
  none_failing [] e x at = absurd (contains_none x at)
  none_failing (y ∷ xs) e x at = elim (cases_Bool (test y)) [
    | inl passed ↦ elim (contains_cons y x xs at) [
      | inl same ↦ subst (λ (z : Cell). test z ≡ true) same passed
      | inr later ↦ none_failing xs (sym (passes y xs passed) ∙ e) x later
    ]
    | inr failed ↦ let no : Some y ≡ None = sym (fails y xs failed) ∙ e in cc
  ]

  -- where there is one, those in front pass, and it doesn't
  pub some_failing : (xs : List Cell) (x : Cell) → first_failing test xs ≡ Some x
      → (before after : List Cell) × (xs ≡ before ++ x ∷ after) × ((y : Cell) → Contains before y → test y ≡ true)
      × (test x ≡ false)
  some_failing [] x e = cc
  some_failing (y ∷ xs) x e = elim (cases_Bool (test y)) [
    | inl passed ↦
        let later = some_failing xs x (sym (passes y xs passed) ∙ e) in (
          y ∷ later.0,
          later.1,
          ap (λ (l : List Cell). y ∷ l) later.2,
          λ z at. elim (contains_cons y z later.0 at) [
            | inl same ↦ subst (λ (w : Cell). test w ≡ true) same passed
            | inr there ↦ later.3 z there
          ],
          later.4,
        )
    | inr failed ↦
        let same : y ≡ x = (let s : Some y ≡ Some x = sym (fails y xs failed) ∙ e in cc) in (
          [],
          xs,
          ap (λ (c : Cell). c ∷ xs) same,
          λ z at. absurd (contains_none z at),
          subst (λ (w : Cell). test w ≡ false) same failed,
        )
  ]
