-- Row-major lists of cells.
use Rattle.std.proofs.Common.{◌≡◌, ◌∙◌, ℕ, ◌+◌, ◌*◌, ◌≤◌, List, [], ◌∷◌, length, true, ◌&&◌, refl, sym, ap₂, subst, inl, inr, arith}
use Rattle.std.specs.Prelude.{◌↔◌}
use Rattle.std.specs.List.{Contains, list_all}
use Rattle.std.proofs.lemmas.Bool.{and_parts, and_from}
use Rattle.std.proofs.lemmas.Bool.Decides.{nat_tests}
use Rattle.namespace_id.specs.declared.cells.Cell.{Cell}
use Rattle.namespace_id.specs.Cells.{is_width, is_in_square, is_before, are_cells}
use Rattle.namespace_id.specs.Lists.{holds_along}
use Rattle.namespace_id.proofs.MemberLemmas.{contains_head, contains_tail, contains_none, contains_cons}
use Rattle.namespace_id.proofs.NumberLemmas.{inside, number-lt, before_lower}

-- a cell before one that is before a third is before the third
before_trans : (a b c : Cell) → is_before a b ≡ true → is_before b c ≡ true → is_before a c ≡ true
before_trans a b c h k = grind (arith, nat_tests)

-- of two cells only one is before the other
before_once : (a b : Cell) → is_before a b ≡ true → is_before b a ≡ true → ⊥
before_once a b h k = grind (arith, nat_tests)

-- the first cell of a row-major list is before each other
before_each : (a : Cell) (cells : List Cell) → holds_along is_before (a ∷ cells) ≡ true → (c : Cell)
    → Contains cells c → is_before a c ≡ true
unfolding holds_along
before_each a [] rising c at = absurd (contains_none c at)
before_each a (b ∷ cells) rising c at =
    let both = and_parts (is_before a b) (holds_along is_before (b ∷ cells)) rising in
    elim (contains_cons b c cells at) [
      | inl e ↦ subst (λ (x : Cell). is_before a x ≡ true) e both.0
      | inr later ↦ before_trans a b c both.0 (before_each b cells both.1 c later)
    ]

-- and the others are row-major
rising_rest : (a : Cell) (cells : List Cell) → holds_along is_before (a ∷ cells) ≡ true
    → holds_along is_before cells ≡ true
unfolding holds_along
rising_rest a [] rising = refl
rising_rest a (b ∷ cells) rising = (and_parts (is_before a b) (holds_along is_before (b ∷ cells)) rising).1

-- ---- one list for the same cells

-- two row-major lists with the same cells begin with one cell
same_first : (a b : Cell) (cells others : List Cell) → holds_along is_before (a ∷ cells) ≡ true
    → holds_along is_before (b ∷ others) ≡ true
    → Contains (b ∷ others) a → Contains (a ∷ cells) b → a ≡ b
same_first a b cells others first second in_b in_a = elim (contains_cons b a others in_b) [
  | inl e ↦ sym e
  | inr u ↦ elim (contains_cons a b cells in_a) [
    | inl e ↦ e
    | inr v ↦ absurd (before_once a b (before_each a cells first b v) (before_each b others second a u))
  ]
]

-- the cells behind the first one of such a list stand behind that of the other
rest_within : (a b : Cell) (cells others : List Cell) → holds_along is_before (a ∷ cells) ≡ true → a ≡ b
    → ((c : Cell) → Contains (a ∷ cells) c → Contains (b ∷ others) c) → (c : Cell) → Contains cells c
    → Contains others c
rest_within a b cells others rising e to c at = elim (contains_cons b c others (to c (contains_tail a c cells at))) [
  | inr later ↦ later
  | inl f ↦
      let before : is_before a c ≡ true = before_each a cells rising c at in
      let itself : is_before c c ≡ true = subst (λ (x : Cell). is_before x c ≡ true) (e ∙ f) before in
      absurd (before_once c c itself itself)
]

-- so two row-major lists with the same cells are one
pub row_major_once : (cells others : List Cell) → holds_along is_before cells ≡ true
    → holds_along is_before others ≡ true
    → ((c : Cell) → Contains cells c → Contains others c) → ((c : Cell) → Contains others c → Contains cells c)
    → cells ≡ others
row_major_once [] [] first second to from = refl
row_major_once [] (b ∷ others) first second to from = absurd (contains_none b (from b (contains_head b others)))
row_major_once (a ∷ cells) [] first second to from = absurd (contains_none a (to a (contains_head a cells)))
row_major_once (a ∷ cells) (b ∷ others) first second to from =
    let e : a ≡ b =
    same_first a b cells others first second (to a (contains_head a cells)) (from b (contains_head b others)) in
    ap₂ (λ (x : Cell) (l : List Cell). x ∷ l) e
    (row_major_once cells others (rising_rest a cells first) (rising_rest b others second)
    (rest_within a b cells others first e to) (rest_within b a others cells second (sym e) from))

-- what it says of a list to be one of cells of a square
pub cells_parts : (k : ℕ) (cells : List Cell) → are_cells k cells ≡ true
    → (is_width k ≡ true) × (list_all (is_in_square k) cells ≡ true) × (holds_along is_before cells ≡ true)
cells_parts k cells are =
    let outer = and_parts (is_width k && list_all (is_in_square k) cells) (holds_along is_before cells) are in
    let inner = and_parts (is_width k) (list_all (is_in_square k) cells) outer.0 in
    (inner.0, inner.1, outer.1)

-- and of what a list is one
pub cells_from : (k : ℕ) (cells : List Cell) → is_width k ≡ true → list_all (is_in_square k) cells ≡ true
    → holds_along is_before cells ≡ true
    → are_cells k cells ≡ true
cells_from k cells width within rising =
    and_from (is_width k && list_all (is_in_square k) cells) (holds_along is_before cells)
    (and_from (is_width k) (list_all (is_in_square k) cells) width within) rising

-- two lists of cells of a square with the same cells are one
pub cells_once : (k : ℕ) (cells others : List Cell) → are_cells k cells ≡ true → are_cells k others ≡ true
    → ((c : Cell) → Contains cells c ↔ Contains others c) → cells ≡ others
cells_once k cells others first second same =
    row_major_once cells others (cells_parts k cells first).2 (cells_parts k others second).2
    (λ c. (same c).0) (λ c. (same c).1)

-- ---- how many there are

-- behind a cell stand at most as many as have higher numbers
count_from : (k : ℕ) (a : Cell) (cells : List Cell) → list_all (is_in_square k) (a ∷ cells) ≡ true
    → holds_along is_before (a ∷ cells) ≡ true
    → a.row * (2 * k) + a.col + length (a ∷ cells) ≤ 2 * k * (2 * k)
unfolding holds_along
count_from k a [] within rising =
    let here = inside k a (and_parts (is_in_square k a) (list_all (is_in_square k) []) within).0 in
    omega (arith, number-lt (2 * k) a here.0 here.1)
count_from k a (b ∷ cells) within rising =
    let here = and_parts (is_in_square k a) (list_all (is_in_square k) (b ∷ cells)) within in
    let along = and_parts (is_before a b) (holds_along is_before (b ∷ cells)) rising in
    omega (arith, before_lower (2 * k) a b (inside k a here.0).1 along.0, count_from k b cells here.1 along.1)

-- a list of cells of a square is no longer than that of all of them
pub cells_count : (k : ℕ) (cells : List Cell) → are_cells k cells ≡ true → length cells ≤ 2 * k * (2 * k)
cells_count k [] are = omega arith
cells_count k (a ∷ cells) are =
    let parts = cells_parts k (a ∷ cells) are in omega (arith, count_from k a cells parts.1 parts.2)
