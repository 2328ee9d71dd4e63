-- Rows of a square, and the shares of a namespace in them.
use Rattle.std.proofs.Common.{◌≡◌, ◌≢◌, ◌∙◌, ◌⊎◌, ℕ, zero, suc, ◌+◌, ◌-◌, ◌*◌, ◌<◌, ◌≤◌, List, [], ◌∷◌, ◌++◌, length, map, get_or, Bool, true, false, cond, ◌&&◌, refl, sym, ap, ap₂, subst, inl, inr, arith}
use Rattle.std.specs.List.{filter}
use Rattle.std.proofs.lemmas.Bool.{lt-ltb, le-ltb, false_from_ne_true}
use Rattle.std.proofs.lemmas.List.Elements.{filter-append}
use Rattle.std.proofs.Common.{append-nil}
use Rattle.std.proofs.lemmas.Slice.Eq.{bytes_eq-Decides}
use Rattle.namespace_id.specs.declared.cells.Cell.{Cell}
use Rattle.namespace_id.specs.declared.cells.Axis.TheVariants.{Row}
use Rattle.namespace_id.specs.declared.namespaces.Namespace.{Namespace}
use Rattle.namespace_id.specs.declared.shares.Share.{Share}
use Rattle.namespace_id.specs.Names.{parity}
use Rattle.namespace_id.specs.Shares.{name_in}
use Rattle.namespace_id.specs.Lists.{ascending}
use Rattle.nmt_tree.specs.Spans.{name_at}
use Rattle.nmt_tree.proofs.NameLemmas.{same_name}
use Rattle.nmt_proofs.specs.Complete.{IsNowhereElse}
use Rattle.square_layout.specs.Blocks.{SquareShares}
use Rattle.axis_roots.specs.Lines.{blank, cell_on}
use Rattle.axis_roots.specs.Grids.{Extends, share_at, axis_names, axis_shares}
use Rattle.axis_roots.proofs.Grids.AxisLemmas.{get_or-along}
use Rattle.axis_roots.proofs.Grids.LineLemmas.{length-line_names, get_or-axis_names}
use Rattle.square_serve.specs.Shares.{is_named, cell_share, row_shares}
use Rattle.square_serve.specs.Answers.{shown_from}

-- ---- names and shares along a row of a grid

-- the share at a column of the original square begins a leaf of its own name
pub axis_names-original : (k : ℕ) (grid : List Share) (row i : ℕ) → row < k → i < k
    → name_at (axis_names k grid Row row) i ≡ name_in (share_at (2 * k) grid (cell_on Row row i))
axis_names-original k grid row i h lt =
    get_or-axis_names k grid Row row i parity (omega (arith, lt))
    ∙ ap₂ (λ (a b : Bool). cond (a && b) (name_in (share_at (2 * k) grid (cell_on Row row i))) parity) (lt-ltb row k h) (lt-ltb i k lt)

-- from column k on leaves have the namespace PARITY
pub axis_names-parity : (k : ℕ) (grid : List Share) (row i : ℕ) → row < k → k ≤ i → i < 2 * k → name_at (axis_names k grid Row row) i ≡ parity
axis_names-parity k grid row i h le lt =
    get_or-axis_names k grid Row row i parity lt
    ∙ ap₂ (λ (a b : Bool). cond (a && b) (name_in (share_at (2 * k) grid (cell_on Row row i))) parity) (lt-ltb row k h) (le-ltb i k le)

-- the share at a place of a row
pub axis_shares-at : (k : ℕ) (grid : List Share) (row i : ℕ) → i < 2 * k → get_or (axis_shares k grid Row row) i blank ≡ share_at (2 * k) grid (cell_on Row row i)
axis_shares-at k grid row i lt = get_or-along k (share_at (2 * k) grid) Row row i blank lt

-- ---- neighbors that pass a test

module _ {A : Type 0} (test : A → Bool) (f : ℕ → A) where
  -- where none passes
  none_pass : (n first : ℕ) → ((i : ℕ) → first ≤ i → i < first + n → test (f i) ≡ false) → filter test (map f (ascending first n)) ≡ []
  unfolding ascending
  none_pass zero first each = refl
  none_pass (suc n) first each =
      ap (λ (b : Bool). cond b (f first ∷ filter test (map f (ascending (suc first) n))) (filter test (map f (ascending (suc first) n)))) (each first (omega arith) (omega arith))
      ∙ none_pass n (suc first) (λ i low high. each i (omega (arith, low)) (omega (arith, high)))

  -- where all pass
  all_pass : (n first : ℕ) → ((i : ℕ) → first ≤ i → i < first + n → test (f i) ≡ true) → filter test (map f (ascending first n)) ≡ map f (ascending first n)
  unfolding ascending
  all_pass zero first each = refl
  all_pass (suc n) first each =
      ap (λ (b : Bool). cond b (f first ∷ filter test (map f (ascending (suc first) n))) (filter test (map f (ascending (suc first) n)))) (each first (omega arith) (omega arith))
      ∙ ap (λ (l : List A). f first ∷ l) (all_pass n (suc first) (λ i low high. each i (omega (arith, low)) (omega (arith, high))))

  -- numbers from one on, in two parts
  mapped_parts : (n m first : ℕ) → map f (ascending first (n + m)) ≡ map f (ascending first n) ++ map f (ascending (first + n) m)
  unfolding ascending
  mapped_parts zero m first =
      let e : first ≡ first + 0 = omega arith in
      let none : 0 + m ≡ m = omega arith in
      ap (λ (a : ℕ). map f (ascending first a)) none ∙ ap (λ (a : ℕ). map f (ascending a m)) e
  mapped_parts (suc n) m first =
      let e : suc first + n ≡ first + suc n = omega arith in
      let more : suc n + m ≡ suc (n + m) = omega arith in
      ap (λ (a : ℕ). map f (ascending first a)) more
      ∙ ap (λ (l : List A). f first ∷ l) (mapped_parts n m (suc first) ∙ ap (λ (a : ℕ). map f (ascending (suc first) n) ++ map f (ascending a m)) e)

  -- where those of one range pass and no others
  range_passes : (k from n : ℕ) → from + n ≤ k → ((i : ℕ) → i < n → test (f (from + i)) ≡ true)
      → ((i : ℕ) → i < k → (i < from) ⊎ (from + n ≤ i) → test (f i) ≡ false) → filter test (map f (ascending 0 k)) ≡ map f (ascending from n)
  range_passes k from n within pass fail =
      let m : ℕ = k - (from + n) in
      let sum : k ≡ from + (n + m) = omega (arith, within) in
      let start : 0 + from ≡ from = omega arith in
      let last : from + n + m ≡ k = omega (arith, within) in
      let parts : map f (ascending 0 k) ≡ map f (ascending 0 from) ++ (map f (ascending from n) ++ map f (ascending (from + n) m)) =
      ap (λ (a : ℕ). map f (ascending 0 a)) sum ∙ mapped_parts from (n + m) 0
      ∙ ap (λ (a : ℕ). map f (ascending 0 from) ++ map f (ascending a (n + m))) start ∙ ap (λ (l : List A). map f (ascending 0 from) ++ l) (mapped_parts n m from) in
      let before = none_pass from 0 (λ i low high. fail i (omega (arith, high, within)) (inl (omega (arith, high)))) in
      let inside = all_pass n from (λ i low high. let e : from + (i - from) ≡ i = omega (arith, low) in subst (λ (j : ℕ). test (f j) ≡ true) e (pass (i - from) (omega (arith, low, high)))) in
      let after = none_pass m (from + n) (λ i low high. fail i (omega (arith, high, last)) (inr low)) in
      ap (filter test) parts
      ∙ filter-append test (map f (ascending 0 from)) (map f (ascending from n) ++ map f (ascending (from + n) m))
      ∙ ap₂ (λ (x y : List A). x ++ y) before (filter-append test (map f (ascending from n)) (map f (ascending (from + n) m)) ∙ ap₂ (λ (x y : List A). x ++ y) inside after ∙ append-nil (map f (ascending from n)))

-- ---- the shares of a namespace in a row

-- whether the share of a square begins with a namespace, by the leaf's name in the extension
named_at : (square : SquareShares) (grid : List Share) (name : Namespace) (row i : ℕ) → Extends square.k square.shares grid → row < square.k → i < square.k
    → name_in (share_at square.k square.shares (cell_on Row row i)) ≡ name_at (axis_names square.k grid Row row) i
named_at square grid name row i extends h lt =
    ap name_in (sym (extends.quarter (cell_on Row row i) h lt)) ∙ sym (axis_names-original square.k grid row i h lt)

-- a share that begins with the namespace
is_its : (name : Namespace) (share : Share) → name_in share ≡ name → is_named name share ≡ true
is_its name share e = (bytes_eq-Decides (name_in share).0 name.0).1 (ap (λ (n : Namespace). n.0) e)

-- a share that begins with another
is_not_its : (name : Namespace) (share : Share) → name_in share ≢ name → is_named name share ≡ false
is_not_its name share ne =
    false_from_ne_true (is_named name share) (λ t. ne (same_name (name_in share) name ((bytes_eq-Decides (name_in share).0 name.0).0 t)))

-- shares that are those of a row of the square from a column on, each with its cell
shown_along : (square : SquareShares) (row from : ℕ) (shares : List Share)
    → ((i : ℕ) → i < length shares → get_or shares i blank ≡ share_at square.k square.shares (cell_on Row row (from + i)))
    → shown_from row from shares ≡ map (λ col. cell_share square (cell_on Row row col)) (ascending from (length shares))
unfolding shown_from ascending
shown_along square row from [] each = refl
shown_along square row from (share ∷ shares) each =
    let e : from + 0 ≡ from = omega arith in
    let first : share ≡ share_at square.k square.shares (cell_on Row row from) = each 0 (omega arith) ∙ ap (λ (c : ℕ). share_at square.k square.shares (cell_on Row row c)) e in
    let later = shown_along square row (suc from) shares (λ i h. let s : from + suc i ≡ suc from + i = omega arith in
    each (suc i) (omega (arith, h)) ∙ ap (λ (c : ℕ). share_at square.k square.shares (cell_on Row row c)) s) in
    ap₂ (λ (s : Share) (l : List (Cell × Share)). (cell_on Row row from, s) ∷ l) first later

-- where it stands at neighboring columns and nowhere else
pub row_shares-range : (square : SquareShares) (grid : List Share) (name : Namespace) (row from : ℕ) (shares : List Share)
    → Extends square.k square.shares grid → row < square.k → from + length shares ≤ square.k
    → ((i : ℕ) → i < length shares → get_or shares i blank ≡ get_or (axis_shares square.k grid Row row) (from + i) blank)
    → ((i : ℕ) → i < length shares → name_at (axis_names square.k grid Row row) (from + i) ≡ name)
    → IsNowhereElse name (axis_names square.k grid Row row) from (from + length shares)
    → shown_from row from shares ≡ row_shares square name row
row_shares-range square grid name row from shares extends h within same named nowhere =
    let k : ℕ = square.k in
    let f : ℕ → Cell × Share = λ col. cell_share square (cell_on Row row col) in
    let long : length (axis_names k grid Row row) ≡ 2 * k = length-line_names k Row row (axis_shares k grid Row row) in
    let own : (i : ℕ) → i < length shares → get_or shares i blank ≡ share_at k square.shares (cell_on Row row (from + i)) = λ i lt.
    same i lt ∙ axis_shares-at k grid row (from + i) (omega (arith, lt, within)) ∙ extends.quarter (cell_on Row row (from + i)) h (omega (arith, lt, within)) in
    shown_along square row from shares own
    ∙ sym (range_passes (λ p. is_named name p.1) f k from (length shares) within
    (λ i lt. is_its name (f (from + i)).1 (named_at square grid name row (from + i) extends h (omega (arith, lt, within)) ∙ named i lt))
    (λ i lt out. is_not_its name (f i).1 (λ e. nowhere i (omega (arith, lt, long)) out (sym (named_at square grid name row i extends h lt) ∙ e))))

-- where it stands nowhere, there are none
pub row_shares-none : (square : SquareShares) (grid : List Share) (name : Namespace) (row : ℕ) → Extends square.k square.shares grid → row < square.k
    → ((i : ℕ) → i < 2 * square.k → name_at (axis_names square.k grid Row row) i ≢ name) → row_shares square name row ≡ []
row_shares-none square grid name row extends h nowhere =
    none_pass (λ p. is_named name p.1) (λ col. cell_share square (cell_on Row row col)) square.k 0
    (λ i low high. is_not_its name (cell_share square (cell_on Row row i)).1
    (λ e. nowhere i (omega (arith, high)) (sym (named_at square grid name row i extends h (omega (arith, high))) ∙ e)))
