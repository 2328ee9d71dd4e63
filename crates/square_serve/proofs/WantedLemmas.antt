-- The namespaces of a row's root, by those of its leaves, and whether the row may hold one.
use Rattle.std.proofs.Common.{◌≡◌, ◌∙◌, ℕ, ◌+◌, ◌*◌, ◌^◌, ◌<◌, List, [], length, get_or, Bool, true, false, cond, Some, None, inl, inr, refl, sym, ap, ap₂, arith, true≢false}
use Rattle.std.proofs.lemmas.Bool.{cases_Bool, cases_lt}
use Rattle.std.proofs.lemmas.List.{length-map}
use Rattle.std.proofs.lemmas.Slice.Eq.{bytes_eq-Decides}
use Rattle.namespace_id.specs.declared.cells.Axis.TheVariants.{Row}
use Rattle.namespace_id.specs.declared.namespaces.Namespace.{Namespace}
use Rattle.namespace_id.specs.declared.shares.Share.{Share}
use Rattle.namespace_id.specs.declared.digests.Digest.{Digest}
use Rattle.namespace_id.specs.Names.{is_at_most, is_parity, parity}
use Rattle.namespace_id.specs.Shares.{AreShares, name_in}
use Rattle.namespace_id.specs.Digests.{least_of, greatest_of, no_digest}
use Rattle.namespace_id.specs.Cells.{is_width}
use Rattle.namespace_id.proofs.OrderLemmas.{at_most_antisym}
use Rattle.namespace_id.specs.Lists.{ascending}
use Rattle.namespace_id.proofs.AscendingLemmas.{length-ascending}
use Rattle.namespace_id.proofs.PowerLemmas.{double_halvings}
use Rattle.nmt_tree.specs.Roots.{halvings}
use Rattle.nmt_tree.specs.Spans.{name_at, IsOver}
use Rattle.nmt_tree.proofs.NameLemmas.{same_name, ordered_at}
use Rattle.axis_roots.proofs.Grids.AxisLemmas.{get_or-mapped}
use Rattle.data_header.specs.Headers.{root_of}
use Rattle.axis_roots.specs.Grids.{share_at, axis_names, axis_root, are_ordered_axes, header_of_grid, grid_roots}
use Rattle.axis_roots.proofs.Grids.StoredLemmas.{axis_shares-are}
use Rattle.square_serve.specs.Answers.{is_wanted}
use Rattle.square_serve.specs.declared.rows.RowNames.{RowNames}
use Rattle.square_serve.specs.RowNames.{names_in, names_of, row_names, lies_between}
use Rattle.square_serve.proofs.RowLemmas.{axis_names-original, axis_names-parity}
use Rattle.square_serve.proofs.RowTreeLemmas.{IsRow, row_of, root_over, root_above}

-- a grid along which no namespaces fall has its roots as its header
pub roots_made : (k : ℕ) (grid : List Share) → are_ordered_axes k grid ≡ true → header_of_grid k grid ≡ Some (grid_roots k grid)
roots_made k grid ordered = ap (λ (b : Bool). cond b (Some (grid_roots k grid)) None) ordered

-- the root of a row, among all
root_at : (k : ℕ) (grid : List Share) (row : ℕ) → row < 2 * k → root_of (grid_roots k grid) Row row ≡ axis_root k grid Row row
root_at k grid row h = get_or-mapped (axis_root k grid Row) (2 * k) row no_digest h

-- the namespace that the first share of a row begins with is that of its first leaf
pub first_read : (k : ℕ) (grid : List Share) (row : ℕ) (share : Share) (name : Namespace) → row < k → share ≡ share_at (2 * k) grid (record { row = row; col = 0 })
    → name ≡ name_in share → name ≡ name_at (axis_names k grid Row row) 0
first_read k grid row share name h at is = is ∙ ap name_in at ∙ sym (axis_names-original k grid row 0 h (omega (arith, h)))

-- one of the first namespaces of a list is the last of them that isn't PARITY, or the first where all are
pub record IsLastTo (names : List Namespace) (number : ℕ) (name : Namespace) : Type 0 where
  pub place : ℕ
  pub within : place < number
  pub is : name ≡ name_at names place
  pub behind : (i : ℕ) → place < i → i < number → is_parity (name_at names i) ≡ true
  pub all : is_parity name ≡ true → place ≡ 0

-- the first one
pub last_first : (names : List Namespace) (name : Namespace) → name ≡ name_at names 0 → IsLastTo names 1 name
last_first names name is = record {
  place = 0;
  within = omega arith;
  is = is;
  behind = λ i low high. absurd (omega (arith, low, high));
  all = λ parity. refl;
}

-- one more, which isn't PARITY
pub last_next : (names : List Namespace) (number : ℕ) (name next : Namespace) → IsLastTo names number name → next ≡ name_at names number
    → is_parity next ≡ false → IsLastTo names (number + 1) next
last_next names number name next last is other = record {
  place = number;
  within = omega arith;
  is = is;
  behind = λ i low high. absurd (omega (arith, low, high));
  all = λ all. absurd (true≢false (sym all ∙ other));
}

-- one more, which is
pub last_same : (names : List Namespace) (number : ℕ) (name next : Namespace) → IsLastTo names number name → next ≡ name_at names number
    → is_parity next ≡ true → IsLastTo names (number + 1) name
last_same names number name next last is all = record {
  place = last.place;
  within = omega (arith, last.within);
  is = last.is;
  behind = λ i low high. elim (cases_lt i number) [
    | inl before ↦ last.behind i low before
    | inr here ↦ let at : i ≡ number = omega (arith, here, high) in ap is_parity (ap (name_at names) at ∙ sym is) ∙ all
  ];
  all = last.all;
}

module _ (k : ℕ) (grid : List Share) (row : ℕ) (width : is_width k ≡ true) (are : AreShares grid) (ordered : are_ordered_axes k grid ≡ true) (within : row < k) where
  -- the namespaces of the row's leaves
  abbrev pub names : List Namespace
  names = axis_names k grid Row row

  -- and its root
  abbrev pub top : Digest
  top = root_of (grid_roots k grid) Row row

  -- the row is one of the original square
  is_row : IsRow k grid row
  is_row = row_of k grid (grid_roots k grid) row width (axis_shares-are k grid Row row are) (roots_made k grid ordered) within

  -- what the namespaces of its root say
  over : IsOver names 0 (halvings (2 * k)) top
  over = root_over k grid row is_row (grid_roots k grid) (roots_made k grid ordered)

  -- a namespace that is PARITY
  all_ones : (n : Namespace) → is_parity n ≡ true → n ≡ parity
  all_ones n e = same_name n parity ((bytes_eq-Decides n.0 parity.0).0 e)

  -- behind the last that isn't, among the first k, all leaves of the row have it
  parity_behind : (place i : ℕ) → place < i → ((j : ℕ) → place < j → j < k → is_parity (name_at names j) ≡ true) → i < 2 * k → name_at names i ≡ parity
  parity_behind place i after behind lt = elim (cases_lt i k) [
    | inl within_k ↦ all_ones (name_at names i) (behind i after within_k)
    | inr beyond ↦ axis_names-parity k grid row i within beyond lt
  ]

  -- the last namespace that isn't PARITY, among the first k, is the root's greatest; so is PARITY where all are
  pub greatest_told : (greatest : Namespace) → IsLastTo names k greatest → greatest ≡ greatest_of top
  greatest_told greatest last =
      let size : 2 ^ halvings (2 * k) ≡ 2 * k = double_halvings k width in
      let within_row : over.place < 2 * k = omega (arith, over.high, size) in
      let long : length names ≡ 2 * k = is_row.leaves.name_count ∙ size in
      elim (cases_Bool (is_parity greatest)) [
        | inl all ↦
            let first : last.place ≡ 0 = last.all all in
            let there : name_at names over.place ≡ parity = elim (cases_lt 0 over.place) [
              | inl after ↦ parity_behind last.place over.place (omega (arith, after, first)) last.behind within_row
              | inr zero ↦
                  let at : over.place ≡ last.place = omega (arith, zero, first) in
                  ap (name_at names) at ∙ sym last.is ∙ all_ones greatest all
            ] in
            all_ones greatest all ∙ sym (over.greatest ∙ there)
        | inr other ↦
            let apart : is_parity (name_at names last.place) ≡ false = ap is_parity (sym last.is) ∙ other in
            let low : is_at_most (name_at names last.place) (greatest_of top) ≡ true =
            root_above k grid row is_row (grid_roots k grid) (roots_made k grid ordered) last.place (omega arith) (omega (arith, last.within, size)) apart in
            elim (cases_lt last.place over.place) [
              | inl after ↦
                  let ones : greatest_of top ≡ parity = over.greatest ∙ parity_behind last.place over.place after last.behind within_row in
                  let least : least_of top ≡ parity =
                  all_ones (least_of top) (over.parity ((bytes_eq-Decides (greatest_of top).0 parity.0).1 (ap (λ (n : Namespace). n.0) ones))) in
                  let high : is_at_most parity (name_at names last.place) ≡ true =
                  ap (λ (n : Namespace). is_at_most n (name_at names last.place)) (sym least ∙ over.least)
                  ∙ ordered_at names 0 last.place is_row.ordered (omega arith) (omega (arith, last.within, long)) in
                  let same : name_at names last.place ≡ parity =
                  at_most_antisym (name_at names last.place) parity (ap (is_at_most (name_at names last.place)) (sym ones) ∙ low) high in
                  absurd (true≢false (sym ((bytes_eq-Decides (name_at names last.place).0 parity.0).1 (ap (λ (n : Namespace). n.0) same)) ∙ apart))
              | inr before ↦
                  last.is ∙ at_most_antisym (name_at names last.place) (greatest_of top) low
                  (ap (λ (n : Namespace). is_at_most n (name_at names last.place)) over.greatest
                  ∙ ordered_at names over.place last.place is_row.ordered before (omega (arith, last.within, long)))
            ]
      ]

  -- so the namespaces that are told are those of the row's root
  pub names_told : (least greatest : Namespace) → least ≡ name_at names 0 → IsLastTo names k greatest
      → record { least = least; greatest = greatest } ≡ names_of k grid row
  names_told least greatest first last =
      ap₂ (λ (a b : Namespace). record { least = a; greatest = b }) (first ∙ sym over.least) (greatest_told greatest last)
      ∙ ap names_in (root_at k grid row (omega (arith, within)))

-- there is a pair for each row of the original square
pub length-row_names : (k : ℕ) (grid : List Share) → length (row_names k grid) ≡ k
length-row_names k grid = length-map (ascending 0 k) (names_of k grid) ∙ length-ascending k 0

-- a pair of no namespaces
abbrev pub no_names : RowNames
no_names = record { least = record { 0 = [] }; greatest = record { 0 = [] } }

-- a row may hold what lies between the namespaces that are told for it
pub between_wanted : (k : ℕ) (grid : List Share) (told : List RowNames) (row : ℕ) (name : Namespace) → told ≡ row_names k grid → row < k
    → lies_between (get_or told row no_names) name ≡ is_wanted (grid_roots k grid) name row
between_wanted k grid told row name are h =
    ap (λ (n : RowNames). lies_between n name)
    (ap (λ (l : List RowNames). get_or l row no_names) are ∙ get_or-mapped (names_of k grid) k row no_names h
    ∙ ap names_in (sym (root_at k grid row (omega (arith, h)))))
