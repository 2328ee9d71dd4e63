-- What is found in a row, by the row's shares and its tree.
use Rattle.std.proofs.Common.{◌≡◌, ◌∙◌, ℕ, ◌+◌, ◌*◌, ◌<◌, ◌≤◌, List, length, take, drop, get_or, map, Bool, false, cond, refl, sym, ap, arith, length-drop}
use Rattle.std.specs.Prelude.{Some}
use Rattle.std.proofs.lemmas.Bool.{ne_eqb, eq-eqb}
use Rattle.std.proofs.lemmas.List.{get_or-take, get_or-drop, ext_get_or, length-take-le}
use Rattle.namespace_id.specs.declared.cells.Axis.TheVariants.{Row}
use Rattle.namespace_id.specs.declared.namespaces.Namespace.{Namespace}
use Rattle.namespace_id.specs.declared.shares.Share.{Share}
use Rattle.namespace_id.specs.declared.digests.Digest.{Digest}
use Rattle.namespace_id.specs.Names.{IsNamespace, is_parity}
use Rattle.namespace_id.specs.Shares.{name_in}
use Rattle.namespace_id.specs.Digests.{no_digest}
use Rattle.nmt_tree.specs.Trees.{StoredTree}
use Rattle.nmt_proofs.specs.Making.{leaf_nodes, range_nodes}
use Rattle.axis_roots.specs.declared.answers.Found.{Found}
use Rattle.axis_roots.specs.declared.answers.Found.TheVariants.{Range, Absence}
use Rattle.axis_roots.specs.Lines.{blank}
use Rattle.axis_roots.specs.Grids.{axis_names, axis_shares}
use Rattle.axis_roots.specs.Trees.{axis_leaves}
use Rattle.square_serve.specs.Rows.{IsRowTree}
use Rattle.square_serve.specs.declared.finding.RowFound.{RowFound}
use Rattle.square_serve.specs.declared.finding.RowFound.TheVariants as place
use Rattle.square_serve.specs.Finding.{found_among, found_on, HasColumns}
use Rattle.square_serve.specs.Serving.{count_below, count_same, found_at}
use Rattle.square_serve.proofs.RowFrontLemmas.{length-row, length-front, front_names}
use Rattle.square_serve.proofs.Serving.CountLemmas.{row_below, row_same}

-- shares within the front of a list
pub front_part : (k start count : ℕ) (xs front : List Share) → front ≡ take k xs → start + count ≤ length front → length front ≡ k → k ≤ length xs
    → take count (drop start front) ≡ take count (drop start xs)
front_part k start count xs front is within long le =
    let left : length (take count (drop start front)) ≡ count = length-take-le count (drop start front) (omega (arith, length-drop start front, within)) in
    let right : length (take count (drop start xs)) ≡ count = length-take-le count (drop start xs) (omega (arith, length-drop start xs, within, long, le)) in
    ext_get_or blank (take count (drop start front)) (take count (drop start xs)) (left ∙ sym right) (λ i lt.
    let below : i < count = omega (arith, lt, left) in
    get_or-take count (drop start front) i blank below ∙ get_or-drop start front i blank
    ∙ ap (λ (l : List Share). get_or l (start + i) blank) is ∙ get_or-take k xs (start + i) blank (omega (arith, below, within, long))
    ∙ sym (get_or-take count (drop start xs) i blank below ∙ get_or-drop start xs i blank))

module _ (k row start count : ℕ) (grid front : List Share) (tree : StoredTree) (is : IsRowTree k grid row front tree) where
  -- the digests of the row's leaves
  abbrev leaves : List Digest
  leaves = axis_leaves k grid Row row

  -- the tree has them
  made : tree.leaves ≡ Some leaves
  made = ap (λ (t : StoredTree). t.leaves) is.tree

  -- and is for 2k
  number : tree.count ≡ 2 * k
  number = ap (λ (t : StoredTree). t.count) is.tree

  -- what is found in these columns: the absence where there are none
  abbrev absence : Found
  absence = Absence start (get_or leaves start no_digest) (leaf_nodes (2 * k) leaves start)

  -- and the range where there are some
  abbrev range : Found
  range = Range start (take count (drop start (axis_shares k grid Row row))) (range_nodes (2 * k) leaves start count)

  -- an absence with the leaf and the nodes of the tree
  pub absence_found : (leaf : Digest) (nodes : List Digest) → count ≡ 0
      → ((l : List Digest) → tree.leaves ≡ Some l → leaf ≡ get_or l start no_digest)
      → ((l : List Digest) → tree.leaves ≡ Some l → nodes ≡ leaf_nodes tree.count l start)
      → Absence start leaf nodes ≡ found_at k grid row start count
  absence_found leaf nodes none first path =
      let one : leaf ≡ get_or leaves start no_digest = first leaves made in
      let way : nodes ≡ leaf_nodes (2 * k) leaves start = path leaves made ∙ ap (λ (n : ℕ). leaf_nodes n leaves start) number in
      (λ i. Absence start (one i) (way i)) ∙ sym (ap (λ (b : Bool). cond b absence range) (eq-eqb count 0 none))

  -- a range with the nodes of the tree
  pub range_found : (nodes : List Digest) → (count ≡ 0 → ⊥)
      → ((l : List Digest) → tree.leaves ≡ Some l → nodes ≡ range_nodes tree.count l start count)
      → Range start (take count (drop start (axis_shares k grid Row row))) nodes ≡ found_at k grid row start count
  range_found nodes some path =
      let way : nodes ≡ range_nodes (2 * k) leaves start count = path leaves made ∙ ap (λ (n : ℕ). range_nodes n leaves start count) number in
      ap (λ (l : List Digest). Range start (take count (drop start (axis_shares k grid Row row))) l) way ∙ sym (ap (λ (b : Bool). cond b absence range) (ne_eqb count 0 some))

-- the shares of a range are those of the front of a row
pub among_front : (k row : ℕ) (grid front : List Share) (place : RowFound) → front ≡ take k (axis_shares k grid Row row) → HasColumns (length front) place
    → found_among front place ≡ found_on k grid row place
among_front k row grid front (place.Range start count nodes) is columns =
    ap (λ (l : List Share). Range start l nodes)
    (front_part k start count (axis_shares k grid Row row) front is columns.1 (ap length is ∙ length-front k grid row) (omega (arith, length-row k grid row)))
among_front k row grid front (place.Absence pos leaf nodes) is columns = refl

module _ (k row : ℕ) (grid front : List Share) (name : Namespace) (within : row < k) (is : front ≡ take k (axis_shares k grid Row row)) where
  -- the shares of a row that are below a namespace are the leaves that are
  pub front_below : IsNamespace name → count_below name (map name_in front) ≡ count_below name (axis_names k grid Row row)
  front_below named = ap (count_below name) (front_names k grid front row within is) ∙ row_below k grid row name within named

  -- and so are those that have it
  pub front_same : is_parity name ≡ false → count_same name (map name_in front) ≡ count_same name (axis_names k grid Row row)
  front_same other = ap (count_same name) (front_names k grid front row within is) ∙ row_same k grid row name within other
