-- Leaves that were hashed, and trees that are made of them.
use Rattle.std.proofs.Common.{◌≡◌, ◌≢◌, ◌∙◌, ℕ, ◌+◌, ◌*◌, ◌<◌, List, length, get_or, map, set, replicate, IsTrue, Some, None, inl, inr, refl, sym, ap, subst, arith, below_more}
use Rattle.std.specs.Prelude.{Option, IfSome, IsSome}
use Rattle.std.proofs.lemmas.Bool.{cases_eq}
use Rattle.std.proofs.lemmas.List.{get_or-set_same, get_or-set_other, length-set, length-replicate, get_or-replicate, ext_get_or, length-map}
use Rattle.namespace_id.specs.declared.cells.Cell.{Cell}
use Rattle.namespace_id.specs.declared.cells.Axis.{Axis}
use Rattle.namespace_id.specs.declared.cells.Axis.TheVariants.{Row}
use Rattle.namespace_id.specs.declared.shares.Share.{Share}
use Rattle.namespace_id.specs.declared.digests.Digest.{Digest}
use Rattle.namespace_id.specs.Cells.{is_in_square}
use Rattle.namespace_id.specs.Lists.{ascending}
use Rattle.namespace_id.proofs.AscendingLemmas.{length-ascending}
use Rattle.namespace_id.proofs.BelowLemmas.{same_cell}
use Rattle.nmt_tree.specs.Trees.{StoredTree, digest_over}
use Rattle.axis_roots.specs.Grids.{leaf_over}
use Rattle.axis_roots.specs.Trees.{axis_leaves, axis_stored, no_tree}
use Rattle.axis_roots.proofs.Grids.AxisLemmas.{get_or-mapped}
use Rattle.axis_roots.proofs.Grids.NumberLemmas.{inside, number-lt}
use Rattle.square_serve.specs.Needed.{AreNeededLeaves, IsNeededTree, AreNeededTrees, empty_trees}

-- one more leaf that was hashed
pub leaf_put : (k : ℕ) (grid : List Share) (leaves : List (Option Digest)) (place : ℕ) (cell : Cell) (digest : Digest) → IsTrue (is_in_square k cell)
    → place ≡ cell.row * (2 * k) + cell.col → digest ≡ leaf_over k grid cell → AreNeededLeaves k grid leaves → AreNeededLeaves k grid (set leaves place (Some digest))
leaf_put k grid leaves place cell digest in_square at is so_far = record {
  count = length-set leaves place (Some digest) ∙ so_far.count;
  digests = λ other in_other.
      let P : Option Digest → Type 0 = λ o. IfSome o (λ d. d ≡ leaf_over k grid other) in
      let number : ℕ = other.row * (2 * k) + other.col in
      let within : place < length leaves = omega (arith, at, so_far.count, number-lt (2 * k) cell (inside k cell in_square).0 (inside k cell in_square).1) in
      elim (cases_eq number place) [
        | inl here ↦
            let one : other ≡ cell = same_cell (2 * k) other cell (inside k other in_other).1 (inside k cell in_square).1 (here ∙ at) in
            subst P (sym (ap (λ (n : ℕ). get_or (set leaves place (Some digest)) n None) here ∙ get_or-set_same leaves place (Some digest) None within))
            (is ∙ ap (leaf_over k grid) (sym one))
        | inr apart ↦ subst P (sym (get_or-set_other leaves place number (Some digest) None apart)) (so_far.digests other in_other)
      ];
}

-- a value that is related as no digest is, is none
pub none_alone : (R : Option Digest → Type 0) → ((digest : Digest) → R (Some digest) → ⊥) → (y : Option Digest) → R y → y ≡ None
none_alone R never None holds = refl
none_alone R never (Some digest) holds = absurd (never digest holds)

-- where no leaf was hashed
pub no_leaves : (k number : ℕ) (grid : List Share) (leaves : List (Option Digest)) → leaves ≡ replicate number None → number ≡ 2 * k * (2 * k)
    → AreNeededLeaves k grid leaves
no_leaves k number grid leaves none all = record {
  count = ap length none ∙ length-replicate number None ∙ all;
  digests = λ cell in_square.
      let place : ℕ = cell.row * (2 * k) + cell.col in
      let within : place < number = omega (arith, all, number-lt (2 * k) cell (inside k cell in_square).0 (inside k cell in_square).1) in
      subst (λ (o : Option Digest). IfSome o (λ d. d ≡ leaf_over k grid cell)) (sym (ap (λ (l : List (Option Digest)). get_or l place None) none ∙ get_or-replicate number place None None within)) tt;
}

-- where no tree was made
pub no_trees : (k side : ℕ) (grid : List Share) (axis : Axis) (trees : List StoredTree) → trees ≡ empty_trees side side → side ≡ 2 * k → AreNeededTrees k grid axis trees
no_trees k side grid axis trees none all =
    let empty : StoredTree = record { count = side; leaves = None } in
    record {
      count = ap length none ∙ length-replicate side empty ∙ all;
      each = λ index h.
          subst (IsNeededTree k grid axis index) (sym (ap (λ (l : List StoredTree). get_or l index no_tree) none ∙ get_or-replicate side index empty no_tree (omega (arith, h, all))))
          (record { count = all; leaves = tt });
    }

-- empty trees for the rows of a square, none of which was made
pub empty_each : (k n side : ℕ) (grid : List Share) (trees : List StoredTree) → trees ≡ empty_trees n side → n ≡ k → side ≡ 2 * k
    → (length trees ≡ k) × ((row : ℕ) → row < k → IsNeededTree k grid Row row (get_or trees row no_tree))
empty_each k n side grid trees none same all =
    let empty : StoredTree = record { count = side; leaves = None } in (
      ap length none ∙ length-replicate n empty ∙ same,
      λ row h.
          subst (IsNeededTree k grid Row row) (sym (ap (λ (l : List StoredTree). get_or l row no_tree) none ∙ get_or-replicate n row empty no_tree (omega (arith, h, same))))
          (record { count = all; leaves = tt }),
    )

-- one more value of a list that is written in order
pub filled_next : {A : Type 0} (f : ℕ → A) (d : A) (xs : List A) (i : ℕ) (x : A) → i < length xs → x ≡ f i
    → ((j : ℕ) → j < i → get_or xs j d ≡ f j) → (j : ℕ) → j < i + 1 → get_or (set xs i x) j d ≡ f j
filled_next f d xs i x within is before =
    below_more _ _
    (λ j h. let other : j ≢ i = omega (arith, h) in get_or-set_other xs i j x d other ∙ before j h)
    (get_or-set_same xs i x d within ∙ is)

-- numbers below a bound, with one more of them written
pub bound_kept : (xs : List ℕ) (n i x bound : ℕ) → i < length xs → x < bound
    → ((j : ℕ) → j < n → get_or xs j 0 < bound) → (j : ℕ) → j < n → get_or (set xs i x) j 0 < bound
bound_kept xs n i x bound within low before j h =
    elim (cases_eq j i) [
      | inl here ↦ subst (λ (y : ℕ). y < bound) (sym (ap (λ (p : ℕ). get_or (set xs i x) p 0) here ∙ get_or-set_same xs i x 0 within)) low
      | inr other ↦ subst (λ (y : ℕ). y < bound) (sym (get_or-set_other xs i j x 0 other)) (before j h)
    ]

-- a list that has the values at all numbers below its length
pub mapped_all : {A : Type 0} (f : ℕ → A) (n : ℕ) (d : A) (xs : List A) → length xs ≡ n → ((i : ℕ) → i < n → get_or xs i d ≡ f i) → xs ≡ map f (ascending 0 n)
mapped_all f n d xs long each =
    ext_get_or d xs (map f (ascending 0 n)) (long ∙ sym (length-map (ascending 0 n) f ∙ length-ascending n 0)) (λ i h.
    let within : i < n = omega (arith, h, long) in
    each i within ∙ sym (get_or-mapped f n i d within))

-- by what a tree has
stored_by : (k : ℕ) (grid : List Share) (axis : Axis) (index n : ℕ) (o : Option (List Digest)) → IsSome (digest_over (record { count = n; leaves = o }) 0 n) → n ≡ 2 * k
    → IfSome o (λ leaves. leaves ≡ axis_leaves k grid axis index) → record { count = n; leaves = o } ≡ axis_stored k grid axis index
stored_by k grid axis index n None some count leaves = absurd cc
stored_by k grid axis index n (Some made) some count leaves = λ i. record { count = count i; leaves = Some (leaves i) }

-- a tree that has a root has the leaves of its axis
pub rooted_stored : (k : ℕ) (grid : List Share) (axis : Axis) (index : ℕ) (tree : StoredTree) → IsSome (digest_over tree 0 tree.count) → IsNeededTree k grid axis index tree
    → tree ≡ axis_stored k grid axis index
rooted_stored k grid axis index tree some needed = stored_by k grid axis index tree.count tree.leaves some needed.count needed.leaves

-- so has one whose leaves are those
pub filled_stored : (k : ℕ) (grid : List Share) (axis : Axis) (index : ℕ) (tree : StoredTree) → tree.count ≡ 2 * k → tree.leaves ≡ Some (axis_leaves k grid axis index)
    → tree ≡ axis_stored k grid axis index
filled_stored k grid axis index tree count leaves = λ i. record { count = count i; leaves = leaves i }

-- and it is one that may be asked for
pub filled_needed : (k : ℕ) (grid : List Share) (axis : Axis) (index : ℕ) (tree : StoredTree) → tree ≡ axis_stored k grid axis index → IsNeededTree k grid axis index tree
filled_needed k grid axis index tree is =
    subst (IsNeededTree k grid axis index) (sym is) (record { count = refl; leaves = refl })
