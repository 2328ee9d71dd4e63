-- What is made of all rows and of all columns, where their namespaces never fall.
use Rattle.std.proofs.Common.{◌≡◌, ◌∙◌, ℕ, ◌*◌, List, length, Bool, true, false, cond, ◌&&◌, sym, ap, refl, IsTrue}
use Rattle.std.specs.Prelude.{Option, Some, None}
use Rattle.std.specs.List.{list_all}
use Rattle.std.specs.Option.{option_map}
use Rattle.std.proofs.lemmas.Bool.{and_from, and_right}
use Rattle.std.proofs.lemmas.List.{length-map}
use Rattle.namespace_id.specs.declared.cells.Axis.{Axis}
use Rattle.namespace_id.specs.declared.cells.Axis.TheVariants.{Row, Col}
use Rattle.namespace_id.specs.declared.shares.Share.{Share}
use Rattle.namespace_id.specs.declared.digests.Digest.{Digest}
use Rattle.namespace_id.specs.Cells.{is_width}
use Rattle.data_header.specs.Headers.{AreRoots}
use Rattle.namespace_id.specs.Lists.{ascending}
use Rattle.namespace_id.proofs.AscendingLemmas.{length-ascending}
use Rattle.axis_roots.specs.Grids.{axis_root, axis_roots, is_ordered_axis, are_ordered_axes}

-- whether all axes of one kind are ordered
abbrev pub are_ordered_along : ℕ → List Share → Axis → Bool
are_ordered_along k shares axis = list_all (is_ordered_axis k shares axis) (ascending 0 (2 * k))

-- values along all axes of one kind, where these are ordered
abbrev pub along_if : {X : Type 0} → ℕ → List Share → Axis → List X → Option (List X)
along_if k shares axis values = cond (are_ordered_along k shares axis) (Some values) None

-- what is made of all axes, where these are ordered
abbrev pub made_if : {X : Type 0} → ℕ → List Share → X → Option X
made_if k shares whole = cond (are_ordered_axes k shares) (Some whole) None

module _ {A X : Type 0} where
  -- no values were found only where not all axes are ordered
  none_along : (b : Bool) (values : List X) (items : A → List X) (made : Option A) → option_map items made ≡ cond b (Some values) None → made ≡ None → b ≡ false
  none_along true values items made is none = let both : None ≡ Some values = sym (ap (option_map items) none) ∙ is in absurd cc
  none_along false values items made is none = refl

  -- values that were found are those of all axes
  some_along : (b : Bool) (values : List X) (items : A → List X) (made : Option A) (found : A) → option_map items made ≡ cond b (Some values) None → made ≡ Some found
      → (b ≡ true) × (items found ≡ values)
  some_along true values items made found is some = let both : Some (items found) ≡ Some values = sym (ap (option_map items) some) ∙ is in (refl, cc)
  some_along false values items made found is some = let both : Some (items found) ≡ None = sym (ap (option_map items) some) ∙ is in absurd cc

  -- what is found where the values along one kind of axes were asked for
  pub found_along : (k : ℕ) (shares : List Share) (axis : Axis) (values : List X) (items : A → List X) (made : Option A) (found : A)
      → option_map items made ≡ along_if k shares axis values → made ≡ Some found → (are_ordered_along k shares axis ≡ true) × (items found ≡ values)
  found_along k shares axis values items made found is some = some_along (are_ordered_along k shares axis) values items made found is some

  -- of a grid with a row that falls, or a column, nothing is made
  pub no_rows : {W : Type 0} (k : ℕ) (shares : List Share) (values : List X) (whole : W) (items : A → List X) (made : Option A)
      → option_map items made ≡ along_if k shares Row values → made ≡ None → None ≡ made_if k shares whole
  unfolding are_ordered_axes
  no_rows k shares values whole items made is none =
      sym (ap (λ (b : Bool). cond (b && are_ordered_along k shares Col) (Some whole) None) (none_along (are_ordered_along k shares Row) values items made is none))

  -- the same, of columns
  pub no_cols : {W : Type 0} (k : ℕ) (shares : List Share) (values : List X) (whole : W) (items : A → List X) (made : Option A)
      → option_map items made ≡ along_if k shares Col values → made ≡ None → None ≡ made_if k shares whole
  unfolding are_ordered_axes
  no_cols k shares values whole items made is none =
      let falls : are_ordered_along k shares Col ≡ false = none_along (are_ordered_along k shares Col) values items made is none in
      sym (ap (λ (b : Bool). cond b (Some whole) None)
      (ap (λ (b : Bool). are_ordered_along k shares Row && b) falls ∙ and_right (are_ordered_along k shares Row) false refl))

-- of one whose rows and columns are ordered, all is
pub both_along : {W : Type 0} (k : ℕ) (shares : List Share) (made whole : W) → are_ordered_along k shares Row ≡ true → are_ordered_along k shares Col ≡ true
    → made ≡ whole → Some made ≡ made_if k shares whole
unfolding are_ordered_axes
both_along k shares made whole by_rows by_cols same =
    ap Some same ∙ sym (ap (λ (b : Bool). cond b (Some whole) None) (and_from (are_ordered_along k shares Row) (are_ordered_along k shares Col) by_rows by_cols))

-- roots of all axes of one kind are 2k
pub length-roots : (k : ℕ) (shares : List Share) (axis : Axis) (roots : List Digest) → roots ≡ axis_roots k shares axis → length roots ≡ 2 * k
length-roots k shares axis roots is = ap length is ∙ length-map (ascending 0 (2 * k)) (axis_root k shares axis) ∙ length-ascending (2 * k) 0

-- both kinds of roots make a header
pub are_roots : (k n : ℕ) (shares : List Share) (rows cols : List Digest) → n ≡ k → IsTrue (is_width n)
    → rows ≡ axis_roots k shares Row → cols ≡ axis_roots k shares Col → AreRoots (record { k = n; rows = rows; cols = cols })
are_roots k n shares rows cols same width by_rows by_cols = record {
  width = width;
  rows = length-roots k shares Row rows by_rows ∙ ap (λ (m : ℕ). 2 * m) (sym same);
  cols = length-roots k shares Col cols by_cols ∙ ap (λ (m : ℕ). 2 * m) (sym same);
}
