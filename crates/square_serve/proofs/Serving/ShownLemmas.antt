-- What is found of a namespace in a row shows exactly the row's shares of it.
use Rattle.std.proofs.Common.{◌≡◌, ◌≢◌, ◌∙◌, ℕ, ◌+◌, ◌*◌, ◌<◌, List, length, drop, false, inl, inr, sym, ap, arith}
use Rattle.std.proofs.lemmas.Bool.{cases_lt}
use Rattle.std.proofs.lemmas.List.{get_or-take, get_or-drop}
use Rattle.namespace_id.specs.declared.cells.Axis.TheVariants.{Row}
use Rattle.namespace_id.specs.declared.namespaces.Namespace.{Namespace}
use Rattle.namespace_id.specs.declared.shares.Share.{Share}
use Rattle.namespace_id.specs.Names.{IsNamespace, is_at_most, is_parity}
use Rattle.namespace_id.proofs.OrderLemmas.{at_most_refl}
use Rattle.nmt_tree.specs.Spans.{name_at}
use Rattle.nmt_proofs.specs.Complete.{IsNowhereElse}
use Rattle.square_layout.specs.Blocks.{SquareShares}
use Rattle.axis_roots.specs.Lines.{blank}
use Rattle.axis_roots.specs.Grids.{Extends, axis_names, axis_shares}
use Rattle.square_serve.specs.Shares.{row_shares}
use Rattle.square_serve.specs.Answers.{shown_found}
use Rattle.square_serve.specs.Serving.{found_in}
use Rattle.square_serve.proofs.RowLemmas.{row_shares-range, row_shares-none}
use Rattle.square_serve.proofs.Serving.PlaceLemmas.{at_most_not-below}
use Rattle.square_serve.proofs.RowTreeLemmas.{IsRow}
use Rattle.square_serve.proofs.Serving.FoundLemmas.{found_both, below, same, stands, row_names, same-le}
use Rattle.square_serve.proofs.Serving.OpeningLemmas.{shown_in, length-shown}

module _ (name : Namespace) (k : ℕ) (grid : List Share) (row : ℕ) (named : IsNamespace name) (is : IsRow k grid row) where
  -- no leaf has the namespace but those that are counted
  nowhere_else : IsNowhereElse name (axis_names k grid Row row) (below name k grid row) (below name k grid row + same name k grid row)
  nowhere_else i within (inl before) e =
      at_most_not-below name (name_at (axis_names k grid Row row) i) (ap (is_at_most name) e ∙ at_most_refl name) ((stands name k grid row named is).under i before)
  nowhere_else i within (inr behind) e =
      at_most_not-below (name_at (axis_names k grid Row row) i) name (ap (λ (n : Namespace). is_at_most n name) e ∙ at_most_refl name) ((stands name k grid row named is).over i behind within)

  -- where none is counted, no leaf has it
  nowhere : same name k grid row ≡ 0 → (i : ℕ) → i < 2 * k → name_at (axis_names k grid Row row) i ≢ name
  nowhere none i lt =
      let within : i < length (axis_names k grid Row row) = omega (arith, lt, row_names name k grid row named is) in
      elim (cases_lt i (below name k grid row)) [
        | inl before ↦ nowhere_else i within (inl before)
        | inr behind ↦ nowhere_else i within (inr (omega (arith, behind, none)))
      ]

-- what is found shows the row's shares
pub found_shown : (name : Namespace) (square : SquareShares) (grid : List Share) (row : ℕ) → IsNamespace name → is_parity name ≡ false → Extends square.k square.shares grid → IsRow square.k grid row
    → shown_found row (found_in square.k grid name row) ≡ row_shares square name row
found_shown name square grid row named other extends is =
    let k : ℕ = square.k in
    let from : ℕ = below name k grid row in
    let count : ℕ = same name k grid row in
    let shown : List Share = shown_in name k grid row in
    let long : length shown ≡ count = length-shown name k grid row named is in
    found_both k grid row from count (λ found. shown_found row found ≡ row_shares square name row)
    (λ none. sym (row_shares-none square grid name row extends is.within (nowhere name k grid row named is none)))
    (λ some. row_shares-range square grid name row from shown extends is.within (omega (arith, long, same-le name k grid row named is other some))
    (λ i h. let within : i < count = omega (arith, h, long) in
    get_or-take count (drop from (axis_shares k grid Row row)) i blank within ∙ get_or-drop from (axis_shares k grid Row row) i blank)
    (λ i h. (stands name k grid row named is).here (from + i) (omega arith) (omega (arith, h, long)))
    (λ i within beside. nowhere_else name k grid row named is i within (elim beside [ inl before ↦ inl before | inr behind ↦ inr (omega (arith, behind, long)) ])))
