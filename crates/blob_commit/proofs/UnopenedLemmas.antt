-- The first row whose subtrees don't open, and why.
use Rattle.std.proofs.Common.{◌≡◌, ◌∙◌, ℕ, suc, ◌+◌, ◌-◌, ◌*◌, List, [], ◌∷◌, ◌++◌, length, Option, Some, None, refl, ap, arith}
use Rattle.std.specs.Option.{option_map_or}
use Rattle.std.proofs.lemmas.Option.{none-some}
use Rattle.nmt_tree.specs.Roots.{halvings}
use Rattle.nmt_proofs.specs.declared.opening.OpenRefusal.{OpenRefusal}
use Rattle.nmt_proofs.proofs.Parts.CauseLemmas.{opens_where}
use Rattle.blob_commit.specs.Cuts.{levels_of}
use Rattle.blob_commit.specs.Proofs.{RowParts, CommitParts, part_of_row, rest_behind, shown_in, RowsOpen}
use Rattle.blob_commit.specs.Refusals.{row_refusal, first_unopened, unopened_row, IsFirstUnopened}

-- the first one, where the rows are counted from some number on
record FoundFrom (k levels at left number : ℕ) (rows : List RowParts) (i : ℕ) (why : OpenRefusal) : Type 0 where
  pub before : List RowParts
  pub row : RowParts
  pub after : List RowParts
  pub parts : rows ≡ before ++ row ∷ after
  pub number_is : i ≡ number + length before
  pub opens : RowsOpen k levels at left before
  pub refused : row_refusal k levels (rest_behind k at left before).0 (rest_behind k at left before).1 row ≡ Some why

-- a row that doesn't open is the first itself; one that does stands before the first of the others
found_at : (k levels at left number : ℕ) (row : RowParts) (rows : List RowParts) (i : ℕ) (why : OpenRefusal) (o : Option OpenRefusal) → row_refusal k levels at left row ≡ o
    → (first_unopened k levels (at + part_of_row k at left) (left - part_of_row k at left) (suc number) rows ≡ Some (i, why)
    → FoundFrom k levels (at + part_of_row k at left) (left - part_of_row k at left) (suc number) rows i why)
    → option_map_or (λ w. Some (number, w)) o (first_unopened k levels (at + part_of_row k at left) (left - part_of_row k at left) (suc number) rows) ≡ Some (i, why)
    → FoundFrom k levels at left number (row ∷ rows) i why
found_at k levels at left number row rows i why None is later e =
    let rest = later e in
    record {
      before = row ∷ rest.before;
      row = rest.row;
      after = rest.after;
      parts = ap (λ (l : List RowParts). row ∷ l) rest.parts;
      number_is = omega (arith, rest.number_is);
      opens = (opens_where (halvings (2 * k)) (shown_in k levels at left row) row.nodes row.root is, rest.opens);
      refused = rest.refused;
    }
found_at k levels at left number row rows i why (Some w) is later e =
    let one : number ≡ i = ap (λ (x : Option (ℕ × OpenRefusal)). option_map_or (λ p. p.0) x 0) e in
    record {
      before = [];
      row = row;
      after = rows;
      parts = refl;
      number_is = omega (arith, one);
      opens = tt;
      refused = is ∙ ap (λ (x : Option (ℕ × OpenRefusal)). option_map_or (λ p. Some p.1) x None) e;
    }

-- of rows
found_from : (k levels at left number : ℕ) (rows : List RowParts) (i : ℕ) (why : OpenRefusal) → first_unopened k levels at left number rows ≡ Some (i, why)
    → FoundFrom k levels at left number rows i why
unfolding first_unopened
found_from k levels at left number [] i why e = absurd (none-some _ e)
found_from k levels at left number (row ∷ rows) i why e =
    found_at k levels at left number row rows i why (row_refusal k levels at left row) refl
    (λ later. found_from k levels (at + part_of_row k at left) (left - part_of_row k at left) (suc number) rows i why later) e

-- the one that a refusal names
pub unopened_is : (proof : CommitParts) (i : ℕ) (why : OpenRefusal) → unopened_row proof ≡ Some (i, why)
    → IsFirstUnopened proof.k (levels_of proof.count) proof.start proof.count proof.rows i why
unopened_is proof i why e =
    let found = found_from proof.k (levels_of proof.count) proof.start proof.count 0 proof.rows i why e in
    record {
      before = found.before;
      row = found.row;
      after = found.after;
      parts = found.parts;
      number = omega (arith, found.number_is);
      opens = found.opens;
      refused = found.refused;
    }
