-- The first row whose hashes don't lead to the data root.
use Rattle.std.proofs.Common.{◌≡◌, ◌∙◌, ℕ, suc, ◌+◌, ◌/◌, List, [], ◌∷◌, ◌++◌, length, Bool, false, cond, Some, refl, sym, ap, subst, inl, inr, arith}
use Rattle.std.proofs.lemmas.Option.{none-some}
use Rattle.std.proofs.lemmas.Bool.{cases_Bool}
use Rattle.namespace_id.specs.declared.cells.Axis.TheVariants.{Row}
use Rattle.blob_commit.specs.Proofs.{RowParts, CommitParts, RowsLead}
use Rattle.blob_commit.specs.Refusals.{is_led, first_unled, unled_row, IsFirstUnled}
use Rattle.blob_commit.proofs.WalkLemmas.{led-opens}

-- the first one, where the rows are counted from some number on
record FoundFrom (root : List ℕ) (k index number : ℕ) (rows : List RowParts) (i : ℕ) : Type 0 where
  pub before : List RowParts
  pub row : RowParts
  pub after : List RowParts
  pub parts : rows ≡ before ++ row ∷ after
  pub number_is : i ≡ number + length before
  pub lead : RowsLead root k index before
  pub unled : is_led root k Row (index + length before) row.root row.up ≡ false

found_from : (root : List ℕ) (k index number : ℕ) (rows : List RowParts) (i : ℕ) → first_unled root k index number rows ≡ Some i
    → FoundFrom root k index number rows i
unfolding first_unled
found_from root k index number [] i e = absurd (none-some i e)
found_from root k index number (row ∷ rows) i e = elim (cases_Bool (is_led root k Row index row.root row.up)) [
  | inl t ↦
      let rest = found_from root k (suc index) (suc number) rows i
      (sym (ap (λ (b : Bool). cond b (first_unled root k (suc index) (suc number) rows) (Some number)) t) ∙ e) in
      let up : suc index + length rest.before ≡ index + suc (length rest.before) = omega arith in
      record {
        before = row ∷ rest.before;
        row = rest.row;
        after = rest.after;
        parts = ap (λ (l : List RowParts). row ∷ l) rest.parts;
        number_is = omega (arith, rest.number_is);
        lead = (led-opens root k Row index row.root row.up t, rest.lead);
        unled = subst (λ (n : ℕ). is_led root k Row n rest.row.root rest.row.up ≡ false) up rest.unled;
      }
  | inr f ↦
      let same : Some number ≡ Some i =
      sym (ap (λ (b : Bool). cond b (first_unled root k (suc index) (suc number) rows) (Some number)) f) ∙ e in
      let one : number ≡ i = cc in
      let up : index ≡ index + 0 = omega arith in
      record {
        before = [];
        row = row;
        after = rows;
        parts = refl;
        number_is = omega (arith, one);
        lead = tt;
        unled = subst (λ (n : ℕ). is_led root k Row n row.root row.up ≡ false) up f;
      }
]

-- the one that a refusal names
pub first_of : (root : List ℕ) (proof : CommitParts) (i : ℕ) → unled_row root proof ≡ Some i
    → IsFirstUnled root proof.k (proof.start / proof.k) proof.rows i
first_of root proof i e =
    let found = found_from root proof.k (proof.start / proof.k) 0 proof.rows i e in
    record {
      before = found.before;
      row = found.row;
      after = found.after;
      parts = found.parts;
      number = omega (arith, found.number_is);
      lead = found.lead;
      unled = found.unled;
    }
