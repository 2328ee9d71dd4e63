-- What is refused for nothing holds, and what holds is refused for nothing.
use Rattle.std.proofs.Common.{◌≡◌, ◌∙◌, ℕ, suc, ◌+◌, ◌-◌, ◌*◌, ◌/◌, List, [], ◌∷◌, Bool, true, false, cond, Option, Some, None, refl, sym, ap, inl, inr}
use Rattle.std.specs.Prelude.{IsOk, ◌↔◌, Result, Ok, Err, if◌then◌else◌}
use Rattle.std.specs.Option.{option_map_or}
use Rattle.std.specs.Str.{bytes_eq}
use Rattle.std.proofs.lemmas.Option.{none-some}
use Rattle.std.proofs.lemmas.Bool.{cases_Bool}
use Rattle.std.proofs.lemmas.Slice.Eq.{bytes_eq-Decides}
use Rattle.namespace_id.specs.declared.cells.Axis.TheVariants.{Row}
use Rattle.namespace_id.specs.Answers.{refusal_in}
use Rattle.namespace_id.proofs.RefusalLemmas.{both_none, none_both}
use Rattle.nmt_tree.specs.Roots.{halvings}
use Rattle.nmt_proofs.specs.declared.opening.OpenRefusal.{OpenRefusal}
use Rattle.nmt_proofs.proofs.Parts.CauseLemmas.{opens_where, not_refused_where}
use Rattle.blob_commit.specs.Cuts.{levels_of}
use Rattle.blob_commit.specs.Commitments.{root_of_digests}
use Rattle.blob_commit.specs.Proofs.{RowParts, CommitParts, part_of_row, shown_in, has_commit_shape, RowsLead, RowsOpen, subtrees_of, CommitHolds}
use Rattle.blob_commit.specs.Refusals.{is_led, first_unled, row_refusal, first_unopened, commit_refusal}
use Rattle.blob_commit.specs.declared.proving.CommitRefusal.{CommitRefusal}
use Rattle.blob_commit.specs.declared.proving.CommitRefusal.TheVariants.{Shape, Root, Nodes, Commitment}
use Rattle.blob_commit.proofs.WalkLemmas.{led-opens, opens-led}

-- of rows
leads_of : (root : List ℕ) (k index number : ℕ) (rows : List RowParts) → first_unled root k index number rows ≡ None → RowsLead root k index rows
unfolding first_unled
leads_of root k index number [] e = tt
leads_of root k index number (row ∷ rows) e = elim (cases_Bool (is_led root k Row index row.root row.up)) [
  | inl t ↦ (
    led-opens root k Row index row.root row.up t,
    leads_of root k (suc index) (suc number) rows (sym (ap (λ (b : Bool). cond b (first_unled root k (suc index) (suc number) rows) (Some number)) t) ∙ e),
  )
  | inr f ↦ absurd (none-some _ (sym e ∙ ap (λ (b : Bool). cond b (first_unled root k (suc index) (suc number) rows) (Some number)) f))
]

lead_none : (root : List ℕ) (k index number : ℕ) (rows : List RowParts) → RowsLead root k index rows → first_unled root k index number rows ≡ None
unfolding first_unled
lead_none root k index number [] h = refl
lead_none root k index number (row ∷ rows) h =
    ap (λ (b : Bool). cond b (first_unled root k (suc index) (suc number) rows) (Some number)) (opens-led root k Row index row.root row.up h.0)
    ∙ lead_none root k (suc index) (suc number) rows h.1

open_of : (k levels at left number : ℕ) (rows : List RowParts) → first_unopened k levels at left number rows ≡ None → RowsOpen k levels at left rows
unfolding first_unopened
open_of k levels at left number [] e = tt
open_of k levels at left number (row ∷ rows) e =
    let both = both_none (λ (w : OpenRefusal). (number, w)) (row_refusal k levels at left row) (first_unopened k levels (at + part_of_row k at left) (left - part_of_row k at left) (suc number) rows) e in (
      opens_where (halvings (2 * k)) (shown_in k levels at left row) row.nodes row.root both.0,
      open_of k levels (at + part_of_row k at left) (left - part_of_row k at left) (suc number) rows both.1,
    )

open_none : (k levels at left number : ℕ) (rows : List RowParts) → RowsOpen k levels at left rows → first_unopened k levels at left number rows ≡ None
unfolding first_unopened
open_none k levels at left number [] h = refl
open_none k levels at left number (row ∷ rows) h =
    none_both (λ (w : OpenRefusal). (number, w)) (row_refusal k levels at left row) (first_unopened k levels (at + part_of_row k at left) (left - part_of_row k at left) (suc number) rows)
    (not_refused_where (halvings (2 * k)) (shown_in k levels at left row) row.nodes row.root h.0)
    (open_none k levels (at + part_of_row k at left) (left - part_of_row k at left) (suc number) rows h.1)

-- of a commitment
same_root : (a b : List ℕ) → (if bytes_eq a b then None else Some Commitment) ≡ None → a ≡ b
same_root a b e = elim (cases_Bool (bytes_eq a b)) [
  | inl t ↦ (bytes_eq-Decides a b).0 t
  | inr f ↦ absurd (none-some _ (sym e ∙ ap (λ (x : Bool). cond x None (Some Commitment)) f))
]

-- of a proof
pub holds_of : (root : List ℕ) (proof : CommitParts) → commit_refusal root proof ≡ None → CommitHolds root proof
holds_of root proof e =
    let index : ℕ = proof.start / proof.k in
    let last : Option CommitRefusal = if bytes_eq (root_of_digests (subtrees_of proof.rows)) proof.commitment then None else Some Commitment in
    let unopened = first_unopened proof.k (levels_of proof.count) proof.start proof.count 0 proof.rows in
    let checks : Option CommitRefusal = option_map_or (λ i. Some (Root i)) (first_unled root proof.k index 0 proof.rows) (option_map_or (λ w. Some (Nodes w.0 w.1)) unopened last) in
    elim (cases_Bool (has_commit_shape proof)) [
      | inr f ↦ absurd (none-some _ (sym e ∙ ap (λ (b : Bool). cond b checks (Some Shape)) f))
      | inl t ↦
          let one = both_none (λ (i : ℕ). Root i) (first_unled root proof.k index 0 proof.rows) (option_map_or (λ w. Some (Nodes w.0 w.1)) unopened last) (sym (ap (λ (b : Bool). cond b checks (Some Shape)) t) ∙ e) in
          let two = both_none (λ (w : ℕ × OpenRefusal). Nodes w.0 w.1) unopened last one.1 in
          record {
            shape = t;
            lead = leads_of root proof.k index 0 proof.rows one.0;
            opens = open_of proof.k (levels_of proof.count) proof.start proof.count 0 proof.rows two.0;
            commitment = same_root (root_of_digests (subtrees_of proof.rows)) proof.commitment two.1;
          }
    ]

pub refused_for_nothing : (root : List ℕ) (proof : CommitParts) → CommitHolds root proof → commit_refusal root proof ≡ None
refused_for_nothing root proof h =
    let index : ℕ = proof.start / proof.k in
    let last : Option CommitRefusal = if bytes_eq (root_of_digests (subtrees_of proof.rows)) proof.commitment then None else Some Commitment in
    let unopened = first_unopened proof.k (levels_of proof.count) proof.start proof.count 0 proof.rows in
    let checks : Option CommitRefusal = option_map_or (λ i. Some (Root i)) (first_unled root proof.k index 0 proof.rows) (option_map_or (λ w. Some (Nodes w.0 w.1)) unopened last) in
    ap (λ (b : Bool). cond b checks (Some Shape)) h.shape
    ∙ none_both (λ (i : ℕ). Root i) (first_unled root proof.k index 0 proof.rows) (option_map_or (λ w. Some (Nodes w.0 w.1)) unopened last) (lead_none root proof.k index 0 proof.rows h.lead)
    (none_both (λ (w : ℕ × OpenRefusal). Nodes w.0 w.1) unopened last (open_none proof.k (levels_of proof.count) proof.start proof.count 0 proof.rows h.opens)
    (ap (λ (b : Bool). cond b None (Some Commitment)) ((bytes_eq-Decides (root_of_digests (subtrees_of proof.rows)) proof.commitment).1 h.commitment)))

-- of an answer
pub accepts_by : {T E : Type 0} (r : Result T E) (o : Option E) (H : Type 0) → refusal_in r ≡ o → (o ≡ None → H) → (H → o ≡ None) → IsOk r ↔ H
accepts_by (Ok x) o H e f g = (λ _. f (sym e), λ _. refl)
accepts_by (Err x) o H e f g = (λ h. absurd (let no : false ≡ true = h in cc), λ h. absurd (none-some _ (sym (e ∙ g h))))
