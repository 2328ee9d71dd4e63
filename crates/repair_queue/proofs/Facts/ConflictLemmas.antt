-- A fact against a line of facts: a fraud, or a collision that is found.
use Rattle.std.proofs.Common.{◌≡◌, ◌∙◌, ℕ, ◌*◌, ◌<◌, List, sym, ap, subst, inl, inr}
use Rattle.std.specs.Prelude.{Some}
use Rattle.std.proofs.lemmas.Bool.{cases_eq}
use Rattle.namespace_id.specs.declared.cells.Cell.{Cell}
use Rattle.namespace_id.specs.declared.cells.Axis.{Axis}
use Rattle.namespace_id.specs.declared.shares.Share.{Share}
use Rattle.namespace_id.proofs.WidthLemmas.{is_width-pos}
use Rattle.nmt_tree.specs.Roots.{halvings, root, strict_root}
use Rattle.data_header.specs.Headers.{Roots, root_of}
use Rattle.axis_roots.specs.declared.message.messages.Message.{Message}
use Rattle.axis_roots.specs.declared.message.proved.Proved.{Proved}
use Rattle.axis_roots.specs.Messages.{position}
use Rattle.axis_roots.specs.Openings.{IsProved}
use Rattle.axis_roots.specs.Proved.{kept_message}
use Rattle.axis_roots.specs.Lines.{entry, cell_on, is_ordered_line, line_names, line_root, line_strict_root, line_tree}
use Rattle.axis_roots.specs.Claims.{ProofParts}
use Rattle.axis_roots.proofs.Grids.AxisLemmas.{cell_on-own}
use Rattle.axis_roots.proofs.Grids.HeaderLemmas.{some_if}
use Rattle.axis_roots.proofs.Grids.NumberLemmas.{index-lt, position-lt}
use Rattle.axis_roots.proofs.Messages.SetLemmas.{each_by}
use Rattle.befp_maker.specs.Conflicts.{IsLineOf, IsAgainst, positions_with, IsThroughOther, IsMessageOf, IsProofAgainst, IsClashAgainst}
use Rattle.repair_queue.specs.Closures.{AreChosen, Fact, rebuilt}
use Rattle.repair_queue.specs.Lines.{AreFacts}
use Rattle.repair_queue.specs.Verdicts.{IsFraud, of_line, IsFoundClash}
use Rattle.repair_queue.proofs.Facts.ChosenLemmas.{chosen-lt, with_chosen}
use Rattle.repair_queue.proofs.Places.TakenLemmas.{under_proved}

-- a certificate's cell with its share is a fact
abbrev pub IsFactOf : Roots → List Message → Proved → Type 0
IsFactOf header ms kept = Fact header ms (kept_message kept).cell (kept_message kept).share

-- a line whose strict root is the header's has it as its root
pub root_from_strict : (header : Roots) (axis : Axis) (i : ℕ) (line : List Share) → line_strict_root header.k axis i line ≡ Some (root_of header axis i)
    → line_root header.k axis i line ≡ root_of header axis i
unfolding strict_root line_root
root_from_strict header axis i line e =
    sym (some_if (is_ordered_line header.k axis i line) (root (halvings (2 * header.k)) (line_names header.k axis i line) line) (root_of header axis i) e).1

-- ---- a fraud

-- the fraud proof of a fact against a line of facts is a fraud
pub against_fraud : (header : Roots) (ms : List Message) (axis : Axis) (i : ℕ) (line : List Share) (other : Proved) (proof : ProofParts)
    → IsProofAgainst header axis i line other proof → AreFacts header ms axis i line → IsFactOf header ms other → IsFraud header ms proof.claim
against_fraud header ms axis i line other proof is facts fact = record {
  accepts = is.accepts;
  facts = each_by (IsMessageOf header.k axis i line (kept_message other)) (λ m. Fact header ms m.cell m.share) proof.claim.cells (λ m of. elim of [
    | inl same ↦ subst (λ (n : Message). Fact header ms n.cell n.share) (sym same) fact
    | inr (pos, below, cell, share) ↦
        subst (λ (c : Cell). Fact header ms c m.share) (sym cell) (subst (Fact header ms (cell_on axis i pos)) (sym share) (facts pos below))
  ]) is.messages;
}

-- ---- a collision

-- the codeword through a fact and through shares of a line of facts is made of facts
pub other_facts : (header : Roots) (ms : List Message) (axis : Axis) (i : ℕ) (line word : List Share) (other : Proved)
    → IsAgainst header axis i line other → AreFacts header ms axis i line → IsFactOf header ms other
    → IsThroughOther header.k line (position axis (kept_message other).cell) (kept_message other).share word → AreFacts header ms axis i word
other_facts header ms axis i line word other against facts fact through pos below =
    let cell : Cell = (kept_message other).cell in
    let place : ℕ = position axis cell in
    let proved : IsProved header (kept_message other) = under_proved header other against.under in
    let within : i < 2 * header.k = subst (λ (j : ℕ). j < 2 * header.k) against.on_axis (index-lt header.k axis cell proved.inside) in
    let are : AreChosen header.k (positions_with header.k place) =
    with_chosen header.k place (is_width-pos header.k proved.width) (position-lt header.k axis cell proved.inside) in
    let own : cell ≡ cell_on axis i place = sym (cell_on-own axis cell) ∙ ap (λ (j : ℕ). cell_on axis j place) against.on_axis in
    rebuilt axis i word (positions_with header.k place) pos within through.codeword are
    (λ p at. elim (cases_eq p place) [
      | inl e ↦
          subst (λ (q : ℕ). Fact header ms (cell_on axis i q) (entry word q)) (sym e)
          (subst (Fact header ms (cell_on axis i place)) (sym through.here)
          (subst (λ (c : Cell). Fact header ms c (kept_message other).share) own fact))
      | inr apart ↦
          subst (Fact header ms (cell_on axis i p)) (sym (through.others p at apart))
          (facts p (chosen-lt header.k (positions_with header.k place) are p at))
    ]) below

-- where it has the header's root too, the collision of both trees is found
pub against_clash : (header : Roots) (ms : List Message) (axis : Axis) (i : ℕ) (line : List Share) (other : Proved) (left right : List ℕ)
    → IsLineOf header axis i line → IsAgainst header axis i line other → IsClashAgainst header axis i line other left right
    → AreFacts header ms axis i line → IsFactOf header ms other → IsFoundClash header ms left right
against_clash header ms axis i line other left right fits against clash facts fact =
    let proved : IsProved header (kept_message other) = under_proved header other against.under in record {
      is_clash = clash.is_clash;
      axis = axis;
      i = i;
      within = subst (λ (j : ℕ). j < 2 * header.k) against.on_axis (index-lt header.k axis (kept_message other).cell proved.inside);
      one = line_tree header.k axis i line;
      other = line_tree header.k axis i clash.word;
      one_known = of_line line fits.codeword.count facts (root_from_strict header axis i line fits.root);
      other_known = of_line clash.word clash.through.codeword.count
          (other_facts header ms axis i line clash.word other against facts fact clash.through) (root_from_strict header axis i clash.word clash.root);
      found = clash.found;
    }
