-- Accepted claims of facts: the row or column that one accuses is not settled.
use Rattle.std.proofs.Common.{◌≡◌, ◌∙◌, ℕ, suc, List, [], ◌∷◌, map, true, ◌==◌, sym, ap, subst, inl, inr, arith}
use Rattle.std.specs.List.{AllByRecursion, Contains, list_all}
use Rattle.std.proofs.lemmas.Bool.{and_parts}
use Rattle.std.proofs.lemmas.Bool.Decides.{nat_tests}
use Rattle.std.proofs.lemmas.List.{length-map}
use Rattle.std.proofs.lemmas.Option.{get_or_from_slice_get}
use Rattle.namespace_id.specs.declared.cells.Axis.{Axis}
use Rattle.namespace_id.specs.declared.shares.Share.{Share}
use Rattle.leopard_code.specs.Codewords.{HasEntries}
use Rattle.data_header.specs.Headers.{Roots}
use Rattle.axis_roots.specs.declared.message.messages.Message.{Message}
use Rattle.axis_roots.specs.Messages.{position, index}
use Rattle.axis_roots.specs.Lines.{blank, cell_on, line_strict_root, entry}
use Rattle.axis_roots.specs.Claims.{ClaimParts, positions_of, ShowsBad, claimed_root}
use Rattle.axis_roots.proofs.Grids.AxisLemmas.{cell_on-own}
use Rattle.axis_roots.proofs.Messages.ClaimLemmas.{Shape, shape_of, positions_fit}
use Rattle.axis_roots.proofs.Messages.SetLemmas.{claim_inside}
use Rattle.repair_queue.specs.Closures.{AreChosen, Fact, IsDecided}
use Rattle.repair_queue.specs.Settled.{IsLineSettled, IsSettled}
use Rattle.repair_queue.specs.Verdicts.{IsFraud}
use Rattle.namespace_id.proofs.MemberLemmas.{contains_none, contains_cons}
use Rattle.repair_queue.proofs.Facts.ClosureLemmas.{fact_half}
use Rattle.repair_queue.proofs.Facts.SettledLemmas.{settled_word}

-- at the positions of samples that are facts stand facts
pub facts_there : (header : Roots) (ms : List Message) (axis : Axis) (i : ℕ) (cells : List Message) (word : List Share)
    → list_all (λ m. index axis m.cell == i) cells ≡ true → AllByRecursion (λ m. Fact header ms m.cell m.share) cells
    → HasEntries (map (λ m. position axis m.cell) cells) (map (λ m. m.share) cells) word
    → (p : ℕ) → Contains (map (λ m. position axis m.cell) cells) p → Fact header ms (cell_on axis i p) (entry word p)
facts_there header ms axis i [] word on facts entries p at = absurd (contains_none p at)
facts_there header ms axis i (m ∷ cells) word on facts entries p at =
    let both = and_parts (index axis m.cell == i) (list_all (λ n. index axis n.cell == i) cells) on in
    elim (contains_cons (position axis m.cell) p (map (λ n. position axis n.cell) cells) at) [
      | inr later ↦ facts_there header ms axis i cells word both.1 facts.1 (λ j h. entries (suc j) (omega arith)) p later
      | inl e ↦
          let test : (index axis m.cell == i) ≡ true = both.0 in
          let place : index axis m.cell ≡ i = grind (arith, nat_tests) in
          let pos : ℕ = position axis m.cell in
          let share : entry word pos ≡ m.share = get_or_from_slice_get word pos m.share blank (entries 0 (omega arith)) in
          let cell : cell_on axis i pos ≡ m.cell = ap (λ (n : ℕ). cell_on axis n pos) (sym place) ∙ cell_on-own axis m.cell in
          subst (λ (q : ℕ). Fact header ms (cell_on axis i q) (entry word q)) e
          (subst (λ (s : Share). Fact header ms (cell_on axis i pos) s) (sym share)
          (subst (λ c. Fact header ms c m.share) (sym cell) facts.0))
    ]

-- where a fraud is found the list is not settled: the facts would be another codeword
pub fraud_unsettled : (header : Roots) (ms : List Message) (claim : ClaimParts) → IsFraud header ms claim → IsSettled header ms → ⊥
fraud_unsettled header ms claim fraud settled =
    let bad : ShowsBad header.k claim (claimed_root header claim) = fraud.accepts.bad in
    let shape : Shape header.k claim = shape_of header.k claim bad.shape in
    let are : AreChosen header.k (positions_of claim) = record {
      count = length-map claim.cells (λ m. position claim.axis m.cell) ∙ shape.count;
      positions = positions_fit header.k claim shape (claim_inside header claim fraud.accepts.set_shape fraud.accepts.proved);
    } in
    let known : (p : ℕ) → Contains (positions_of claim) p → Fact header ms (cell_on claim.axis claim.index p) (entry bad.word p) =
    facts_there header ms claim.axis claim.index claim.cells bad.word shape.on fraud.facts bad.through.entries in
    let d : IsDecided header ms claim.axis claim.index = record {
      within = shape.index;
      chosen = positions_of claim;
      are_chosen = are;
      halves = λ p at. fact_half header ms (cell_on claim.axis claim.index p) (entry bad.word p) (known p at);
    } in
    let x : IsLineSettled header ms claim.axis claim.index = settled claim.axis claim.index d in
    let same : bad.word ≡ x.shares = settled_word header ms claim.axis claim.index x bad.word (positions_of claim) shape.index bad.through.codeword are known in
    bad.other (ap (line_strict_root header.k claim.axis claim.index) same ∙ x.root)
