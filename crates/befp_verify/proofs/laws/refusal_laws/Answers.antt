use Rattle.befp_verify.proofs.FirstCellLemmas.{first_cell}
use Rattle.befp_verify.proofs.laws.refusal_laws.Goals as goal

pub returns : goal.returns
returns c = record {
  cell = λ header claim i why roots is e.
      first_cell header claim i why (λ m. c.message_laws.ensures.refusal header m roots) is e;
}
