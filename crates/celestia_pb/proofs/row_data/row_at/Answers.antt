use Rattle.std.proofs.Common.{◌∙◌, true, false, option_map, sym, ap}
use Rattle.celestia_pb.specs.RowParts.{proof_parts}
use Rattle.celestia_pb.proofs.Steps.{err_reads}
use Rattle.celestia_pb.proofs.RowDataLemmas.{row_refused, row_found}
use Rattle.celestia_pb.proofs.row_data.row_at.Goals as goal

-- the proof is wrong
pub returns-in_err-proof-clause-value : goal.returns-in_err-proof-clause-value
returns-in_err-proof-clause-value c = λ row.
    err_reads _ c.from_residual-in_err-proof.result _ _
    (row_refused row c.in_ok-count.count c.args.bytes.now c.in_ok-count.behind.now c.in_ok-count.ensures.value c.in_err-proof.field-0.0 c.in_err-proof.ensures.value)
    c.from_residual-in_err-proof.ensures

-- something follows
pub returns-then-not-is_empty-clause-value : goal.returns-then-not-is_empty-clause-value
returns-then-not-is_empty-clause-value c = λ row.
    row_found row c.in_ok-count.count c.args.bytes.now c.in_ok-count.behind.now c.in_ok-count.ensures.value _ (proof_parts c.in-Some.proof) c.in_ok-proof.rest.now
    (ap (option_map proof_parts) c.in-Some.is) c.in_ok-proof.ensures.value false (sym c.is_empty.ensures ∙ c.if-not-is_empty.true)

-- nothing does
pub returns-clause-value : goal.returns-clause-value
returns-clause-value c = λ row.
    row_found row c.in_ok-count.count c.args.bytes.now c.in_ok-count.behind.now c.in_ok-count.ensures.value _ (proof_parts c.in-Some.proof) c.in_ok-proof.rest.now
    (ap (option_map proof_parts) c.in-Some.is) c.in_ok-proof.ensures.value true (sym c.is_empty.ensures ∙ c.if-not-is_empty.false)
