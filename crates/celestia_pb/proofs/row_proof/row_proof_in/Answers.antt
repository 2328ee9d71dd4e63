use Rattle.std.proofs.Common.{◌∙◌, List, true, false, Ok, sym, ap₂}
use Rattle.namespace_id.specs.declared.digests.Digest.{Digest}
use Rattle.celestia_pb.proofs.RowProofLemmas.{row_proof_found}
use Rattle.celestia_pb.proofs.row_proof.row_proof_in.Goals as goal

-- something is left, or isn't there
pub returns-then-not-is_complete-clause-value : goal.returns-then-not-is_complete-clause-value
returns-then-not-is_complete-clause-value c =
    row_proof_found c.args.count c.args.bytes.now c.in_ok-start.start c.from-place.result c.leaf_count.result c.hash_count.result c.in_ok-start.behind.now c.in_ok-stop.stop
    c.in_ok-stop.nodes.now c.in_ok-many.many c.in_ok-many.after.now c.in_ok-hashes.hashes c.in_ok-hashes.last.now c.in_ok-flag.flag c.in_ok-flag.rest.now
    c.from-place.ensures c.leaf_count.ensures c.hash_count.ensures.value c.in_ok-start.ensures.value c.in_ok-stop.ensures.value c.in_ok-many.ensures.value
    c.in_ok-hashes.ensures.value c.in_ok-flag.ensures.value false (sym c.is_complete.ensures ∙ c.if-not-is_complete.true)

-- the proof
pub returns-clause-value : goal.returns-clause-value
returns-clause-value c =
    row_proof_found c.args.count c.args.bytes.now c.in_ok-start.start c.from-place.result c.leaf_count.result c.hash_count.result c.in_ok-start.behind.now c.in_ok-stop.stop
    c.in_ok-stop.nodes.now c.in_ok-many.many c.in_ok-many.after.now c.in_ok-hashes.hashes c.in_ok-hashes.last.now c.in_ok-flag.flag c.in_ok-flag.rest.now
    c.from-place.ensures c.leaf_count.ensures c.hash_count.ensures.value c.in_ok-start.ensures.value c.in_ok-stop.ensures.value c.in_ok-many.ensures.value
    c.in_ok-hashes.ensures.value c.in_ok-flag.ensures.value true (sym c.is_complete.ensures ∙ c.if-not-is_complete.false)
    ∙ ap₂ (λ (nodes hashes : List Digest). Ok (c.in_ok-start.start, (nodes, hashes))) (sym c.nodes_in.ensures) (sym c.hash_in-hash.ensures)
