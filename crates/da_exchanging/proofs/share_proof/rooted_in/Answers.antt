use Rattle.std.proofs.Common.{[], ◌∷◌}
use Rattle.da_wire.specs.Spelling.{rooted_kind}
use Rattle.da_files.proofs.FrameLemmas.{values_unread}
use Rattle.da_exchanging.specs.ShareProof.{rooted_of}
use Rattle.da_exchanging.proofs.ShareProofLemmas.{rooted_there}
use Rattle.da_exchanging.proofs.share_proof.rooted_in.Goals as goal

-- memory ran out in place of a value alone
pub returns-in-Err : goal.returns-in-Err
returns-in-Err c =
    values_unread rooted_of (rooted_kind ∷ []) rooted_there c.args.bytes.now c.in-Err.error c.reason.result c.reason.ensures c.in-Err.ensures.read
