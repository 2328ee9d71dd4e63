use Rattle.da_files.specs.Contents.{contents_of}
use Rattle.da_exchanging.specs.ShareProof.{rooted_in, ProofAnswer}
use Rattle.da_exchanging.proofs.MadeLemmas.{read_made, no_frame}
use Rattle.da_exchanging.proofs.share_proof.export.Goals as goal

-- what is answered of the root proof that was read
pub returns-in-Ok : goal.returns-in-Ok
returns-in-Ok c =
    read_made rooted_in ProofAnswer (contents_of c.args.files.now) c.file.result.now c.file.ensures c.in-Ok.proof _ c.in-Ok.ensures c.message.ensures

-- the file is no root proof
pub returns-in-Err : goal.returns-in-Err
returns-in-Err c =
    no_frame rooted_in ProofAnswer (contents_of c.args.files.now) c.file.result.now c.file.ensures c.in-Err.why _ c.frame_refusal.ensures c.in-Err.ensures
