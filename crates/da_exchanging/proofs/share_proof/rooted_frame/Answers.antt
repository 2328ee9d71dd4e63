use Rattle.da_exchanging.proofs.share_proof.rooted_frame.Goals as goal

-- each root proof can be written
pub returns-clause-spelled : goal.returns-clause-spelled
returns-clause-spelled c = c.wire_laws.ensures.rooted c.args.proof c.frame_law.ensures
