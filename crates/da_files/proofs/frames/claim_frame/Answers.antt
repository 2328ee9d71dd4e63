use Rattle.da_files.proofs.frames.claim_frame.Goals as goal

pub returns-clause-spelled : goal.returns-clause-spelled
returns-clause-spelled c = c.wire_laws.ensures.claims c.args.claim c.claim_law.ensures c.requires
