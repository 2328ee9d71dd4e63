use Rattle.da_exchanging.proofs.row.message_frame.Goals as goal

pub returns-clause-spelled : goal.returns-clause-spelled
returns-clause-spelled c = c.wire_laws.ensures.messages c.args.message c.message_law.ensures
