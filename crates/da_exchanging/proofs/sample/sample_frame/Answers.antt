use Rattle.axis_roots.specs.declared.message.messages.Message as sent
use Rattle.da_exchanging.proofs.sample.sample_frame.Goals as goal

pub returns-clause-spelled : goal.returns-clause-spelled
returns-clause-spelled c =
    let m : sent.Message = record { cell = c.args.cell; axis = c.args.sample.axis; share = c.args.sample.share; path = c.args.sample.path } in
    c.wire_laws.ensures.messages m c.message_law.ensures
