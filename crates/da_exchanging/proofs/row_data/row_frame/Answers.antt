use Rattle.std.proofs.Common.{◌≡◌, ◌∙◌, List, [], ◌∷◌, ◌++◌, ap}
use Rattle.axis_roots.specs.declared.answers.NsEntry.{NsEntry}
use Rattle.da_exchanging.proofs.AnswerLemmas.{entry_short}
use Rattle.da_exchanging.proofs.row_data.row_frame.Goals as goal

-- the one entry has a message, so its answer has a frame
pub returns-clause-spelled : goal.returns-clause-spelled
returns-clause-spelled c =
    let one : c.push.new.self.items ≡ c.args.entry ∷ [] =
    c.in-Ok.ensures.items ∙ ap (λ (l : List NsEntry). l ++ (c.args.entry ∷ [])) c.in_ok-entries.ensures.items in
    c.wire_laws.ensures.names c.args.name c.push.new.self.items c.namespace_law.ensures c.answer_law.ensures
    (entry_short c.push.new.self.items c.args.entry one c.requires)
