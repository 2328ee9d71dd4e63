use Rattle.std.proofs.Common.{[], ◌∷◌}
use Rattle.da_wire.specs.Spelling.{names_kind}
use Rattle.da_files.proofs.FrameLemmas.{values_unread}
use Rattle.da_exchanging.specs.NamespaceData.{entries_of}
use Rattle.da_exchanging.proofs.NamespaceDataLemmas.{entries_there}
use Rattle.da_exchanging.proofs.namespace_data.entries_in.Goals as goal

-- memory ran out in place of a value alone
pub returns-in-Err : goal.returns-in-Err
returns-in-Err c =
    values_unread entries_of (names_kind ∷ []) entries_there c.args.bytes.now c.in-Err.error c.reason.result c.reason.ensures c.in-Err.ensures.read
