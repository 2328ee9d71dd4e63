use Rattle.std.proofs.Common.{[], ◌∷◌}
use Rattle.da_wire.specs.Spelling.{message_kind}
use Rattle.da_wire.specs.Single.{message_of}
use Rattle.da_files.proofs.FrameLemmas.{reads_at}
use Rattle.da_files.proofs.frames.message_in.Goals as goal

-- a reader that takes no memory answers what the file is
pub returns : goal.returns
returns c = c.in_file.ensures message_of c.args.bytes.now (message_kind ∷ []) (reads_at c.read_message.result _ c.read_message.ensures)
