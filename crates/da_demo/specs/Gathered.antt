-- What a session of a trial is fed with.
use Rattle.std.specs.Prelude.{◌≡◌, List, length}
use Rattle.data_header.specs.Headers.{Roots}
use Rattle.axis_roots.specs.declared.message.messages.Message.{Message}
use Rattle.repair_queue.specs.SessionParts.{SessionStands}
use Rattle.da_demo.specs.declared.gathering.Gathered.{Gathered}
use Rattle.da_demo.specs.Sessions.{proved_of, refused_of}

-- of these samples the session was fed with the proved ones, in their order; these and the others were counted
pub record IsGathered (header : Roots) (ms : List Message) (gathered : Gathered) : Type 0 where
  pub under : gathered.session.header ≡ header
  pub fed : SessionStands gathered.session (proved_of header ms)
  pub proved : gathered.proved ≡ length (proved_of header ms)
  pub lies : gathered.lies ≡ length (refused_of header ms)
