use Rattle.std.proofs.Common.{[], ◌∷◌, refl}
use Rattle.da_wire.specs.Spelling.{request_kind}
use Rattle.da_wire.specs.declared.frames.Frame.TheVariants.{Request}
use Rattle.da_files.specs.Requests.{namespace_of}
use Rattle.da_files.proofs.RequestLemmas.{is_next}
use Rattle.da_files.proofs.requests.next_name.Goals as goal

-- the first request of the file, and those after it
pub returns : goal.returns
returns c = is_next namespace_of Request (λ asked. refl) (request_kind ∷ []) c.args.bytes.now c.next_request.result c.next_request.ensures.values c.next_request.ensures.shorter
