use Rattle.std.proofs.Common.{[], ◌∷◌, refl}
use Rattle.da_wire.specs.Spelling.{sample_kind}
use Rattle.da_serving.specs.Sample.{asked_sample, sample_request}
use Rattle.da_files.proofs.RequestLemmas.{is_next}
use Rattle.da_serving.proofs.sample.next_sample.Goals as goal

-- the first request of the file, and those after it
pub returns : goal.returns
returns c = is_next asked_sample sample_request (λ asked. refl) (sample_kind ∷ []) c.args.bytes.now c.next_sample.result c.next_sample.ensures.values c.next_sample.ensures.shorter
