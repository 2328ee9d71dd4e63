-- What a session is fed with of a frame, by the sample that it is.
use Rattle.std.specs.Prelude.{List, [], ◌∷◌, Option, Some, None}
use Rattle.std.specs.Option.{option_map_or}
use Rattle.data_header.specs.Headers.{Roots}
use Rattle.axis_roots.specs.declared.message.messages.Message.{Message}
use Rattle.axis_roots.specs.Messages.{message_refusal}
use Rattle.da_judging.specs.declared.check.Finding.{Finding}
use Rattle.da_judging.specs.declared.check.Finding.TheVariants as found

-- what is found of a frame, by the sample of the grammar that it is, if it is one
abbrev pub finding_by : Roots → Option Message → Finding
finding_by header sample = option_map_or (λ m. option_map_or found.Refused (message_refusal header m) found.Proved) sample found.NoMessage

-- the sample that there is, if there is one
abbrev pub samples_there : Option Message → List Message
samples_there None = []
samples_there (Some m) = m ∷ []
