-- What came of gather HEADER TALK.
use Rattle.std.specs.Prelude.{◌≡◌, ◌⊎◌, ℕ, List, Ok}
use Rattle.da_io.specs.declared.inputs.Inputs as inputs
use Rattle.da_io.specs.declared.sink.Sink as sink
use Rattle.data_header.specs.Headers.{Roots}
use Rattle.da_status.specs.declared.status.Status.{Status}
use Rattle.da_status.specs.declared.status.Status.TheVariants.{NoMemory}
use Rattle.da_files.specs.Frames.{header_in}
use Rattle.da_gathering.specs.Gathered.{gathering}
use Rattle.da_conversing.specs.Words.{header_name, talk_name}
use Rattle.da_conversing.specs.Inputs.{HasValue, IsNoValue}
use Rattle.da_conversing.specs.Courses.{HasPicked}
use Rattle.da_conversing.specs.Tellings.{TellsOver}

-- HEADER was read: memory ran out, and TALK isn't picked; or the talk under it is over
abbrev pub GathersUnder : {I O : Type 0} → inputs.Ghosts I → sink.Ghosts O → I → I → O → O → Roots → List ℕ → Status → Type 0
GathersUnder i o before now old new header name why =
    ((why ≡ NoMemory) × (now ≡ before) × (new ≡ old))
    ⊎ TellsOver i o (gathering header) (λ kept. kept) 1 name before now old new why

-- words that are gather HEADER TALK: memory ran out before anything was picked; or HEADER, which alone was picked, isn't one; or it is
-- one, and what comes of that
abbrev pub AnswersGather : {I O : Type 0} → inputs.Ghosts I → sink.Ghosts O → List (List ℕ) → I → I → O → O → Status → Type 0
AnswersGather {I} {O} i o words before now old new why =
    ((why ≡ NoMemory) × (now ≡ before) × (new ≡ old))
    ⊎ ((IsNoValue header_in 0 (i.files before) (header_name words) (i.ended now) (i.given now) why × HasPicked i before now (header_name words) × (new ≡ old))
    ⊎ ((header : Roots) × (mid : I) × HasValue header_in (i.files before) (header_name words) (Ok header) × HasPicked i before mid (header_name words)
    × (i.files mid ≡ i.files before) × GathersUnder i o mid now old new header (talk_name words) why))
