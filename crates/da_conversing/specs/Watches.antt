-- What came of watch HEADER KEY COUNT TALK.
use Rattle.std.specs.Prelude.{◌≡◌, ◌⊎◌, ◌<◌, ℕ, List, Some, Ok}
use Rattle.da_io.specs.declared.inputs.Inputs as inputs
use Rattle.da_io.specs.declared.sink.Sink as sink
use Rattle.data_header.specs.Headers.{Roots}
use Rattle.sampling.specs.Draws.{draw_limit, drawn_cells}
use Rattle.da_status.specs.declared.status.Asked.TheVariants.{Count}
use Rattle.da_status.specs.declared.status.Status.{Status}
use Rattle.da_status.specs.declared.status.Status.TheVariants.{NoMemory, BadRequest}
use Rattle.da_files.specs.Frames.{header_in}
use Rattle.da_judging.specs.Keys.{key_file_in}
use Rattle.da_watching.specs.Watchers.{watching}
use Rattle.da_conversing.specs.declared.words.KeyWord.{KeyWord}
use Rattle.da_conversing.specs.declared.words.KeyWord.TheVariants.{Key, Named}
use Rattle.da_conversing.specs.declared.words.Watch.{Watch}
use Rattle.da_conversing.specs.Words.{header_name, key_file_name, watch_talk_name, watch_call}
use Rattle.da_conversing.specs.Inputs.{HasValue, IsNoValue}
use Rattle.da_conversing.specs.Courses.{HasPicked}
use Rattle.da_conversing.specs.Tellings.{TellsOver}

-- a key was read: more cells are to be drawn than may be, or memory ran out, and TALK isn't picked; or the talk over the cells that
-- the key draws is over
abbrev pub WatchesOver : {I O : Type 0} → inputs.Ghosts I → sink.Ghosts O → I → I → O → O → Roots → List ℕ → ℕ → ℕ → List ℕ → Status → Type 0
WatchesOver i o before now old new header key count file name why =
    ((why ≡ BadRequest Count) × (draw_limit header.k < count) × (now ≡ before) × (new ≡ old))
    ⊎ (((why ≡ NoMemory) × (now ≡ before) × (new ≡ old))
    ⊎ ((draw_limit header.k < count → ⊥)
    × TellsOver i o (watching header (drawn_cells key header.k count)) Some file name before now old new why))

-- HEADER was read: the key is the word, or that of the file that it names, if it is one
abbrev pub WatchesUnder : {I O : Type 0} → inputs.Ghosts I → sink.Ghosts O → I → I → O → O → Roots → KeyWord → ℕ → List ℕ → List ℕ → Status → Type 0
WatchesUnder i o before now old new header (Key key) count file name why = WatchesOver i o before now old new header key count 1 name why
WatchesUnder {I} {O} i o before now old new header Named count file name why =
    (IsNoValue key_file_in 1 (i.files before) file (i.ended now) (i.given now) why × HasPicked i before now file × (new ≡ old))
    ⊎ ((key : List ℕ) × (mid : I) × HasValue key_file_in (i.files before) file (Ok key) × HasPicked i before mid file
    × (i.files mid ≡ i.files before) × WatchesOver i o mid now old new header key count 2 name why)

-- words that are watch HEADER KEY COUNT TALK: memory ran out before anything was picked; or HEADER, which alone was picked, isn't one; or
-- it is one, and what comes of that
abbrev pub WatchesBy : {I O : Type 0} → inputs.Ghosts I → sink.Ghosts O → List (List ℕ) → KeyWord → ℕ → I → I → O → O → Status → Type 0
WatchesBy {I} {O} i o words key count before now old new why =
    ((why ≡ NoMemory) × (now ≡ before) × (new ≡ old))
    ⊎ ((IsNoValue header_in 0 (i.files before) (header_name words) (i.ended now) (i.given now) why × HasPicked i before now (header_name words) × (new ≡ old))
    ⊎ ((header : Roots) × (mid : I) × HasValue header_in (i.files before) (header_name words) (Ok header) × HasPicked i before mid (header_name words)
    × (i.files mid ≡ i.files before)
    × WatchesUnder i o mid now old new header key count (key_file_name words) (watch_talk_name words) why))

-- so it is for the key and the count of the words
abbrev pub AnswersWatch : {I O : Type 0} → inputs.Ghosts I → sink.Ghosts O → List (List ℕ) → I → I → O → O → Status → Type 0
AnswersWatch i o words before now old new why =
    (watch : Watch) × (watch_call words ≡ Some watch) × WatchesBy i o words watch.key watch.count before now old new why
