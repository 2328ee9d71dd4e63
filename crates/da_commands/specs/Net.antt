-- net HEADER MESSAGES SCRIPT: what comes of a script of a network.
use Rattle.std.specs.Prelude.{◌≡◌, ℕ, List, [], ◌∷◌, ◌++◌, length, Bool, true, false}
use Rattle.std.specs.declared.option.Option.{Option}
use Rattle.data_header.specs.Headers.{Roots}
use Rattle.da_wire.specs.Reading.{Raw}
use Rattle.da_wire.specs.Frames.{frames_of}
use Rattle.da_script.specs.Scripts.{moves_of, bad_script}
use Rattle.da_script.specs.Plays.{items_in, item_sizes, is_refused, first_net, TellsPlay}
use Rattle.da_status.specs.declared.status.Asked.TheVariants.{Nodes}
use Rattle.da_status.specs.declared.status.Status.TheVariants.{Done, BadRequest}
use Rattle.da_status.specs.Outcome.{Relation, Refuses}
use Rattle.da_files.specs.Contents.{file_of, header_file, messages_file}
use Rattle.da_files.specs.Frames.{header_in}
use Rattle.da_files.specs.Forms.{messages_judged, Over}

-- SCRIPT, the third file of net
abbrev pub script_file : List (List ℕ) → List ℕ
script_file files = file_of files 2

-- a network that is too large is refused; of any other the answer is given
abbrev pub Limited : Bool → Relation → Relation
Limited true Answer = Refuses (BadRequest Nodes)
Limited false Answer = Answer

-- the lines of a script over frames under a header, where the network isn't too large
abbrev pub Nets : Roots → List Raw → List ℕ → Relation
Nets header frames script = Limited (is_refused header.k (item_sizes frames) (moves_of (length (items_in frames)) script) script)
    (λ w status. TellsPlay (items_in frames) (first_net header (moves_of (length (items_in frames)) script) script)
    (moves_of (length (items_in frames)) script) w × (status ≡ Done))

-- HEADER is a header and nothing else, MESSAGES a list of frames, and SCRIPT a script over its items
abbrev pub net_judged : List (List ℕ) → List (Option ℕ)
net_judged files =
    messages_judged files ++ bad_script (length (items_in (frames_of (messages_file files)))) (script_file files) ∷ []

-- what net answers to a HEADER that is a header
abbrev pub NetOf : List (List ℕ) → Relation
NetOf files = Over (header_in (header_file files)) (λ h. Nets h (frames_of (messages_file files)) (script_file files))
