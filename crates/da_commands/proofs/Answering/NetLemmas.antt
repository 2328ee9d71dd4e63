-- What the command net answers.
use Rattle.std.proofs.Common.{◌≡◌, ℕ, Bool, true, false, List, [], length, refl, sym, subst}
use Rattle.data_header.specs.Headers.{Roots}
use Rattle.da_wire.specs.Reading.{Raw}
use Rattle.da_wire.specs.Frames.{frames_of}
use Rattle.da_script.specs.Scripts.{moves_of}
use Rattle.da_script.specs.Plays.{items_in, item_sizes, is_refused, first_net, TellsPlay}
use Rattle.da_status.specs.declared.status.Asked.TheVariants.{Nodes}
use Rattle.da_status.specs.declared.status.Status.{Status}
use Rattle.da_status.specs.declared.status.Status.TheVariants.{Done, BadRequest}
use Rattle.da_status.specs.Statuses.{status_kind}
use Rattle.da_status.specs.Outcome.{Relation}
use Rattle.da_status.proofs.EndLemmas.{IsAnswer, status_answers}
use Rattle.da_files.specs.Frames.{header_in}
use Rattle.da_commands.specs.Net.{script_file, Limited, Nets, NetOf}
use Rattle.da_files.specs.Contents.{header_file, messages_file}
use Rattle.da_files.proofs.FormLemmas.{over_each}

-- the lines, by whether the network is too large
abbrev lines_by : Bool → Roots → List Raw → List ℕ → Relation
lines_by over header raws script = Limited over
    (λ w status. TellsPlay (items_in raws) (first_net header (moves_of (length (items_in raws)) script) script)
    (moves_of (length (items_in raws)) script) w × (status ≡ Done))

-- whether the network of a script is too large
abbrev pub too_large : Roots → List Raw → List ℕ → Bool
too_large header raws script = is_refused header.k (item_sizes raws) (moves_of (length (items_in raws)) script) script

-- the lines of a network that isn't too large, as one text
pub nets_told : (header : Roots) (raws : List Raw) (script text : List ℕ) → too_large header raws script ≡ false
    → TellsPlay (items_in raws) (first_net header (moves_of (length (items_in raws)) script) script)
    (moves_of (length (items_in raws)) script) text
    → (w : List ℕ) (status : Status) → (w ≡ text) × (status ≡ Done) → Nets header raws script w status
nets_told header raws script text within told w status h =
    subst (λ (b : Bool). lines_by b header raws script w status) (sym within) (
      subst (λ (bytes : List ℕ). TellsPlay (items_in raws) (first_net header (moves_of (length (items_in raws)) script) script)
          (moves_of (length (items_in raws)) script) bytes) (sym h.0) told,
      h.1,
    )

-- the refusal of a network that is too large
pub nets_refused : (header : Roots) (raws : List Raw) (script : List ℕ) → too_large header raws script ≡ true
    → Nets header raws script [] (BadRequest Nodes)
nets_refused header raws script over =
    subst (λ (b : Bool). lines_by b header raws script [] (BadRequest Nodes)) (sym over) (refl, refl)

-- what is answered by whether the network is too large is an answer
lines_answer : (over : Bool) (header : Roots) (raws : List Raw) (script w : List ℕ) (status : Status)
    → lines_by over header raws script w status → IsAnswer (status_kind status)
lines_answer true header raws script w status h = status_answers status (BadRequest Nodes) h.1 tt
lines_answer false header raws script w status h = status_answers status Done h.1 tt

-- what net answers to its files is an answer
pub net_answers : (files : List (List ℕ)) (w : List ℕ) (status : Status) → NetOf files w status
    → IsAnswer (status_kind status)
net_answers files w status r =
    let raws = frames_of (messages_file files) in
    let script = script_file files in
    over_each (λ h. Nets h raws script) (header_in (header_file files)) w status (IsAnswer (status_kind status))
    (λ h. lines_answer (too_large h raws script) h raws script w status) r
