-- cells HEADER KEY COUNT AXIS: the requests of a light node that has no messages yet, by a key that is a word or stands in a
-- file.
use Rattle.std.specs.Prelude.{◌≡◌, ℕ, List, [], nat_lt, ⊤}
use Rattle.std.specs.declared.option.Option.{Option}
use Rattle.namespace_id.specs.declared.cells.Axis.{Axis}
use Rattle.namespace_id.specs.declared.cells.Cell.{Cell}
use Rattle.data_header.specs.Headers.{Roots}
use Rattle.sampling.specs.Draws.{draw_limit, drawn_cells}
use Rattle.light_node.specs.declared.events.Light.{Light}
use Rattle.light_node.specs.declared.events.Light.TheVariants as light
use Rattle.light_node.specs.Events.{IsLight}
use Rattle.da_status.specs.declared.status.Status.TheVariants.{Done}
use Rattle.da_status.specs.Outcome.{Relation}
use Rattle.da_files.specs.Contents.{file_of, header_file}
use Rattle.da_files.specs.Frames.{header_in}
use Rattle.da_files.specs.Forms.{under_judged, Over}
use Rattle.da_serving.specs.Wanted.{Wants}
use Rattle.da_judging.specs.Keys.{key_file_in}
use Rattle.da_judging.specs.Light.{Counted}

-- ---- requests

-- a verdict without a claim, as each on no messages is
abbrev pub HasNoClaim : Light → Type 0
HasNoClaim (light.Rejected claim) = ⊥
HasNoClaim verdict = ⊤

-- what is asked for after a verdict: a request for each cell that it waits for, along an axis
abbrev pub Asks : Axis → Light → Relation
Asks axis (light.Waiting cells) w status = Wants axis cells w status
Asks axis light.Available w status = (w ≡ []) × (status ≡ Done)
Asks axis (light.Rejected claim) w status = ⊥

-- what is asked for by a light node that planned these cells and has no messages yet
abbrev pub AsksPlanned : Axis → Roots → List Cell → Relation
AsksPlanned axis header plan w status = (verdict : Light) × IsLight header plan [] verdict × Asks axis verdict w status

-- a count above the limit is refused; else what is asked for where the key draws the cells
abbrev pub AsksFirst : Axis → List ℕ → ℕ → Roots → Relation
AsksFirst axis key count header =
    Counted (nat_lt (draw_limit header.k) count) (AsksPlanned axis header (drawn_cells key header.k count))

-- ---- the commands

-- what cells answers to a HEADER that is a header
abbrev pub CellsOf : List ℕ → ℕ → Axis → List (List ℕ) → Relation
CellsOf key count axis files = Over (header_in (header_file files)) (AsksFirst axis key count)

-- KEY, the second file of cells where its word names one
abbrev pub cells_key_file : List (List ℕ) → List ℕ
cells_key_file files = file_of files 1

-- HEADER is a header and nothing else, and KEY a key
abbrev pub cells_by_judged : List (List ℕ) → List (Option ℕ)
cells_by_judged files = under_judged key_file_in files

-- what cells answers to a KEY that is a key: what it answers where this key is the word
abbrev pub CellsByOf : ℕ → Axis → List (List ℕ) → Relation
CellsByOf count axis files = Over (key_file_in (cells_key_file files)) (λ key. CellsOf key count axis files)
