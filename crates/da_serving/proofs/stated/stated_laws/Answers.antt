use Rattle.std.proofs.Common.{ℕ, length}
use Rattle.square_layout.specs.Layout.{share_count_of}
use Rattle.axis_roots.specs.Grids.{header_of_grid}
use Rattle.tx_list.specs.Reads.{list_of}
use Rattle.da_files.proofs.FileLemmas.{some_there}
use Rattle.da_serving.specs.Commit.{commitment_of}
use Rattle.da_serving.specs.Stated.{built_square, stated_place, ranges_of}
use Rattle.da_serving.proofs.BuildLemmas.{both_fine}
use Rattle.da_serving.proofs.StatedLemmas.{built_few, proof_range, proves_blob, built_laid, list_read, finds_ranges, place_among, among_done}
use Rattle.da_serving.proofs.stated.stated_laws.Goals as goal

pub returns-clause-range : goal.returns-clause-range
returns-clause-range c = λ transactions before after blob is there.
    proof_range (built_square transactions) (stated_place transactions (length before)) blob
    (c.place_laws.ensures.range (list_of transactions) before after blob (built_few transactions is) there)

-- its namespaces never fall, so its square has a header
pub returns-clause-proves : goal.returns-clause-proves
returns-clause-proves c = λ transactions before after blob w status is there answers.
    let list = list_of transactions in
    let own = built_square transactions in
    let fine = both_fine transactions is.accepted in
    let square = c.square_laws.ensures.square list fine.1 in
    let grid = c.grid_laws.ensures.extension own square (c.square_laws.ensures.shares list is.fits) in
    let header = some_there (header_of_grid own.k grid.0)
    (c.grid_laws.ensures.laid own grid.0 square grid.1 (c.list_laws.ensures.rising list (c.square_laws.ensures.payments transactions fine.0))) in
    proves_blob c.commit_laws.ensures.commit own (stated_place transactions (length before)) blob
    (c.place_laws.ensures.range list before after blob (built_few transactions is) there) header.0
    (c.grid_laws.ensures.header own grid.0 header.0 square grid.1 header.1) w status answers

pub returns-clause-blobs : goal.returns-clause-blobs
returns-clause-blobs c = λ transactions is. list_read c.join_laws.ensures.blobs (list_of transactions) (built_laid c.square_laws.ensures.payments c.square_laws.ensures.shares c.place_laws.ensures.blobs transactions is)

pub returns-clause-finds : goal.returns-clause-finds
returns-clause-finds c = λ transactions commitment w status is finds.
    finds_ranges c.join_laws.ensures.blobs (list_of transactions) (built_laid c.square_laws.ensures.payments c.square_laws.ensures.shares c.place_laws.ensures.blobs transactions is) commitment w status finds

pub returns-clause-found : goal.returns-clause-found
returns-clause-found c = λ transactions before after blob there.
    let list = list_of transactions in
    place_among list (stated_place transactions (length before)) blob (c.place_laws.ensures.start list before after blob there)

pub returns-clause-done : goal.returns-clause-done
returns-clause-done c = λ transactions before after blob w status is there finds.
    let list = list_of transactions in
    let place : ℕ = stated_place transactions (length before) in
    among_done (ranges_of (commitment_of blob) list) (place, share_count_of blob) w status
    (place_among list place blob (c.place_laws.ensures.start list before after blob there))
    (finds_ranges c.join_laws.ensures.blobs list (built_laid c.square_laws.ensures.payments c.square_laws.ensures.shares c.place_laws.ensures.blobs transactions is) (commitment_of blob) w status finds)
