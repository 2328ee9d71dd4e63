use Rattle.std.proofs.Common.{[], ◌∷◌, length}
use Rattle.da_wire.specs.declared.frames.Frame.TheVariants.{Request}
use Rattle.da_wire.specs.Spelling.{sample_kind, request_kind}
use Rattle.da_serving.specs.Sample.{asked_sample, sample_request}
use Rattle.da_files.specs.Requests.{namespace_of}
use Rattle.da_files.proofs.RequestLemmas.{asked_again}
use Rattle.da_serving.proofs.SampleLemmas.{is_sample_frame}
use Rattle.da_serving.proofs.NamespaceLemmas.{is_name_frame}
use Rattle.data_header.specs.DataRoots.{data_root_of}
use Rattle.square_layout.specs.Layout.{block_square}
use Rattle.tx_list.specs.Reads.{list_of}
use Rattle.tx_list.specs.Lists.{square_of_list}
use Rattle.da_serving.proofs.BuildLemmas.{both_fine}
use Rattle.axis_roots.specs.Grids.{header_of_grid}
use Rattle.da_files.proofs.FileLemmas.{header_file, square_file, block_or_list_file, square_again, some_there}
use Rattle.da_judging.proofs.AskedLemmas.{answer_file}
use Rattle.da_cli.proofs.RunLemmas.{form_law, bad_input_law, excess_law, absent_law, failure_law}
use Rattle.da_judging.proofs.CheckLemmas.{finding_proved, finding_own}
use Rattle.da_judging.proofs.CompactLemmas.{compacts_own}
use Rattle.da_judging.proofs.RepairLemmas.{repairs_own}
use Rattle.da_cli.proofs.CountedLies.{lies_counted}
use Rattle.da_script.specs.Scripts.{moves_of}
use Rattle.da_script.specs.Plays as plays
use Rattle.da_cli.proofs.CellsLemmas.{cells_wanted}
use Rattle.da_cli.proofs.NetLemmas.{nets_own}
use Rattle.da_cli.proofs.RangeLemmas.{proves_own}
use Rattle.da_judging.proofs.LightLemmas.{lights_own}
use Rattle.da_judging.proofs.VerifyLemmas.{none_where, verified_accepted, verified_own, holds_by, zero_by, states_is}
use Rattle.da_judging.proofs.AskedLemmas.{answers_to}
use Rattle.da_judging.specs.Verify.{check_number, ns_number, commit_number, rooted_number}
use Rattle.da_judging.proofs.RootLemmas.{tied}
use Rattle.da_cli.proofs.laws.run_laws.Goals as goal

pub returns-clause-form : goal.returns-clause-form
returns-clause-form c = form_law

pub returns-clause-bad_input : goal.returns-clause-bad_input
returns-clause-bad_input c = bad_input_law

pub returns-clause-excess : goal.returns-clause-excess
returns-clause-excess c = excess_law

pub returns-clause-absent : goal.returns-clause-absent
returns-clause-absent c = absent_law

pub returns-clause-failure : goal.returns-clause-failure
returns-clause-failure c = failure_law

pub returns-clause-proved : goal.returns-clause-proved
returns-clause-proved c = λ header frame. finding_proved header frame c.wire_laws.ensures.message_spelled c.message_laws.ensures.refusal

pub returns-clause-own : goal.returns-clause-own
returns-clause-own c = λ header frame square bytes own found.
    finding_own header frame square
    ((finding_proved header frame c.wire_laws.ensures.message_spelled c.message_laws.ensures.refusal
    (c.grid_laws.ensures.are_roots square header own) bytes).0 found)
    c.message_laws.ensures.own own

pub returns-clause-verified : goal.returns-clause-verified
returns-clause-verified c = λ header message roots is. none_where check_number _ _ (c.message_laws.ensures.refusal header message roots is)

pub returns-clause-own_answer : goal.returns-clause-own_answer
returns-clause-own_answer c =
    verified_own c.message_laws.ensures.refusal c.message_laws.ensures.own c.answer_laws.ensures.refusal c.answer_laws.ensures.own
    c.claim_laws.ensures.own c.refusal_laws.ensures.commit c.commit_laws.ensures.commit c.refusal_laws.ensures.rooted c.commit_laws.ensures.rooted

pub returns-clause-own_compact : goal.returns-clause-own_compact
returns-clause-own_compact c = compacts_own c.claim_laws.ensures.own

pub returns-clause-own_repair : goal.returns-clause-own_repair
returns-clause-own_repair c = repairs_own c.wire_laws.ensures.message_spelled c.verdict_laws.ensures.own

pub returns-clause-lies : goal.returns-clause-lies
returns-clause-lies c = lies_counted

pub returns-clause-own_light : goal.returns-clause-own_light
returns-clause-own_light c = lights_own c.claim_laws.ensures.own

pub returns-clause-own_net : goal.returns-clause-own_net
returns-clause-own_net c = λ header frames script square w status own.
    nets_own header frames script square w status
    (c.alarm_laws.ensures.own (plays.items_in frames) header (moves_of (length (plays.items_in frames)) script) script w square own)

pub returns-clause-own_prove : goal.returns-clause-own_prove
returns-clause-own_prove c = proves_own c.commit_laws.ensures.commit

pub returns-clause-complete : goal.returns-clause-complete
returns-clause-complete c = λ header name answer. none_where ns_number _ _ (c.answer_laws.ensures.refusal header name answer)

pub returns-clause-upheld : goal.returns-clause-upheld
returns-clause-upheld c = verified_accepted

pub returns-clause-committed : goal.returns-clause-committed
returns-clause-committed c = λ header proof. none_where commit_number _ _ (c.refusal_laws.ensures.commit (data_root_of header) proof)

pub returns-clause-rooted_sample : goal.returns-clause-rooted_sample
returns-clause-rooted_sample c = λ header proof is. none_where rooted_number _ _ (c.refusal_laws.ensures.rooted (data_root_of header) proof is)

pub returns-clause-answer_file : goal.returns-clause-answer_file
returns-clause-answer_file c = answer_file c.wire_laws.ensures.only

pub returns-clause-sample_requests : goal.returns-clause-sample_requests
returns-clause-sample_requests c = λ bytes fits fine. asked_again asked_sample sample_request (sample_kind ∷ []) is_sample_frame bytes (c.value_laws.ensures.values (sample_kind ∷ []) bytes fits fine)

pub returns-clause-namespace_requests : goal.returns-clause-namespace_requests
returns-clause-namespace_requests c = λ bytes fits fine. asked_again namespace_of Request (request_kind ∷ []) is_name_frame bytes (c.value_laws.ensures.values (request_kind ∷ []) bytes fits fine)

pub returns-clause-header_file : goal.returns-clause-header_file
returns-clause-header_file c = header_file c.wire_laws.ensures.only

pub returns-clause-square_file : goal.returns-clause-square_file
returns-clause-square_file c = square_file c.wire_laws.ensures.only

pub returns-clause-block_file : goal.returns-clause-block_file
returns-clause-block_file c = block_or_list_file c.wire_laws.ensures.only

-- the square of a block that isn't refused is one of shares, which has a spelling
pub returns-clause-built : goal.returns-clause-built
returns-clause-built c = λ block is none.
    let square = c.size_laws.ensures.square block none in
    let shares = c.size_laws.ensures.shares block is in
    square_again c.wire_laws.ensures.only_read (block_square block) square shares (c.wire_laws.ensures.squares (block_square block) square shares)

-- its namespaces never fall, so its extension has a header
pub returns-clause-headed : goal.returns-clause-headed
returns-clause-headed c = λ block is none.
    let square = c.size_laws.ensures.square block none in
    let grid = c.grid_laws.ensures.extension (block_square block) square (c.size_laws.ensures.shares block is) in
    let header = some_there (header_of_grid (block_square block).k grid.0)
    (c.grid_laws.ensures.laid (block_square block) grid.0 square grid.1
    (c.name_laws.ensures.rising block (c.name_laws.ensures.named block none))) in
    (header.0, c.grid_laws.ensures.header (block_square block) grid.0 header.0 square grid.1 header.1)

-- so is that of a list of transactions
pub returns-clause-built_list : goal.returns-clause-built_list
returns-clause-built_list c = λ transactions is none.
    let fine = both_fine transactions none in
    let square = c.square_laws.ensures.square (list_of transactions) fine.1 in
    let shares = c.square_laws.ensures.shares (list_of transactions) is in
    let own = square_of_list (list_of transactions) in
    square_again c.wire_laws.ensures.only_read own square shares (c.wire_laws.ensures.squares own square shares)

pub returns-clause-headed_list : goal.returns-clause-headed_list
returns-clause-headed_list c = λ transactions is none.
    let fine = both_fine transactions none in
    let own = square_of_list (list_of transactions) in
    let square = c.square_laws.ensures.square (list_of transactions) fine.1 in
    let grid = c.grid_laws.ensures.extension own square (c.square_laws.ensures.shares (list_of transactions) is) in
    let header = some_there (header_of_grid own.k grid.0)
    (c.grid_laws.ensures.laid own grid.0 square grid.1
    (c.list_laws.ensures.rising (list_of transactions) (c.square_laws.ensures.payments transactions fine.0))) in
    (header.0, c.grid_laws.ensures.header own grid.0 header.0 square grid.1 header.1)

pub returns-clause-asked : goal.returns-clause-asked
returns-clause-asked c = λ header answer request. holds_by _ _ header answer (answers_to request answer)

pub returns-clause-asked_other : goal.returns-clause-asked_other
returns-clause-asked_other c = λ header answer request. zero_by _ header answer

pub returns-clause-answers : goal.returns-clause-answers
returns-clause-answers c = answers_to

pub returns-clause-stated : goal.returns-clause-stated
returns-clause-stated c = λ header answer commitment. holds_by _ _ header answer (states_is commitment answer)

pub returns-clause-stated_other : goal.returns-clause-stated_other
returns-clause-stated_other c = λ header answer commitment. zero_by _ header answer

pub returns-clause-states : goal.returns-clause-states
returns-clause-states c = states_is

pub returns-clause-rooted : goal.returns-clause-rooted
returns-clause-rooted c = tied

pub returns-clause-one_follow : goal.returns-clause-one_follow
returns-clause-one_follow c = c.follow_laws.ensures.once

pub returns-clause-own_follow : goal.returns-clause-own_follow
returns-clause-own_follow c = c.follow_laws.ensures.own

pub returns-clause-cells_wanted : goal.returns-clause-cells_wanted
returns-clause-cells_wanted c = cells_wanted c.wire_laws.ensures.missing c.wire_laws.ensures.only_read
