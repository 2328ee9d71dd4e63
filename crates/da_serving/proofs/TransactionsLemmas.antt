-- What the command transactions answers.
use Rattle.std.proofs.Common.{◌≡◌, ◌∙◌, ℕ, List, [], ◌++◌, Some, None, refl, sym, ap, subst}
use Rattle.std.specs.Prelude.{MatchOption}
use Rattle.std.specs.declared.option.Option.{Option}
use Rattle.square_layout.specs.Blocks.{SquareShares}
use Rattle.tx_list.specs.Spelled.{spelled_list}
use Rattle.tx_list.specs.declared.refusals.BackError.{BackError}
use Rattle.tx_list.specs.BackRefusals.{back_list, back_refusal}
use Rattle.da_wire.specs.declared.frames.Frame.TheVariants.{Transactions}
use Rattle.da_wire.specs.Spelling.{spelling}
use Rattle.da_wire.specs.Writing.{AppendsSpelling}
use Rattle.da_status.specs.declared.status.Asked.TheVariants.{NoList, LongList}
use Rattle.da_status.specs.declared.status.Status.{Status}
use Rattle.da_status.specs.declared.status.Status.TheVariants.{Done, BadRequest}
use Rattle.da_status.specs.Statuses.{status_kind}
use Rattle.da_status.specs.Outcome.{Relation, Refuses}
use Rattle.da_files.specs.Contents.{square_file}
use Rattle.da_files.specs.Frames.{square_in, WritesText}
use Rattle.da_serving.specs.Transactions.{WritesList, Unlays, TransactionsOf}
use Rattle.da_status.proofs.EndLemmas.{IsAnswer, status_answers}
use Rattle.da_files.proofs.FormLemmas.{over_each}
use Rattle.da_serving.proofs.BuildLemmas.{written_or, written_for}

-- what is written of a list, by its spelling
abbrev list_by : Option (List ℕ) → Relation
list_by o w status = MatchOption o (Refuses (BadRequest LongList) w status) (λ text. WritesText Done text w status)

-- a list that has none
pub list_long : (transactions : List (List ℕ)) → spelling (Transactions transactions) ≡ None → WritesList transactions [] (BadRequest LongList)
list_long transactions none = subst (λ (o : Option (List ℕ)). list_by o [] (BadRequest LongList)) (sym none) (refl, refl)

-- a spelling that was appended to no bytes is written
pub list_written : (transactions : List (List ℕ)) (fresh bytes text : List ℕ) → fresh ≡ [] → AppendsSpelling (Transactions transactions) fresh bytes
    → text ≡ bytes → (w : List ℕ) (status : Status) → WritesText Done text w status → WritesList transactions w status
list_written transactions fresh bytes text none appended same w status writes =
    let all : w ≡ appended.0 = writes.0 ∙ same ∙ appended.2 ∙ ap (λ (l : List ℕ). l ++ appended.0) none in
    subst (λ (o : Option (List ℕ)). list_by o w status) (sym appended.1) (all, writes.1)

-- either is an answer
list_answers : (o : Option (List ℕ)) (w : List ℕ) (status : Status) → list_by o w status → IsAnswer (status_kind status)
list_answers None w status h = status_answers status (BadRequest LongList) h.1 tt
list_answers (Some text) w status h = status_answers status Done h.1 tt

-- the list of a square without a refusal
pub unlays_list : (square : SquareShares) (transactions : List (List ℕ)) → back_refusal square ≡ None → transactions ≡ spelled_list (back_list square)
    → (w : List ℕ) (status : Status) → WritesList transactions w status → Unlays square w status
unlays_list square transactions fine is w status writes =
    written_for (λ (why : BackError). BadRequest (NoList why)) (WritesList (spelled_list (back_list square))) (back_refusal square) fine w status
    (subst (λ (l : List (List ℕ)). WritesList l w status) is writes)

-- what is answered to a square is an answer
square_answers : (o : Option BackError) (transactions : List (List ℕ)) (w : List ℕ) (status : Status)
    → written_or (λ (why : BackError). BadRequest (NoList why)) (WritesList transactions) o w status → IsAnswer (status_kind status)
square_answers None transactions w status h = list_answers (spelling (Transactions transactions)) w status h
square_answers (Some why) transactions w status h = status_answers status (BadRequest (NoList why)) h.1 tt

-- what transactions answers to its files is an answer
pub transactions_answers : (files : List (List ℕ)) (w : List ℕ) (status : Status) → TransactionsOf files w status → IsAnswer (status_kind status)
transactions_answers files w status h =
    over_each Unlays (square_in (square_file files)) w status (IsAnswer (status_kind status))
    (λ square. square_answers (back_refusal square) (spelled_list (back_list square)) w status) h
