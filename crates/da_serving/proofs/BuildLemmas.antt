-- What the command build answers.
use Rattle.std.proofs.Common.{◌≡◌, ℕ, ◌≤◌, min, List, Some, None, sym, subst, ltb-false}
use Rattle.std.specs.Prelude.{MatchOption, nat_lt}
use Rattle.std.specs.declared.option.Option.{Option}
use Rattle.namespace_id.proofs.RefusalLemmas.{if_none}
use Rattle.square_layout.specs.Layout.{block_square}
use Rattle.square_layout.specs.Refusals.{max_shares, most_named, layout_refusal}
use Rattle.square_layout.proofs.AcceptedLemmas.{no_refusal}
use Rattle.tx_list.specs.declared.refusals.ListError.TheVariants.{TooLarge}
use Rattle.tx_list.specs.Payments.{ListParts}
use Rattle.tx_list.specs.Reads.{list_of}
use Rattle.tx_list.specs.Lists.{square_of_list}
use Rattle.tx_list.specs.ReadRefusals.{read_refusal}
use Rattle.tx_list.specs.Refusals.{list_size_refusal}
use Rattle.tx_list.specs.Reserves.{list_bound}
use Rattle.da_wire.specs.declared.frames.Frame.TheVariants.{Square}
use Rattle.da_wire.specs.Spelling.{spelling}
use Rattle.da_status.specs.declared.status.Status.{Status}
use Rattle.da_status.specs.declared.status.Status.TheVariants.{Done, BadBlock, BadList}
use Rattle.da_status.specs.Statuses.{status_kind}
use Rattle.da_status.specs.Outcome.{Relation, Refuses}
use Rattle.da_files.specs.declared.frames.BlockOrList.{BlockOrList}
use Rattle.da_files.specs.declared.frames.BlockOrList.TheVariants.{Block, Transactions}
use Rattle.da_files.specs.Frames.{block_or_list_in}
use Rattle.da_serving.specs.Build.{block_file, list_refusal, BuildsEither, BuildOf}
use Rattle.da_status.proofs.EndLemmas.{IsAnswer, status_answers}
use Rattle.da_files.proofs.FormLemmas.{over_each}

-- ---- what is written, or refused

module _ {E : Type 0} (refused : E → Status) where
  -- what is written with a complete output, or what is refused
  abbrev pub written_or : Relation → Option E → Relation
  written_or Written o w status = MatchOption o (Written w status) (λ why. Refuses (refused why) w status)

  -- where nothing is refused it is what is written
  pub written_for : (Written : Relation) (o : Option E) → o ≡ None → (w : List ℕ) (status : Status) → Written w status → written_or Written o w status
  written_for Written o fine w status h = subst (λ (x : Option E). written_or Written x w status) (sym fine) h

  -- either is an answer
  pub written_answers : ((why : E) → IsAnswer (status_kind (refused why))) → (Fact : List ℕ → Type 0) (o : Option E) (w : List ℕ) (status : Status)
      → written_or (λ v s. Fact v × (s ≡ Done)) o w status → IsAnswer (status_kind status)
  written_answers answers Fact None w status h = status_answers status Done h.1 tt
  written_answers answers Fact (Some why) w status h = status_answers status (refused why) h.1 (answers why)

-- ---- lists of transactions

-- transactions without a refusal are read, and not refused for their size
pub both_fine : (transactions : List (List ℕ)) → list_refusal transactions ≡ None
    → (read_refusal transactions ≡ None) × (list_size_refusal (list_of transactions) ≡ None)
both_fine transactions fine = no_refusal (read_refusal transactions) (list_size_refusal (list_of transactions)) (sym fine)

-- a list that isn't refused for its size takes no more shares than the greatest square has
pub list_few : (list : ListParts) → list_size_refusal list ≡ None → list_bound list ≤ max_shares
list_few list fine =
    let bound : ℕ = list_bound list in
    ltb-false max_shares bound (if_none (nat_lt max_shares bound) (TooLarge (min bound most_named)) None fine).0

-- ---- what build answers to its files

-- what is answered to either is an answer
either_answers : (block : BlockOrList) (w : List ℕ) (status : Status) → BuildsEither block w status → IsAnswer (status_kind status)
either_answers (Block block) w status h =
    written_answers BadBlock (λ why. tt) (λ v. spelling (Square (block_square block)) ≡ Some v) (layout_refusal block) w status h
either_answers (Transactions transactions) w status h =
    written_answers BadList (λ why. tt) (λ v. spelling (Square (square_of_list (list_of transactions))) ≡ Some v)
    (list_refusal transactions) w status h

-- what build answers to its files is an answer
pub build_answers : (files : List (List ℕ)) (w : List ℕ) (status : Status) → BuildOf files w status → IsAnswer (status_kind status)
build_answers files w status h =
    over_each BuildsEither (block_or_list_in (block_file files)) w status (IsAnswer (status_kind status)) (λ block. either_answers block w status) h
