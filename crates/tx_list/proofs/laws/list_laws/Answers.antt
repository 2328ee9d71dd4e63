use Rattle.tx_list.specs.Payments.{blobs_of}
use Rattle.tx_list.specs.Reserves.{list_reserve}
use Rattle.tx_list.proofs.ListLemmas.{ends_within, list_is_low, list_has_room, list_names_rise, starts_are, list_is_block}
use Rattle.tx_list.proofs.StandingLemmas.{list_stands}
use Rattle.tx_list.proofs.laws.list_laws.Goals as goal

pub returns-clause-low : goal.returns-clause-low
returns-clause-low c = list_is_low

pub returns-clause-room : goal.returns-clause-room
returns-clause-room c = list_has_room

pub returns-clause-ends : goal.returns-clause-ends
returns-clause-ends c = λ list. ends_within (list_reserve list) (blobs_of list.payments)

pub returns-clause-stands : goal.returns-clause-stands
returns-clause-stands c = list_stands

pub returns-clause-rising : goal.returns-clause-rising
returns-clause-rising c = list_names_rise

pub returns-clause-starts : goal.returns-clause-starts
returns-clause-starts c = starts_are

pub returns-clause-same : goal.returns-clause-same
returns-clause-same c = list_is_block
