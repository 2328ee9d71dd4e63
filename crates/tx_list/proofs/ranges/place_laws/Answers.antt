use Rattle.tx_list.proofs.RangeLemmas.{places_stated, place_is_start, range_is_there, list_blobs}
use Rattle.tx_list.proofs.ranges.place_laws.Goals as goal

pub returns-clause-stated : goal.returns-clause-stated
returns-clause-stated c = places_stated

pub returns-clause-start : goal.returns-clause-start
returns-clause-start c = place_is_start

pub returns-clause-range : goal.returns-clause-range
returns-clause-range c = range_is_there

pub returns-clause-blobs : goal.returns-clause-blobs
returns-clause-blobs c = list_blobs
