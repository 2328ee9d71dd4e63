use Rattle.namespace_id.proofs.NumberLemmas.{numbers_rise}
use Rattle.namespace_id.proofs.RowMajorLemmas.{cells_count, cells_once}
use Rattle.namespace_id.proofs.AllCellsLemmas.{are_all_cells, all_member, number_of}
use Rattle.namespace_id.proofs.cells.cells_laws.Goals as goal

pub returns-clause-all : goal.returns-clause-all
returns-clause-all c = are_all_cells

pub returns-clause-member : goal.returns-clause-member
returns-clause-member c = all_member

pub returns-clause-count : goal.returns-clause-count
returns-clause-count c = cells_count

pub returns-clause-once : goal.returns-clause-once
returns-clause-once c = cells_once

pub returns-clause-number : goal.returns-clause-number
returns-clause-number c = number_of

pub returns-clause-order : goal.returns-clause-order
returns-clause-order c = numbers_rise
