use Rattle.std.proofs.Common.{ℕ, subst, arith}
use Rattle.data_header.specs.DataRoots.{data_root_of}
use Rattle.blob_commit.specs.Making.{RowsHold}
use Rattle.blob_commit.proofs.WidthLemmas.{square_bound}
use Rattle.blob_commit.proofs.CommitOwnLemmas.{range_parts}
use Rattle.blob_commit.proofs.FitLemmas.{range_divides, range_begins}
use Rattle.blob_commit.proofs.MakingLemmas.{rows_alone}
use Rattle.blob_commit.proofs.making.rows_of.Goals as goal

-- the greatest square has so many shares
pub levels_of-requires-clause-bound : goal.levels_of-requires-clause-bound
levels_of-requires-clause-bound c =
    let within = (range_parts c.args.roots.now.k c.args.start c.args.count c.requires.range).1 in
    square_bound c.args.roots.now.k c.args.count c.requires.width (omega (arith, within))

pub add_rows-requires-clause-divides : goal.add_rows-requires-clause-divides
add_rows-requires-clause-divides c = range_divides c.args.roots.now.k c.args.start c.args.count c.levels_of.result c.requires.width c.requires.range c.levels_of.ensures.value

pub add_rows-requires-clause-begins : goal.add_rows-requires-clause-begins
add_rows-requires-clause-begins c = λ some. range_begins c.args.roots.now.k c.args.start c.args.count c.levels_of.result c.requires.width c.requires.range c.levels_of.ensures.value

pub returns : goal.returns
returns c =
    subst (λ (levels : ℕ). RowsHold (data_root_of c.args.roots.now) c.args.roots.now.k levels c.args.start c.args.count c.add_rows.new.rows.items) c.levels_of.ensures.value
    (rows_alone (data_root_of c.args.roots.now) c.args.roots.now.k c.levels_of.result c.args.start c.args.count c.new-rows.result.items c.add_rows.new.rows.items c.new-rows.ensures.items c.in_ok-add_rows.ensures)
