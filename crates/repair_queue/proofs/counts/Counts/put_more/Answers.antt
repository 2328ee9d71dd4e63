use Rattle.repair_queue.proofs.Counting.RaiseLemmas.{row_more, col_more}
use Rattle.repair_queue.proofs.counts.Counts.put_more.Goals as goal

-- a number of rows
pub returns-in-Row : goal.returns-in-Row
returns-in-Row c = row_more c.args.rows.now.items c.args.cols.now.items c.args.axis c.args.index c.args.more c.in-Row.is c.requires.rows c.requires.more

-- or of columns
pub returns-in-Col : goal.returns-in-Col
returns-in-Col c = col_more c.args.rows.now.items c.args.cols.now.items c.args.axis c.args.index c.args.more c.in-Col.is c.requires.cols c.requires.more
