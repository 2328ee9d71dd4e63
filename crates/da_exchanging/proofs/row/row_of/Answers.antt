use Rattle.std.proofs.Common.{◌≡◌, ◌*◌, true, false, Err, ap, nat_lt}
use Rattle.half_rows.specs.Rows.{width_of}
use Rattle.da_exchanging.proofs.RowLemmas.{no_row, row_falls, row_made, not_failed}
use Rattle.da_exchanging.proofs.row.row_of.Goals as goal

-- the frames of the row were made
pub returns-in-Ok : goal.returns-in-Ok
returns-in-Ok c =
    let there : nat_lt c.args.row (2 * width_of c.args.half) ≡ true =
    not_failed (nat_lt c.args.row (2 * width_of c.args.half))
    (λ (none : nat_lt c.args.row (2 * width_of c.args.half) ≡ false). let e = c.in-Ok.ensures.no_row.1 none in absurd cc) in
    row_made c.args.row c.args.half c.in-Ok.samples _ there c.in-Ok.ensures.samples c.sample_frames.ensures

-- the square has no such row
pub returns-in-Err-NoRow : goal.returns-in-Err-NoRow
returns-in-Err-NoRow c = no_row c.args.row c.args.half (c.in-Err-NoRow.ensures.no_row.0 (ap Err c.in-Err-NoRow.field-0-is))

-- the namespaces of the row fall
pub returns-in-Err-Unordered : goal.returns-in-Err-Unordered
returns-in-Err-Unordered c =
    let there : nat_lt c.args.row (2 * width_of c.args.half) ≡ true =
    not_failed (nat_lt c.args.row (2 * width_of c.args.half))
    (λ (none : nat_lt c.args.row (2 * width_of c.args.half) ≡ false).
    let e = c.in-Err-Unordered.ensures.no_row.1 none in
    let is = c.in-Err-Unordered.field-0-is in
    absurd cc) in
    row_falls c.args.row c.args.half there (c.in-Err-Unordered.ensures.unordered (ap Err c.in-Err-Unordered.field-0-is))
