use Rattle.std.proofs.Common.{◌≡◌, ◌∙◌, ◌<◌, ◌++◌, ℕ, ap, arith}
use Rattle.square_serve.specs.Answers.{is_wanted}
use Rattle.square_serve.specs.Serving.{HeldParts, row_entry}
use Rattle.da_talk.specs.Replies.{most_entry}
use Rattle.da_talk.specs.Replies.{row_reply}
use Rattle.da_talk.proofs.NamesLemmas.{rows_on, rows_end, room_on}
use Rattle.da_talk.proofs.names.put_entries.Goals as goal

-- one row more was written
pub loop-row-preserved : goal.loop-row-preserved
loop-row-preserved c =
    let k : ℕ = c.args.held.now.k in
    let within : c.loop-row.row < k = omega (arith, c.loop-row-test.true, c.width-row-end.ensures.value) in
    let same : c.loop-row.held.k ≡ k = ap (λ (h : HeldParts). h.k) c.loop-row.invariant.kept in
    let most : most_entry c.loop-row.held.k ≡ most_entry k = ap most_entry same in
    record {
      kept = c.put_row.ensures.kept ∙ c.loop-row.invariant.kept;
      all = rows_on (is_wanted c.args.held.now.header c.args.name.now) (row_entry k c.args.held.now.grid c.args.name.now) k c.loop-row.row c.loop-row.text.items c.put_row.new.text.items _ within
          (c.put_row.ensures.appended ∙ ap (λ (h : HeldParts). c.loop-row.text.items ++ row_reply h c.args.name.now c.loop-row.row) c.loop-row.invariant.kept)
          c.loop-row.invariant.all;
      len = omega (arith, c.put_row.ensures.len, most, room_on (most_entry k) k c.loop-row.row within, c.loop-row.invariant.len);
      capacity = omega (arith, c.put_row.ensures.capacity, c.loop-row.invariant.capacity);
    }

-- none are left
pub returns-clause-appended : goal.returns-clause-appended
returns-clause-appended c =
    rows_end (is_wanted c.args.held.now.header c.args.name.now) (row_entry c.args.held.now.k c.args.held.now.grid c.args.name.now) c.args.held.now.k c.loop-row.row c.loop-row.text.items _
    (omega (arith, c.loop-row-test.false, c.width-row-end.ensures.value)) c.loop-row.invariant.all
