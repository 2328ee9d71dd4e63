use Rattle.std.proofs.Common.{◌∙◌, ◌+◌, List, sym, ap}
use Rattle.axis_roots.specs.declared.answers.NsEntry.{NsEntry}
use Rattle.celestia_pb.specs.NamespaceData.{entries_left}
use Rattle.celestia_pb.proofs.NamespaceDataLoops.{left_from, left_right, entry_right, with_entries, with_entries-more, still_right, all_taken}
use Rattle.celestia_pb.proofs.namespace_data.entries_in.Goals as goal

-- the message of the next row is right, since all are
pub next_entry-requires : goal.next_entry-requires
next_entry-requires c =
    entry_right c.args.rows.now c.loop-i.i 0 c.loop-i.rest.now c.loop-i-test.true
    (still_right (entries_left c.args.rows.now c.args.bytes.now) c.loop-i.entries.items (left_from c.loop-i.i c.args.rows.now c.loop-i.rest.now)
    c.loop-i.invariant c.requires)

-- one more was taken
pub loop-i-preserved : goal.loop-i-preserved
loop-i-preserved c =
    let entries : List NsEntry = c.loop-i.entries.items in
    let entry : NsEntry = c.in_ok-entry.entry in
    let left = left_from (c.loop-i.i + 1) c.args.rows.now c.in_ok-entry.after.now in
    c.loop-i.invariant
    ∙ ap (with_entries entries)
    (left_right c.args.rows.now c.loop-i.i 0 c.loop-i.rest.now c.loop-i-test.true entry c.in_ok-entry.after.now c.in_ok-entry.ensures)
    ∙ with_entries-more entries entry left
    ∙ sym (ap (λ (l : List NsEntry). with_entries l left) c.in-Ok.ensures.items)

-- none is left
pub returns : goal.returns
returns c =
    let none = still_right (entries_left c.args.rows.now c.args.bytes.now) c.loop-i.entries.items
    (left_from c.loop-i.i c.args.rows.now c.loop-i.rest.now) c.loop-i.invariant c.requires in
    c.loop-i.invariant ∙ all_taken c.args.rows.now c.loop-i.i c.loop-i.rest.now c.loop-i.entries.items c.loop-i-test.false none
