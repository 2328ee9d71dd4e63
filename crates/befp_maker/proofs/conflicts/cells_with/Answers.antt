use Rattle.std.proofs.Common.{◌≡◌, ◌∙◌, List, ◌+◌, ◌-◌, ◌<◌, ap, subst, arith}
use Rattle.namespace_id.specs.declared.shares.Share.{Share}
use Rattle.data_header.specs.Headers.{Roots}
use Rattle.namespace_id.specs.Lists.{ascending}
use Rattle.namespace_id.proofs.WidthLemmas.{is_width-pos}
use Rattle.axis_roots.specs.Messages.{position}
use Rattle.axis_roots.specs.declared.message.messages.Message.{Message}
use Rattle.axis_roots.specs.Proved.{kept_message}
use Rattle.befp_maker.specs.Rooms.{RoomParts}
use Rattle.befp_maker.specs.Gathered.{IsContinued}
use Rattle.befp_maker.proofs.WithLemmas.{with_continued}
use Rattle.befp_maker.proofs.conflicts.cells_with.Goals as goal

-- the other sample stands between the line's first k - 1 others
pub returns-clause-cells : goal.returns-clause-cells
returns-clause-cells c =
    let width : c.header.inside.k ≡ c.args.header.now.k = ap (λ (r : Roots). r.k) c.header.view_is in
    let pos : c.position.result ≡ position c.args.axis (kept_message c.args.other).cell =
    c.position.ensures ∙ ap (λ (m : Message). position c.args.axis m.cell) c.message.ensures in
    let some : 0 < c.header.inside.k = is_width-pos c.header.inside.k c.header.invariant.width in
    with_continued c.args.header.now c.args.axis c.args.index c.args.room.now.shares c.args.other c.min-first.result (c.min-first.result - 0)
    (c.header.inside.k - (c.min-first.result + 1)) c.args.cells.items c.put_line.new.cells.items c.put_cell.new.cells.items c.put_line-2.new.cells.items
    (c.message_laws.ensures.certificate c.args.header.now c.args.other c.requires.other.under) c.requires.index c.requires.other (omega arith) (λ h. omega arith) (λ h. omega arith)
    c.requires.empty (omega arith) c.put_line.ensures.appended c.put_cell.ensures.appended
    (subst (λ (line : List Share). IsContinued c.args.header.now c.args.axis c.args.index line (ascending (c.min-first.result + 1) (c.header.inside.k - (c.min-first.result + 1)))
    c.put_cell.new.cells.items c.put_line-2.new.cells.items) (ap (λ (r : RoomParts). r.shares) c.put_line.ensures.kept) c.put_line-2.ensures.appended)
