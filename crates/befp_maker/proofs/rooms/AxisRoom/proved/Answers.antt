use Rattle.std.proofs.Common.{◌≡◌, ◌∙◌, ◌*◌, length, true, refl, sym, ap, subst}
use Rattle.std.proofs.lemmas.List.{get_or_read_under}
use Rattle.namespace_id.specs.Cells.{is_width}
use Rattle.namespace_id.specs.Shares.{AreShares}
use Rattle.axis_roots.specs.Lines.{blank, entry}
use Rattle.befp_maker.specs.Rooms.{RoomParts}
use Rattle.befp_maker.proofs.MessageLemmas.{strict_there, message_proved}
use Rattle.befp_maker.proofs.rooms.AxisRoom.proved.Goals as goal

-- a line with a strict root is ordered
pub path-path-requires-clause-ordered : goal.path-path-requires-clause-ordered
path-path-requires-clause-ordered c = (strict_there c.args.self.now.k c.args.axis c.args.index c.args.self.now.shares _ c.requires.root).0

-- its sample is proved
pub certify-requires : goal.certify-requires
certify-requires c =
    let room : RoomParts = c.args.self.now in
    let width : is_width room.k ≡ true = subst (λ (r : RoomParts). is_width r.k ≡ true) c.self.view_is c.self.invariant.width in
    let long : length room.shares ≡ 2 * room.k = subst (λ (r : RoomParts). length r.shares ≡ 2 * r.k) c.self.view_is c.self.invariant.line in
    let are : AreShares room.shares = subst (λ (r : RoomParts). AreShares r.shares) c.self.view_is (subst AreShares c.deref.ensures.value c.shares_law.ensures) in
    let share : c.index-share.result.now ≡ entry room.shares c.args.pos =
    get_or_read_under c.self.inside.shares.items c.args.pos (2 * room.k) c.index-share.result.now blank c.index-share.ensures c.requires.pos
    (sym (c.self.invariant.line ∙ ap (λ (r : RoomParts). 2 * r.k) c.self.view_is))
    ∙ ap (λ (r : RoomParts). entry r.shares c.args.pos) c.self.view_is in
    message_proved c.args.header.now room.k c.args.axis c.args.index c.args.pos room.shares _ c.requires.room c.requires.root
    (c.made_laws.ensures.line room.k c.args.axis c.args.index c.args.pos room.shares width c.requires.index c.requires.pos long are
    (strict_there room.k c.args.axis c.args.index room.shares _ c.requires.root).0)
    c.cell_on-cell.ensures refl share c.path-path.ensures.nodes
