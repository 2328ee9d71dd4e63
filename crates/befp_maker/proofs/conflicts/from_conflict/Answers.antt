use Rattle.std.proofs.Common.{◌≡◌, ◌∙◌, ℕ, sym, ap, subst}
use Rattle.axis_roots.specs.Lines.{line_root}
use Rattle.befp_maker.specs.Rooms.{RoomParts}
use Rattle.befp_maker.proofs.MessageLemmas.{strict_there}
use Rattle.befp_maker.proofs.conflicts.from_conflict.Goals as goal

-- both lines have the header's root
pub clash-requires-clause-root : goal.clash-requires-clause-root
clash-requires-clause-root c =
    let width : c.from_half.new.room.k ≡ c.args.header.now.k =
    c.from_half.ensures.width ∙ ap (λ (r : RoomParts). r.k) (c.cells_with-cells.ensures.kept ∙ c.hold.ensures) ∙ c.requires.room in
    subst (λ (k : ℕ). line_root k c.args.axis c.args.index c.args.all.now ≡ line_root k c.args.axis c.args.index c.from_half.new.room.shares) (sym width)
    ((strict_there c.args.header.now.k c.args.axis c.args.index c.args.all.now _ c.requires.all.root).1
    ∙ sym (strict_there c.args.header.now.k c.args.axis c.args.index c.from_half.new.room.shares _ c.in-Matches.ensures.value.1.root).1)
