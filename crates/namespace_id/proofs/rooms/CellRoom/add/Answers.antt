use Rattle.std.proofs.Common.{◌≡◌, List, [], ◌∷◌, true, refl, sym, subst, arith}
use Rattle.std.proofs.lemmas.Slice.{pushed}
use Rattle.namespace_id.specs.declared.cells.Cell.{Cell}
use Rattle.namespace_id.specs.Cells.{are_cells}
use Rattle.namespace_id.proofs.RoomLemmas.{may_follow, are_cells_with, cells_fewer}
use Rattle.namespace_id.proofs.rooms.CellRoom.add.Goals as goal

-- with one more these are cells of the square, so there were fewer than there is capacity for
pub unwrap-requires : goal.unwrap-requires
unwrap-requires c =
    let may =
    may_follow c.self.inside.k c.self.inside.list.items c.args.self.now c.args.cell c.self.view_is c.requires.cell
    c.requires.after in
    c.push.ensures.succeeds (omega (
      arith,
      c.self.inside.list.ok,
      c.self.invariant.capacity,
      cells_fewer c.self.inside.k c.self.inside.list.items c.args.cell c.self.invariant.cells may.0 may.1,
    ))

-- these are the cells now
pub invariant_of-self : goal.invariant_of-self
invariant_of-self c =
    let may =
    may_follow c.self.inside.k c.self.inside.list.items c.args.self.now c.args.cell c.self.view_is c.requires.cell
    c.requires.after in
    let added = pushed (c.args.cell ∷ []) refl c.unwrap.ensures c.push.ensures.items in
    record {
      cells = subst (λ (l : List Cell). are_cells c.self.inside.k l ≡ true) (sym added)
          (are_cells_with c.self.inside.k c.self.inside.list.items c.args.cell c.self.invariant.cells may.0 may.1);
      capacity = omega (arith, c.push.ensures.capacity, c.self.invariant.capacity);
    }
