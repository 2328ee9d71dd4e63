use Rattle.std.proofs.Common.{◌≤◌, length, drop, ap, arith}
use Rattle.std.proofs.lemmas.List.{length-take}
use Rattle.namespace_id.specs.declared.cells.Axis.TheVariants.{Row}
use Rattle.axis_roots.specs.Grids.{axis_shares}
use Rattle.da_talk.proofs.NamesLemmas.{range_few, absence_few}
use Rattle.da_talk.proofs.names.put_entry.Goals as goal

-- a range has no more shares than the row
pub put_range-requires-clause-capacity : goal.put_range-requires-clause-capacity
put_range-requires-clause-capacity c =
    let few : length c.shares-shares.result.now ≤ c.args.held.now.k = omega (arith, ap length c.shares-shares.ensures, length-take c.in-Range.count (drop c.in-Range.start (axis_shares c.find.new.self.k c.find.new.self.grid Row c.args.row)), c.in-Range.ensures.columns.1) in
    omega (
      arith,
      range_few c.args.held.now.k c.args.row c.in-Range.start c.shares-shares.result.now c.nodes-path.result.now c.shares_law.ensures c.digests_law.ensures few c.nodes-path.ensures.bound,
      c.requires.capacity,
    )

pub returns-in-Range-clause-len : goal.returns-in-Range-clause-len
returns-in-Range-clause-len c =
    let few : length c.shares-shares.result.now ≤ c.args.held.now.k = omega (arith, ap length c.shares-shares.ensures, length-take c.in-Range.count (drop c.in-Range.start (axis_shares c.find.new.self.k c.find.new.self.grid Row c.args.row)), c.in-Range.ensures.columns.1) in
    omega (
      arith,
      range_few c.args.held.now.k c.args.row c.in-Range.start c.shares-shares.result.now c.nodes-path.result.now c.shares_law.ensures c.digests_law.ensures few c.nodes-path.ensures.bound,
      c.put_range.ensures.len,
    )

-- an absence is short
pub put_absence-requires-clause-capacity : goal.put_absence-requires-clause-capacity
put_absence-requires-clause-capacity c =
    omega (
      arith,
      absence_few c.args.held.now.k c.args.row c.in-Absence.pos c.in-Absence.leaf c.nodes-path-in-Absence.result.now c.digest_law.ensures c.digests_law-in-Absence.ensures c.requires.row
          c.nodes-path-in-Absence.ensures.bound,
      c.requires.capacity,
    )

pub returns-in-Absence-clause-len : goal.returns-in-Absence-clause-len
returns-in-Absence-clause-len c =
    omega (
      arith,
      absence_few c.args.held.now.k c.args.row c.in-Absence.pos c.in-Absence.leaf c.nodes-path-in-Absence.result.now c.digest_law.ensures c.digests_law-in-Absence.ensures c.requires.row
          c.nodes-path-in-Absence.ensures.bound,
      c.put_absence.ensures.len,
    )
