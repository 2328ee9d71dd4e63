use Rattle.std.proofs.Common.{◌*◌}
use Rattle.celestia_pb.proofs.PlaceTexts.{write_room, write_more, write_end}
use Rattle.celestia_pb.proofs.befp_put.put_places.Goals as goal

-- a place has no more bytes than are left
pub put_place-requires : goal.put_place-requires
put_place-requires c = record {
  capacity = write_room c.args.axis (2 * c.args.k) c.loop-place.place c.loop-place.rest.now c.args.out.now c.loop-place.out _ _ c.loop-place.invariant
      c.loop-place-test.true c.requires.capacity;
}

-- one more was appended
pub loop-place-preserved : goal.loop-place-preserved
loop-place-preserved c =
    write_more c.args.axis (2 * c.args.k) c.loop-place.place c.loop-place.rest.now c.args.out.now c.loop-place.out _ _ c.loop-place.invariant
    c.loop-place-test.true c.put_place.new.out c.put_place.ensures c.behind_place-rest.result.now c.behind_place-rest.ensures

-- none are left
pub returns-clause-appended : goal.returns-clause-appended
returns-clause-appended c =
    (write_end c.args.axis (2 * c.args.k) c.loop-place.place c.loop-place.rest.now c.args.out.now c.loop-place.out _ _ c.loop-place.invariant
    c.loop-place-test.false).appended

pub returns-clause-len : goal.returns-clause-len
returns-clause-len c =
    (write_end c.args.axis (2 * c.args.k) c.loop-place.place c.loop-place.rest.now c.args.out.now c.loop-place.out _ _ c.loop-place.invariant
    c.loop-place-test.false).len
