use Rattle.std.proofs.Common.{◌≡◌, ◌≤◌, ◌<◌, length, drop, map}
use Rattle.std.specs.List.{AllByRecursion}
use Rattle.square_layout.specs.Blocks.{HaveBytes}
use Rattle.square_layout.specs.Layout.{end_of}
use Rattle.square_layout.specs.Refusals.{max_shares}
use Rattle.tx_list.specs.Places.{places_from}
use Rattle.tx_list.specs.Steps.{numbered, unnumbered, put_places}
use Rattle.tx_list.proofs.placing.put_places.Given as goal

-- what was written and what is left are all, and what is left has bytes and room
abbrev pub invariant-loop-one : goal.invariant-loop-one
invariant-loop-one l = record {
  all : put_places (places_from l.end (drop l.one-index (map numbered l.order))) l.places
      ≡ put_places (places_from l.fn.end (map numbered l.order)) l.fn.places;
  some : HaveBytes (unnumbered (drop l.one-index (map numbered l.order)));
  numbers : AllByRecursion (λ one. one.number < length l.places) (drop l.one-index (map numbered l.order));
  fits : end_of l.end (unnumbered (drop l.one-index (map numbered l.order))) ≤ max_shares;
}
