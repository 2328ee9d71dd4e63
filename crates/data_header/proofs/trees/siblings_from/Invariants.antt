use Rattle.std.proofs.Common.{◌≡◌, ◌<◌, ◌-◌, ◌++◌, length}
use Rattle.data_header.specs.HashTrees.{siblings}
use Rattle.data_header.proofs.trees.siblings_from.Given as goal

-- the hashes so far and those on the levels that are left are all
abbrev pub invariant-loop : goal.invariant-loop
invariant-loop l = record {
  all : l.path ++ siblings (l.levels - l.counter) l.hashes l.at ≡ siblings l.levels l.hashes l.place;
  count : length l.path ≡ l.counter;
  within : l.at < length l.hashes;
}
