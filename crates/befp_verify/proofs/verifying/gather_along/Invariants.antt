use Rattle.std.proofs.Common.{◌≡◌, length, map, take}
use Rattle.axis_roots.specs.Messages.{position}
use Rattle.axis_roots.specs.Sets.{along_in, sample_names}
use Rattle.befp_verify.proofs.verifying.gather_along.Given as goal

-- those along the axis so far
abbrev pub invariant-loop-at : goal.invariant-loop-at
invariant-loop-at l = record {
  number : l.count ≡ length (along_in l.axis (take l.at l.cells));
  positions : take l.count l.known ≡ map (λ m. position l.axis m.cell) (along_in l.axis (take l.at l.cells));
  leaf_names : take l.count l.names ≡ sample_names l.k (along_in l.axis (take l.at l.cells));
  copies : take l.count l.shares ≡ map (λ m. m.share) (along_in l.axis (take l.at l.cells));
}
