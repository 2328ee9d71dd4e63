-- The part of a tree that is known of an interval.
use Rattle.std.specs.Prelude.{◌≡◌, ◌<◌, ◌+◌, ◌-◌, ◌^◌, ℕ, length}
use Rattle.nmt_proofs.specs.Parts.{Part, given, leaf, join}
use Rattle.nmt_proofs.specs.Openings.{opened, one_leaf}
use Rattle.nmt_proofs.specs.Clashes.{whole}
use Rattle.hash_clash.specs.declared.sides.Side.{Side}
use Rattle.hash_clash.specs.declared.sides.Side.TheVariants as side
use Rattle.hash_clash.specs.declared.sides.Seen.{Seen}
use Rattle.hash_clash.specs.declared.sides.Seen.TheVariants as seen

-- the part of 2 ^ depth places from `start` on
abbrev pub part_of : ℕ → ℕ → Side → Part
part_of depth start (side.Given digest) = given digest.now
part_of depth start (side.Opened pos opening nodes) =
    opened depth start (one_leaf pos opening.now.name opening.now.share) nodes.now
part_of depth start (side.Listed names shares) = whole depth names.now shares.now

-- there are as many nodes, or leaves, as an interval of this depth has
abbrev pub IsSide : ℕ → Side → Type 0
IsSide depth (side.Given digest) = Unit {0}
IsSide depth (side.Opened pos opening nodes) = length nodes.now ≡ depth
IsSide depth (side.Listed names shares) =
    (length names.now ≡ 2 ^ depth) × (length shares.now ≡ 2 ^ depth)

-- an interval is joined of its halves
pub record IsJoined (depth start : ℕ) (whole left right : Side) : Type 0 where
  pub several : 0 < depth
  pub part : part_of depth start whole
      ≡ join (part_of (depth - 1) start left) (part_of (depth - 1) (start + 2 ^ (depth - 1)) right)
  pub left_fits : IsSide (depth - 1) left
  pub right_fits : IsSide (depth - 1) right

-- what an interval is
abbrev pub IsSeenAs : ℕ → ℕ → Side → Seen → Type 0
IsSeenAs depth start whole (seen.Given digest) = part_of depth start whole ≡ given digest.now
IsSeenAs depth start whole (seen.Leaf name share) =
    part_of depth start whole ≡ leaf name.now share.now
IsSeenAs depth start whole (seen.Join left right) = IsJoined depth start whole left right
