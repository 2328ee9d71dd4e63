-- A unit stands in compact shares as bytes behind their length.
use Rattle.std.proofs.Common.{◌≡◌, ℕ, List, refl}
use Rattle.share_split.specs.Units.{unit_text}
use Rattle.proto_fields.specs.Spelled.{text}

pub unit_text-is : (unit : List ℕ) → unit_text unit ≡ text unit
unit_text-is unit = refl
