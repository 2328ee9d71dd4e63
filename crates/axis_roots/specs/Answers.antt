-- Namespace answers: what they are made of (docs/RULES.md, "Namespace answers").
use Rattle.std.specs.Prelude.{◌*◌, ◌^◌, ◌<◌, ◌≤◌, List, length}
use Rattle.std.specs.List.{AllByRecursion}
use Rattle.namespace_id.specs.Shares.{AreShares}
use Rattle.namespace_id.specs.Digests.{IsDigest, AreDigests}
use Rattle.namespace_id.specs.Sizes.{most_depth}
use Rattle.axis_roots.specs.declared.answers.Found.{Found}
use Rattle.axis_roots.specs.declared.answers.Found.TheVariants.{Range, Absence}
use Rattle.axis_roots.specs.declared.answers.NsEntry.{NsEntry}

-- what is found in a row has places of two bytes, shares, digests, and up to `2 * most_depth` nodes
abbrev pub IsFound : Found → Type 0
IsFound (Range start shares nodes) =
    (start < 2 ^ 16) × AreShares shares × (length nodes ≤ 2 * most_depth) × AreDigests nodes
IsFound (Absence pos leaf nodes) =
    (pos < 2 ^ 16) × IsDigest leaf × (length nodes ≤ 2 * most_depth) × AreDigests nodes

-- every entry has a row of two bytes, and what is found there
pub record IsEntry (entry : NsEntry) : Type 0 where
  pub row : entry.row < 2 ^ 16
  pub found : IsFound entry.found

-- each of these is an entry
abbrev pub AreEntries : List NsEntry → Type 0
AreEntries entries = AllByRecursion IsEntry entries
