-- Samples that a repair keeps, and how it may end.
use Rattle.std.specs.Prelude.{◌≡◌, List, Option, Some}
use Rattle.namespace_id.specs.declared.cells.Cell.{Cell}
use Rattle.namespace_id.specs.declared.cells.Axis.{Axis}
use Rattle.namespace_id.specs.declared.shares.Share.{Share}
use Rattle.data_header.specs.Headers.{Roots}
use Rattle.axis_roots.specs.declared.message.messages.Message.{Message}
use Rattle.axis_roots.specs.declared.message.proved.Proved.{Proved}
use Rattle.axis_roots.specs.Proved.{kept_message, IsUnder}
use Rattle.repair_queue.specs.declared.ending.Ending.{Ending}
use Rattle.repair_queue.specs.declared.ending.Ending.TheVariants.{Fraud, Clash}
use Rattle.repair_queue.specs.Verdicts.{IsFraud, IsFoundClash}

-- a slot holds a sample with this share
pub record Shows (slot : Option Proved) (share : Share) : Type 0 where
  pub kept : Proved
  pub held : slot ≡ Some kept
  pub share_is : (kept_message kept).share ≡ share

-- a sample in a slot is one of its cell along its axis, proved under the header
pub record IsSlotted (header : Roots) (axis : Axis) (cell : Cell) (kept : Proved) : Type 0 where
  pub under : IsUnder header kept
  pub axis_is : (kept_message kept).axis ≡ axis
  pub cell_is : (kept_message kept).cell ≡ cell

-- a fraud proof of facts, or a collision that is named by trees that are known
abbrev pub IsEnd : Roots → List Message → Ending → Type 0
IsEnd header ms (Fraud proof) = IsFraud header ms proof.claim
IsEnd header ms (Clash clash) = IsFoundClash header ms clash.left clash.right
