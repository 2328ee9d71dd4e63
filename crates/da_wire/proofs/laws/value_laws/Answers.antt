use Rattle.std.proofs.Common.{arith, length-append}
use Rattle.std.specs.Int.{w16}
use Rattle.frame_payloads.specs.codec.Texts.{text_bytes}
use Rattle.frame_payloads.proofs.Forms.CellCounts.{cells_few}
use Rattle.da_wire.specs.declared.frames.Frame.TheVariants.{Clash}
use Rattle.da_wire.proofs.ValueListLemmas.{values_are_the_file, files_are_values, bad_value_is_first}
use Rattle.da_wire.proofs.kinds.Form.{spelled_within}
use Rattle.da_wire.proofs.laws.value_laws.Goals as goal

pub returns : goal.returns
returns c = record {
  values = values_are_the_file;
  files = files_are_values;
  bad = bad_value_is_first;
  clash = λ clash are some.
      spelled_within (Clash clash) some (omega (arith, are.left_few, are.right_few, length-append (text_bytes w16 clash.left) (text_bytes w16 clash.right)));
  few_cells = λ cells are. omega (arith, cells_few cells are);
}
