use Rattle.std.proofs.Common.{◌↔◌, IsTrue, subst}
use Rattle.namespace_id.specs.declared.cells.Axis.TheVariants.{Row}
use Rattle.data_header.specs.DataRoots.{OpensRoot}
use Rattle.blob_commit.specs.Proofs.{RowParts}
use Rattle.blob_commit.proofs.proving.is_led.Goals as goal

pub returns : goal.returns
returns c = subst (λ (r : RowParts). IsTrue c.open_root.result ↔ OpensRoot c.args.root.now c.args.k Row c.args.index r.root r.up) c.row.view_is c.open_root.ensures
