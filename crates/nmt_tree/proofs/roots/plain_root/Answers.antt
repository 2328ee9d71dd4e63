use Rattle.std.proofs.Common.{length, sym}
use Rattle.nmt_tree.specs.Roots.{halvings}
use Rattle.namespace_id.proofs.PowerLemmas.{power_halvings}
use Rattle.nmt_tree.proofs.roots.plain_root.Goals as goal

pub returns : goal.returns
returns c = c.root_of.ensures (halvings (length c.args.names.now)) (sym (power_halvings (length c.args.names.now) c.requires.count))
