use Rattle.std.proofs.Common.{◌∙◌, ◌++◌, ℕ, List, ap}
use Rattle.std.specs.Int.{w16, w64, to_be_bytes}
use Rattle.celestia_pb.proofs.IdLemmas.{three_parts}
use Rattle.celestia_pb.proofs.ids.put_sample_id.Goals as goal

-- the height, the row and the column
pub returns-clause-appended : goal.returns-clause-appended
returns-clause-appended c =
    three_parts c.args.out.now.items (to_be_bytes w64 c.args.height) (to_be_bytes w16 c.args.cell.row) (to_be_bytes w16 c.args.cell.col)
    c.append.new.out.items c.append-2.new.out.items c.append-3.new.out.items
    (c.append.ensures.appended ∙ ap (λ (l : List ℕ). c.args.out.now.items ++ l) c.to_be_bytes.ensures)
    (c.append-2.ensures.appended ∙ ap (λ (l : List ℕ). c.append.new.out.items ++ l) c.to_be_bytes-2.ensures)
    (c.append-3.ensures.appended ∙ ap (λ (l : List ℕ). c.append-2.new.out.items ++ l) c.to_be_bytes-3.ensures)
