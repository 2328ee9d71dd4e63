use Rattle.std.proofs.Common.{◌≡◌, ◌∙◌, ℕ, ◌*◌, ap, arith}
use Rattle.square_layout.specs.Blocks.{SquareShares}
use Rattle.square_serve.proofs.NeededLemmas.{empty_each}
use Rattle.square_serve.proofs.row_trees.RowTrees.of.Goals as goal

pub returns : goal.returns
returns c =
    let width : c.square.inside.k ≡ c.args.square.now.k = ap (λ (s : SquareShares). s.k) c.square.view_is in
    let empty = empty_each c.args.square.now.k c.square.inside.k _ c.requires.1.grid c.in_ok-trees.trees.items c.in_ok-trees.ensures width (ap (λ (n : ℕ). 2 * n) width) in
    record {
      rows = record { own = c.requires; count = empty.0; each = empty.1 };
      room = c.in_ok-room.ensures ∙ width;
      line = omega (arith, c.in-Ok.ensures.len, width);
      names = omega (arith, c.in-Ok-vec.ensures.len, width);
    }
