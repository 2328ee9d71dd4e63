use Rattle.std.proofs.Common.{◌≡◌, ◌∙◌, ◌++◌, ◌+◌, [], suc, ℕ, List, sym, ap, subst, append-nil, append_assoc, arith}
use Rattle.da_script.specs.Plays.{AreNodeLines}
use Rattle.da_script.proofs.playing.put_nodes.Goals as goal

pub loop-node-init : goal.loop-node-init
loop-node-init g c = record { room = c.requires.room; lines = ([], AreNodeLines.start, sym (append-nil c.args.text.now.items)) }

-- one line more
pub loop-node-preserved : goal.loop-node-preserved
loop-node-preserved g c =
    let before = c.loop-node.invariant.lines in
    let more : suc c.loop-node.node ≡ c.loop-node.node + 1 = omega arith in
    let lines : List ℕ = before.0 ++ c.node_line.result in
    record {
      room = c.node_line.ensures.room ∙ c.loop-node.invariant.room;
      lines = (
        lines,
        subst (λ (n : ℕ). AreNodeLines c.args.net.now n lines) more (AreNodeLines.next c.loop-node.node before.0 c.node_line.result before.1 c.node_line.ensures.line),
        c.in_ok-put_line.ensures ∙ ap (λ (l : List ℕ). l ++ c.node_line.result) before.2 ∙ append_assoc c.args.text.now.items before.0 c.node_line.result,
      );
    }
