use Rattle.std.proofs.Common.{◌∙◌, ◌++◌, ℕ, List, ap, arith, length}
use Rattle.std.specs.Prelude.{codes, decimal}
use Rattle.std.proofs.lemmas.List.{length-append}
use Rattle.da_status.proofs.DigitLemmas.{digits_fit}
use Rattle.da_script.proofs.TailLemmas.{node_text}
use Rattle.da_script.proofs.lines.node_line.Goals as goal

pub put-requires : goal.put-requires
put-requires g c =
    omega (arith, ap length c.new-line.ensures, simp length-append at (ap length c.around.ensures), digits_fit c.from.result (omega arith), c.state_word.ensures.few)

pub put_tail-requires-clause-line : goal.put_tail-requires-clause-line
put_tail-requires-clause-line g c =
    omega (
      arith,
      ap length c.new-line.ensures,
      simp length-append at (ap length c.around.ensures),
      simp length-append at (ap length c.put.ensures),
      digits_fit c.from.result (omega arith),
      c.state_word.ensures.few,
    )

pub put-requires-2 : goal.put-requires-2
put-requires-2 g c =
    omega (
      arith,
      ap length c.new-line.ensures,
      simp length-append at (ap length c.around.ensures),
      simp length-append at (ap length c.put.ensures),
      digits_fit c.from.result (omega arith),
      c.state_word.ensures.few,
      c.put_tail.ensures.few,
    )

pub returns-clause-line : goal.returns-clause-line
returns-clause-line g c =
    let has = c.state-state.ensures.state in
    let tail = c.put_tail.ensures.tail has.0 has.1 has.2 in
    record {
      standing = has.0;
      stands = has.1;
      tail = tail.0;
      tail_is = tail.1;
      line_is = node_text c.new-line.result c.around.new.line c.put.new.self c.put_tail.new.line c.put-2.new.self c.args.node tail.0 c.state-state.result has.0
          c.new-line.ensures (c.around.ensures ∙ ap (λ (n : ℕ). c.new-line.result ++ codes "node " ++ decimal n ++ codes " ") c.from.ensures)
          (c.put.ensures ∙ ap (λ (l : List ℕ). c.around.new.line ++ l) c.state_word.ensures.value) has.2 tail.2 c.put-2.ensures;
    }
