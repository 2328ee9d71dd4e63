use Rattle.square_serve.proofs.held_rows.HeldRows.of.Goals as goal

pub returns-then-not-has_header-clause-no_header : goal.returns-then-not-has_header-clause-no_header
returns-then-not-has_header-clause-no_header c = λ e. c.has_header.ensures.none c.if-not-has_header.true

-- the namespaces are those of the header's own extension too
pub invariant_of-result : goal.invariant_of-result
invariant_of-result c = record {
  trees = c.in_ok-trees.ensures;
  names = c.in_ok-names.ensures c.in_ok-trees.ensures.rows.own.1.grid c.in_ok-trees.ensures.rows.own.1.extends;
}
