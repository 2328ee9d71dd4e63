use Rattle.std.proofs.Common.{◌≡◌, ◌∙◌, ◌*◌, ℕ, List, ◌++◌, length, take, drop, sym, ap, subst, arith}
use Rattle.std.proofs.lemmas.List.{take-append-le, take_all}
use Rattle.square_serve.specs.Rows.{AreNeededRows}
use Rattle.square_serve.proofs.row_trees.RowTrees.make.Goals as goal

-- what was lent whole is what was left there
lent : {A : Type 0} (n : ℕ) (new old : List A) → n ≡ length new → take n (new ++ drop (length new) old) ≡ new
lent n new old h = take-append-le n new (drop (length new) old) (omega arith) ∙ take_all n new (omega arith)

-- the lines are as long as they were
pub returns-clause-trees : goal.returns-clause-trees
returns-clause-trees c =
    let made = c.args.self.now in
    let k : ℕ = c.args.square.now.k in
    let trees : made.trees.len ≡ length c.make_tree.new.trees = omega (arith, made.trees.ok.0, c.make_tree.ensures.trees.count, c.requires.trees.rows.count) in
    let line : length c.make_tree.new.line ≡ 2 * k = omega (arith, c.make_tree.auto.line, ap length c.deref_mut.ensures.value, c.requires.trees.line) in
    let names : length c.make_tree.new.names ≡ 2 * k = omega (arith, c.make_tree.auto.names, ap length c.deref_mut-2.ensures.value, c.requires.trees.names) in
    let line_whole : made.line.len ≡ length c.make_tree.new.line = omega (arith, made.line.ok.0, line, c.requires.trees.line) in
    let names_whole : made.names.len ≡ length c.make_tree.new.names = omega (arith, made.names.ok.0, names, c.requires.trees.names) in
    record {
      rows = subst (AreNeededRows c.args.square.now) (sym (lent made.trees.len c.make_tree.new.trees made.trees.items trees)) c.make_tree.ensures.trees;
      room = c.make_tree.ensures.room ∙ c.requires.trees.room;
      line = ap length (lent made.line.len c.make_tree.new.line made.line.items line_whole) ∙ line;
      names = ap length (lent made.names.len c.make_tree.new.names made.names.items names_whole) ∙ names;
    }
