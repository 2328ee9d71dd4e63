use Rattle.std.proofs.Common.{◌≡◌, ◌∙◌, ◌-◌, ◌*◌, ◌++◌, length, take, replicate, if◌then◌else◌, vec_len, ap, subst, sym, arith}
use Rattle.std.specs.Prelude.{is_ok}
use Rattle.nmt_proofs.proofs.WriteLemmas.{bare, AreFilled, filled, unmarked_joined}
use Rattle.nmt_proofs.proofs.partial.write_rest.Goals as goal

-- all nodes are there, and none is marked
nodes_are : (c : goal.After-unwrap) → AreFilled (2 * c.args.count) c.args.nodes.now.items c.resize.new.self.items
nodes_are c =
    let before = c.args.nodes.now.items in
    let digest = c.index.result.now.digest in
    let len = vec_len c.args.nodes.now in
    let same : len ≡ length before = omega arith in
    let none = c.requires.unwritten (omega arith) in
    let made =
    c.resize.ensures.items
    ∙ ap (λ r. if is_ok r then take (2 * c.args.count) before ++ replicate (2 * c.args.count - len) (bare digest) else before) c.unwrap.ensures in
    subst (AreFilled (2 * c.args.count) before) (sym made) (filled (2 * c.args.count) len before digest same c.requires.root c.requires.room none)

-- nodes that aren't marked are written behind those that are there
pub returns-then-len-all-clause-keeps : goal.returns-then-len-all-clause-keeps
returns-then-len-all-clause-keeps c =
    let are = nodes_are c in
    record {
      is_count = c.requires.is_count;
      capacity = omega (arith, c.requires.capacity, c.resize.ensures.capacity);
      root = omega (arith, are.count, c.requires.root, c.requires.room);
      room = omega (arith, are.count);
      unwritten = λ _. are.unmarked;
      joined = unmarked_joined _ are.unmarked;
    }

pub returns-then-len-all-clause-partial : goal.returns-then-len-all-clause-partial
returns-then-len-all-clause-partial c =
    let are = nodes_are c in
    record {
      is_count = c.requires.is_count;
      room = are.count;
      joined = unmarked_joined _ are.unmarked;
    }
