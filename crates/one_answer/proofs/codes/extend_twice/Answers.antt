use Rattle.std.proofs.Common.{◌≡◌, ◌∙◌, ◌++◌, ℕ, length, sym, subst}
use Rattle.namespace_id.specs.Lists.{ascending}
use Rattle.namespace_id.proofs.AscendingLemmas.{length-ascending}
use Rattle.leopard_code.specs.Codewords.{IsCodeword}
use Rattle.axis_roots.proofs.Grids.WordLemmas.{first_positions}
use Rattle.one_answer.proofs.WordLemmas.{same_first, same_behind}
use Rattle.one_answer.proofs.codes.extend_twice.Goals as goal

-- both are codewords with the originals in front
pub returns : goal.returns
returns c = record {
  state =
      let count : length c.args.originals.now ≡ c.args.room.now = c.requires.originals in
      same_behind c.args.originals.now _ _
      (c.code_laws.ensures.one (length c.args.originals.now) (ascending 0 (length c.args.originals.now)) _ _
      (rw count c.requires.width) (length-ascending (length c.args.originals.now) 0) (first_positions (length c.args.originals.now))
      (subst (λ (n : ℕ). IsCodeword n (c.args.originals.now ++ c.extend.new.recovery)) (sym count) c.extend.ensures.codeword)
      (subst (λ (n : ℕ). IsCodeword n (c.args.originals.now ++ c.extend-2.new.recovery)) (c.extend.ensures.kept ∙ sym count)
      c.extend-2.ensures.codeword)
      (λ i within. same_first c.args.originals.now _ _ i within));
}
