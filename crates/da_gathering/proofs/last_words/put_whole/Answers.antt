use Rattle.std.proofs.Common.{◌≡◌, ◌∙◌, length, ap, subst, arith, vec_len}
use Rattle.square_layout.specs.Blocks.{SquareShares, IsSquare}
use Rattle.namespace_id.specs.Shares.{AreShares}
use Rattle.da_gathering.proofs.WordLemmas.{square_few}
use Rattle.da_gathering.proofs.last_words.put_whole.Goals as goal

-- there is room for it
pub put_square-requires : goal.put_square-requires
put_square-requires c =
    let square = c.args.square.now in
    let none : vec_len c.args.text.now ≡ 0 = c.args.text.now.ok.0 ∙ ap length c.requires.empty in
    let is : IsSquare square = subst IsSquare c.square.view_is c.square.invariant in
    let shares : AreShares square.shares = subst AreShares (c.deref.ensures.value ∙ ap (λ (s : SquareShares). s.shares) c.square.view_is) c.shares_law.ensures in
    record { capacity = omega (arith, none, c.put_head.ensures.len, c.put_head.ensures.capacity, c.requires.capacity, square_few square is shares) }
