use Rattle.std.proofs.Common.{◌≡◌, ◌∙◌, ℕ, ◌*◌, length, sym, ap, arith}
use Rattle.square_layout.specs.Blocks.{SquareShares}
use Rattle.tx_list.proofs.UnlayLemmas.{share_differs, share_passed, shares_end, unlike_by}
use Rattle.tx_list.proofs.unlaying.unlike_at.Goals as goal

pub returns-then-ne : goal.returns-then-ne
returns-then-ne c =
    let one : c.square.inside.shares.items ≡ c.args.square.now.shares = ap (λ (s : SquareShares). s.shares) c.square.view_is in
    let two : c.other.inside.shares.items ≡ c.args.other.now.shares = ap (λ (s : SquareShares). s.shares) c.other.view_is in
    let size : length c.square.inside.shares.items ≡ length c.other.inside.shares.items =
    c.square.invariant.count ∙ ap (λ (k : ℕ). k * k) c.if-square-other.false ∙ sym c.other.invariant.count in
    let width : c.args.square.now.k ≡ c.args.other.now.k =
    sym (ap (λ (s : SquareShares). s.k) c.square.view_is) ∙ c.if-square-other.false ∙ ap (λ (s : SquareShares). s.k) c.other.view_is in
    unlike_by c.args.square.now c.args.other.now _ width
    (share_differs c.loop-i.i c.index.result.now c.index-in-loop-i.result.now c.square.inside.shares.items c.other.inside.shares.items
    c.args.square.now.shares c.args.other.now.shares _ one two (omega (arith, c.loop-i-test.true, c.len-i-end.ensures))
    (omega (arith, c.loop-i-test.true, c.len-i-end.ensures, size)) c.index.ensures c.index-in-loop-i.ensures c.if-ne.ensures c.loop-i.invariant)

pub loop-i-preserved : goal.loop-i-preserved
loop-i-preserved c =
    let one : c.square.inside.shares.items ≡ c.args.square.now.shares = ap (λ (s : SquareShares). s.shares) c.square.view_is in
    let two : c.other.inside.shares.items ≡ c.args.other.now.shares = ap (λ (s : SquareShares). s.shares) c.other.view_is in
    let size : length c.square.inside.shares.items ≡ length c.other.inside.shares.items =
    c.square.invariant.count ∙ ap (λ (k : ℕ). k * k) c.if-square-other.false ∙ sym c.other.invariant.count in
    share_passed c.loop-i.i c.index.result.now c.index-in-loop-i.result.now c.square.inside.shares.items c.other.inside.shares.items
    c.args.square.now.shares c.args.other.now.shares _ one two (omega (arith, c.loop-i-test.true, c.len-i-end.ensures))
    (omega (arith, c.loop-i-test.true, c.len-i-end.ensures, size)) c.index.ensures c.index-in-loop-i.ensures c.if-ne.ensures c.loop-i.invariant

pub returns : goal.returns
returns c =
    let one : c.square.inside.shares.items ≡ c.args.square.now.shares = ap (λ (s : SquareShares). s.shares) c.square.view_is in
    let two : c.other.inside.shares.items ≡ c.args.other.now.shares = ap (λ (s : SquareShares). s.shares) c.other.view_is in
    let size : length c.square.inside.shares.items ≡ length c.other.inside.shares.items =
    c.square.invariant.count ∙ ap (λ (k : ℕ). k * k) c.if-square-other.false ∙ sym c.other.invariant.count in
    let width : c.args.square.now.k ≡ c.args.other.now.k =
    sym (ap (λ (s : SquareShares). s.k) c.square.view_is) ∙ c.if-square-other.false ∙ ap (λ (s : SquareShares). s.k) c.other.view_is in
    unlike_by c.args.square.now c.args.other.now _ width
    (shares_end c.loop-i.i c.args.square.now.shares c.args.other.now.shares _
    (omega (arith, c.loop-i-test.false, c.len-i-end.ensures, ap length one))
    (omega (arith, c.loop-i-test.false, c.len-i-end.ensures, size, ap length two)) c.loop-i.invariant)
