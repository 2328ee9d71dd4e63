use Rattle.std.proofs.Common.{◌≡◌, ◌∙◌, ◌-◌, length, sym, ap, arith}
use Rattle.square_layout.specs.Blocks.{SquareShares}
use Rattle.share_split.specs.Walks.{blobs_joined}
use Rattle.da_files.specs.Frames.{WritesText}
use Rattle.da_serving.specs.Blobs.{behind_compact}
use Rattle.da_serving.specs.Find.{compact_front, found_status, Finds}
use Rattle.da_status.proofs.EndLemmas.{once_within}
use Rattle.da_serving.proofs.BlobsLemmas.{behind_few}
use Rattle.da_serving.proofs.FindLemmas.{square_fits, found_same, finds_lines}
use Rattle.da_serving.proofs.find.find.Goals as goal

-- no more shares are behind the compact ones than there are
pub overflow_sub-first : goal.overflow_sub-first
overflow_sub-first g c =
    omega (
      arith,
      c.len.ensures,
      behind_few c.square.inside.shares.items,
      ap length (c.behind_compact-shares.ensures ∙ ap behind_compact c.deref.ensures.value),
    )

-- a square has few
pub found_lines-requires-clause-few : goal.found_lines-requires-clause-few
found_lines-requires-clause-few g c =
    let square : SquareShares = record { k = c.square.inside.k; shares = c.square.inside.shares.items } in
    omega (
      arith,
      c.len.ensures,
      square_fits square c.square.invariant,
      behind_few c.square.inside.shares.items,
      ap length (c.behind_compact-shares.ensures ∙ ap behind_compact c.deref.ensures.value),
    )

-- what is written are the lines of the square's blobs
pub returns-in-Ok-found_lines : goal.returns-in-Ok-found_lines
returns-in-Ok-found_lines g c =
    let square = c.args.square.now in
    let commitment = c.args.commitment.now in
    let text = c.in-Ok-found_lines.text.items in
    let behind : c.behind_compact-shares.result.now ≡ behind_compact square.shares =
    c.behind_compact-shares.ensures ∙ ap behind_compact (c.deref.ensures.value ∙ ap (λ (s : SquareShares). s.shares) c.square.view_is) in
    let count : c.len.result - length c.behind_compact-shares.result.now ≡ compact_front square =
    omega (arith, c.len.ensures, ap length behind, ap (λ (s : SquareShares). length s.shares) c.square.view_is) in
    let found = found_same commitment _ (compact_front square) _ (behind_compact square.shares) text count behind c.in-Ok-found_lines.ensures in
    once_within (WritesText c.found_status.result c.deref-in-Ok-found_lines.result.now) (Finds commitment square) _ _ _ _ _ _
    (λ w s h. finds_lines commitment square c.in-Ok.blobs.items text (ap blobs_joined (sym behind) ∙ c.in-Ok.ensures.read) found w s
    (h.0 ∙ c.deref-in-Ok-found_lines.ensures.value, h.1 ∙ c.found_status.ensures ∙ ap found_status c.deref-in-Ok-found_lines-2.ensures.value))
    c.put.ensures
