use Rattle.std.proofs.Common.{◌≡◌, ◌%◌, ◌+◌, refl, arith}
use Rattle.multi_sha256.proofs.LaneLemmas.{words_at}
use Rattle.multi_sha256.proofs.rounds.next_word.Goals as goal

pub returns-clause-value : goal.returns-clause-value
returns-clause-value c j h =
    let w = c.args.w.now in
    let place = c.args.place in
    let at : place % 16 ≡ place = omega arith in
    rw (
      c.add-word.ensures j h,
      c.add-2.ensures j h,
      c.add.ensures j h,
      c.small_sigma1.ensures j h,
      c.small_sigma0.ensures j h,
      words_at w j ((place + 14) % 16),
      words_at w j ((place + 9) % 16),
      words_at w j ((place + 1) % 16),
      at,
      words_at w j place,
    ) refl
