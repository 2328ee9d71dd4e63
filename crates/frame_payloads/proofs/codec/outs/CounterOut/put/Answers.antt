use Rattle.std.proofs.Common.{◌∙◌, List, ℕ, ◌++◌, length, replicate, refl, sym, ap, arith}
use Rattle.std.proofs.lemmas.List.{replicate-append-replicate}
use Rattle.std.proofs.lemmas.Simd.{splat_is_map}
use Rattle.frame_payloads.proofs.codec.outs.CounterOut.put.Goals as goal

-- it holds a zero more for each byte
pub returns : goal.returns
returns c = (
  sym (replicate-append-replicate c.args.self.now.size (length c.args.bytes.now) 0)
      ∙ ap (λ (l : List ℕ). replicate c.args.self.now.size 0 ++ l) (splat_is_map c.args.bytes.now (length c.args.bytes.now) 0 refl),
  refl,
  omega arith,
)
