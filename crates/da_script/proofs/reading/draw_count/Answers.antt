use Rattle.std.proofs.Common.{◌∙◌, List, ℕ, take, ap}
use Rattle.std.specs.Int.{w16, from_be_bytes}
use Rattle.std.proofs.lemmas.List.{take_rest}
use Rattle.da_script.proofs.reading.draw_count.Goals as goal

pub returns : goal.returns
returns c = c.number16.ensures ∙ ap (λ (l : List ℕ). from_be_bytes w16 (take 2 l)) (take_rest c.args.bytes.now 32)
