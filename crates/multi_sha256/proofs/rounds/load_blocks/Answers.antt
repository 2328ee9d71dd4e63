use Rattle.std.proofs.Common.{rules, ◌∙◌, ℕ, List, [], take, drop, slice_index, slice_index_or, sym, arith}
use Rattle.std.proofs.lemmas.List.{length-map}
use Rattle.sha2.proofs.Schedule256.{IsWindow_first}
use Rattle.multi_sha256.specs.Lanes.{lane_words}
use Rattle.multi_sha256.proofs.LaneLemmas.{load_more, word_of_block}
use Rattle.multi_sha256.proofs.rounds.load_blocks.Goals as goal

pub load-init : goal.load-init
load-init g c = (search rules, λ j k lt h. absurd (omega arith))

pub load-preserved : goal.load-preserved
load-preserved g c = (
  search rules,
  λ j k lt h.
      let m = slice_index_or c.args.messages.now j [] in
      load_more c.load.w c.load-in-load.result (take 64 (drop c.args.at m)) j c.load.t c.load.invariant.0 (omega arith)
      (c.load-in-load.ensures j lt ∙ sym (word_of_block m c.args.at c.load.t (omega arith)))
      (λ i l. c.load.invariant.1 j i lt l) k h,
)

pub returns : goal.returns
returns g c j lt =
    IsWindow_first _ (lane_words j c.load.w) (length-map c.load.w (λ (v : List ℕ). slice_index v j) ∙ c.load.invariant.0)
    (λ k h. c.load.invariant.1 j k lt (omega arith))
