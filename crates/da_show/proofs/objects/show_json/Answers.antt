use Rattle.std.proofs.Common.{◌∙◌, ◌++◌, ℕ, List, ap}
use Rattle.da_show.specs.JsonTexts.{frame_text}
use Rattle.da_show.proofs.JsonLaws.{frame_text_is}
use Rattle.da_show.proofs.objects.show_json.Goals as goal

-- what was put behind nothing is the text of the frame's object
pub returns-in-Ok : goal.returns-in-Ok
returns-in-Ok c = record {
  text =
      c.in-Ok.ensures ∙ ap (λ (l : List ℕ). l ++ frame_text c.args.frame.now) c.new-out.ensures.bytes
      ∙ frame_text_is c.args.frame.now;
}
