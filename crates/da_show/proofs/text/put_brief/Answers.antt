use Rattle.std.proofs.Common.{◌∙◌, ◌++◌, ℕ, List, ap, string_bytes}
use Rattle.da_show.proofs.BriefText.{brief_text}
use Rattle.da_show.proofs.text.put_brief.Goals as goal

-- what was put is the text of the value
pub returns-in-Ok-clause-text : goal.returns-in-Ok-clause-text
returns-in-Ok-clause-text c =
    λ value e. c.in-Ok.ensures ∙ ap (λ (l : List ℕ). string_bytes c.args.out.now ++ l) (brief_text value c.args.brief.now e)
