use Rattle.std.proofs.Common.{◌∙◌, ◌++◌, ℕ, List, ap, string_bytes}
use Rattle.da_show.proofs.JsonLaws.{brief_json_is}
use Rattle.da_show.proofs.objects.put_brief_json.Goals as goal

-- what was put is the text of the value's object
pub returns-in-Ok-clause-text : goal.returns-in-Ok-clause-text
returns-in-Ok-clause-text c =
    λ value e. c.in-Ok.ensures ∙ ap (λ (l : List ℕ). string_bytes c.args.out.now ++ l) (brief_json_is value c.args.brief.now e)
