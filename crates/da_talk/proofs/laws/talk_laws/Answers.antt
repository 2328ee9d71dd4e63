use Rattle.std.proofs.Common.{◌∙◌, sym, ap}
use Rattle.da_talk.proofs.laws.talk_laws.Goals as goal

-- both said what is due for the same bytes
pub returns : goal.returns
returns c = record { cutting = λ due some other same all others. all ∙ ap due same ∙ sym others }
