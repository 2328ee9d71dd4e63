use Rattle.da_attending.proofs.LedLemmas.{led_begin}
use Rattle.da_attending.proofs.attenders.AttenderTalker.begin.Goals as goal

-- nothing was said so far
pub returns-clause-led : goal.returns-clause-led
returns-clause-led c = led_begin c.args.self.now c.requires.fresh
