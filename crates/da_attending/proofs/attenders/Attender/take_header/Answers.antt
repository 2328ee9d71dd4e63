use Rattle.std.proofs.Common.{◌∙◌, ◌+◌, ap, refl}
use Rattle.std.specs.Prelude.{min}
use Rattle.da_io.specs.Faults.{max_count}
use Rattle.da_attending.specs.Attenders.{AttendParts}
use Rattle.da_attending.proofs.StandLemmas.{stands_headed}
use Rattle.da_attending.proofs.attenders.Attender.take_header.Goals as goal

-- a height begins, of which nothing is known
pub returns-clause-heard : goal.returns-clause-heard
returns-clause-heard c = record {
  names = ap (λ (w : AttendParts). w.names) c.self.view_is;
  fit = λ items stands. refl;
  stands = λ items stands few.
      stands_headed c.args.self.now _ items c.args.header stands few (ap (λ (w : AttendParts). w.names) c.self.view_is) c.new.ensures.empty refl
      (c.saturating_add-self-inside.ensures ∙ ap (λ (w : AttendParts). min (w.heights + 1) max_count) c.self.view_is)
      (c.put_height-self-inside.ensures.counted items stands);
  reply = λ items stands. c.put_height-self-inside.ensures.written items stands;
}
