-- What the command demo answers.
use Rattle.std.proofs.Common.{◌≡◌, ◌∙◌, ℕ, ◌+◌, ◌<◌, List, [], ◌++◌, get_or, drop, IsSome, ◌↔◌, refl, sym, ap, arith, append-nil}
use Rattle.std.specs.declared.option.Option.{Option}
use Rattle.std.specs.List.{flat_map}
use Rattle.std.proofs.lemmas.List.{at_drop_more}
use Rattle.da_demo.specs.declared.outcomes.Trial.{Trial}
use Rattle.da_status.specs.declared.status.Status.{Status}
use Rattle.da_status.specs.declared.status.Status.TheVariants.{Done}
use Rattle.da_status.specs.Statuses.{status_kind}
use Rattle.da_status.specs.Outcome.{Ends}
use Rattle.da_commands.specs.Demo.{trial_lines, trial_bytes, TellsTrial, DemoOf}
use Rattle.da_status.proofs.EndLemmas.{IsAnswer, status_answers, ends_output}
use Rattle.da_status.proofs.WriteLemmas.{Written}

-- what demo answers comes with a complete output
pub demo_answers : (number k : ℕ) (w : List ℕ) (status : Status) → DemoOf number k w status → IsAnswer (status_kind status)
demo_answers number k w status h = status_answers status Done h.2.1 tt

module _ (trial : Trial) where
  -- what is written of the lines from one on
  abbrev pub bytes_from : ℕ → List ℕ
  bytes_from i = flat_map (λ line. line) (drop i (trial_lines trial))

  -- the next line comes next
  pub line_next : (i : ℕ) (line : List ℕ) → i < 9 → line ≡ get_or (trial_lines trial) i [] → bytes_from i ≡ line ++ bytes_from (i + 1)
  line_next i line within is =
      at_drop_more (flat_map (λ l. l)) (trial_lines trial) i [] (omega arith) ∙ ap (λ (l : List ℕ). l ++ bytes_from (i + 1)) (sym is)

  -- all lines were written
  pub tells_done : (i : ℕ) (old new : Option (List ℕ)) (before now : ℕ) (Same : Type 0) → i ≡ 9 → Written old new (trial_bytes trial) (bytes_from i)
      → now ≡ before → (IsSome old ↔ IsSome new) → Ends (TellsTrial trial) old new before now Same Done
  tells_done i old new before now Same last w counted told =
      let whole : trial_bytes trial ≡ w.0 = w.2 ∙ ap (λ (n : ℕ). w.0 ++ bytes_from n) last ∙ append-nil w.0 in
      ends_output (TellsTrial trial) w.0 Done old new before now Same refl (sym whole, refl) w.1 counted told
