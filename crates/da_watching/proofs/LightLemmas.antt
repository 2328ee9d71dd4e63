-- The last words of a talk with a watcher, and what light writes.
use Rattle.std.proofs.Common.{◌≡◌, ℕ, List, refl, inl, inr}
use Rattle.std.specs.Prelude.{◌⊎◌, codes}
use Rattle.namespace_id.specs.declared.cells.Cell.{Cell}
use Rattle.data_header.specs.Headers.{Roots}
use Rattle.light_node.specs.declared.events.Light.{Light}
use Rattle.light_node.specs.declared.events.Light.TheVariants as light
use Rattle.da_wire.specs.Reading.{Raw}
use Rattle.da_status.specs.declared.status.Status.{Status}
use Rattle.da_judging.specs.Light.{GivesLight, Judges}
use Rattle.da_talk.specs.Handed.{fed}
use Rattle.da_watching.specs.Watched.{state_frame, TellsVerdict, light_status, Decides, EndsWatching}

-- a verdict is written as it is told, but for its line
told_answers : (verdict : Light) (text : List ℕ) (status : Status) → TellsVerdict verdict text → status ≡ light_status verdict
    → (w : List ℕ) × GivesLight verdict w status × ((w ≡ text) ⊎ ((w ≡ codes "available\n") × (text ≡ state_frame)))
told_answers light.Available text status told is = (codes "available\n", (refl, is), inr (refl, told))
told_answers (light.Waiting cells) text status told is = (text, (told, is), inl refl)
told_answers (light.Rejected claim) text status told is = (text, (told, is), inl refl)

-- an accepted claim
pub decided_judged : (header : Roots) (plan : List Cell) (frames : List Raw) (text : List ℕ) (status : Status) → Decides header frames text status
    → Judges header plan (fed frames) text status
decided_judged header plan frames text status (claim, first, told, is) = (light.Rejected claim, first, (told, is))

-- the verdict at the end
pub ended_judged : (header : Roots) (plan : List Cell) (frames : List Raw) (text : List ℕ) (status : Status) → EndsWatching header plan frames text status
    → (w : List ℕ) × Judges header plan (fed frames) w status × ((w ≡ text) ⊎ ((w ≡ codes "available\n") × (text ≡ state_frame)))
ended_judged header plan frames text status (none, verdict, is, told, goes) =
    let written = told_answers verdict text status told goes in
    (written.0, (verdict, is, written.1), written.2)
