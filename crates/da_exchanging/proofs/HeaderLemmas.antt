-- Axis roots that a data hash is the data root of.
use Rattle.std.proofs.Common.{◌≡◌, ◌∙◌, ℕ, List, Some, None, Vec, Global, Result, Err, refl, sym, subst}
use Rattle.std.specs.Prelude.{MatchOption}
use Rattle.std.specs.declared.option.Option.{Option}
use Rattle.data_header.specs.Headers.{Roots}
use Rattle.celestia_pb.specs.declared.extended.Extended.{Extended}
use Rattle.celestia_pb.specs.Extended.{extended_value}
use Rattle.da_wire.specs.declared.frames.Frame.TheVariants.{Header}
use Rattle.da_status.specs.declared.status.Status.{Status}
use Rattle.da_status.specs.declared.status.Status.TheVariants.{Done, Refused}
use Rattle.da_status.specs.Statuses.{status_kind}
use Rattle.da_status.specs.Outcome.{Relation, Refuses}
use Rattle.da_status.proofs.EndLemmas.{IsAnswer, status_answers}
use Rattle.da_files.specs.Contents.{file_of}
use Rattle.da_files.specs.Frames.{Writes}
use Rattle.da_files.proofs.FormLemmas.{over_each}
use Rattle.da_exchanging.specs.Made.{IsMadeOutput}
use Rattle.da_exchanging.specs.Header.{extended_roots, WritesRoots, ImportHeaderOf}

-- what is written of axis roots, if they are there
abbrev writes : Option Roots → Relation
writes found w status = MatchOption found (Refuses Refused w status) (λ roots. Writes (Header roots) w status)

-- the frame of those that are
pub roots_made : (extended : Extended) (found : Option Roots) (roots : Roots) (made : Result (Vec ℕ Global) Status)
    → found ≡ extended_roots extended → found ≡ Some roots → IsMadeOutput (Writes (Header roots)) made → IsMadeOutput (WritesRoots extended) made
roots_made extended found roots made is there h = subst (λ (o : Option Roots). IsMadeOutput (writes o) made) (sym there ∙ is) h

-- nothing where they aren't
pub none_made : (extended : Extended) (found : Option Roots) → found ≡ extended_roots extended → found ≡ None → IsMadeOutput (WritesRoots extended) (Err Refused)
none_made extended found is none = subst (λ (o : Option Roots). IsMadeOutput (writes o) (Err Refused)) (sym none ∙ is) (refl, refl)

-- the frame, and nothing, are answers
written_answers : (found : Option Roots) (w : List ℕ) (status : Status) → writes found w status → IsAnswer (status_kind status)
written_answers None w status h = status_answers status Refused h.1 tt
written_answers (Some roots) w status h = status_answers status Done h.1 tt

-- and so what is answered to a file
pub header_answers : (files : List (List ℕ)) (w : List ℕ) (status : Status) → ImportHeaderOf files w status → IsAnswer (status_kind status)
header_answers files w status h =
    over_each WritesRoots (extended_value (file_of files 0)) w status (IsAnswer (status_kind status))
    (λ extended is. written_answers (extended_roots extended) w status is) h
