-- What the command root answers.
use Rattle.std.proofs.Common.{◌≡◌, ◌∙◌, ℕ, Bool, true, false, cond, List, ◌↔◌, Some, None, refl, ap}
use Rattle.std.specs.declared.option.Option.{Option}
use Rattle.std.specs.Str.{bytes_eq}
use Rattle.std.proofs.lemmas.Slice.Eq.{bytes_eq-Decides}
use Rattle.data_header.specs.Headers.{Roots}
use Rattle.data_header.specs.DataRoots.{data_root_of}
use Rattle.da_status.specs.declared.status.Status.{Status}
use Rattle.da_status.specs.Statuses.{status_kind, output}
use Rattle.da_files.specs.Frames.{header_in}
use Rattle.da_judging.specs.Root.{root_refusal, TellsRoot, Ties, RootOf, RootIsOf}
use Rattle.da_files.specs.Contents.{header_file}
use Rattle.da_files.proofs.FormLemmas.{over_each}
use Rattle.da_judging.proofs.VerifyLemmas.{verdict_kind}

-- what root answers comes with a complete output
pub root_last : (files : List (List ℕ)) (w : List ℕ) (status : Status) → RootOf files w status → status_kind status ≡ output
root_last files w status h =
    over_each TellsRoot (header_in (header_file files)) w status (status_kind status ≡ output) (λ header told. ap status_kind told.1) h

-- so does what root with a ROOT answers
pub root_is_last : (root : List ℕ) (files : List (List ℕ)) (w : List ℕ) (status : Status) → RootIsOf root files w status → status_kind status ≡ output
root_is_last root files w status h =
    over_each (Ties root) (header_in (header_file files)) w status (status_kind status ≡ output)
    (λ header told. ap status_kind told.1 ∙ verdict_kind (root_refusal header root)) h

-- a test of a refusal holds exactly where there is none
none_where : (b : Bool) → (◌≡◌ {A = Option ℕ} (cond b None (Some 1)) None) ↔ (b ≡ true)
none_where true = (λ e. refl, λ e. refl)
none_where false = (λ e. absurd cc, λ e. absurd cc)

-- a header isn't refused exactly where its data root is the one that it is to have
pub tied : (header : Roots) (root : List ℕ) → (root_refusal header root ≡ None) ↔ (data_root_of header ≡ root)
tied header root =
    let test = bytes_eq (data_root_of header) root in
    let same = bytes_eq-Decides (data_root_of header) root in
    (λ e. same.0 ((none_where test).0 e), λ e. (none_where test).1 (same.1 e))
