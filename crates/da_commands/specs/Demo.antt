-- demo NUMBER WIDTH: what comes of the trial of a number.
use Rattle.std.specs.Prelude.{◌≡◌, ℕ, ◌*◌, List, [], ◌∷◌, ◌++◌, codes, decimal, Option}
use Rattle.std.specs.List.{flat_map}
use Rattle.hex.specs.Hex.{encode_lower}
use Rattle.da_demo.specs.declared.outcomes.Outcome.{Outcome}
use Rattle.da_demo.specs.declared.outcomes.Outcome.TheVariants as outcome
use Rattle.da_demo.specs.declared.outcomes.Upheld.{Upheld}
use Rattle.da_demo.specs.declared.outcomes.Upheld.TheVariants as upheld
use Rattle.da_demo.specs.declared.outcomes.Trial.{Trial}
use Rattle.da_demo.specs.Trials.{IsTrial}
use Rattle.da_status.specs.declared.status.Status.TheVariants.{Done}
use Rattle.da_status.specs.Notes.{axis_note}
use Rattle.da_status.specs.Outcome.{Relation}

-- what a repair came to, in words
abbrev pub outcome_word : Outcome → List ℕ
outcome_word outcome.Whole = codes "whole"
outcome_word outcome.Other = codes "whole other"
outcome_word (outcome.Fraud axis i) = codes "fraud " ++ axis_note axis ++ decimal i
outcome_word (outcome.Missing count) = codes "missing " ++ decimal count
outcome_word outcome.Clash = codes "clash"

-- whether a fraud proof was accepted, in a word
abbrev pub upheld_word : Upheld → List ℕ
upheld_word upheld.Yes = codes "yes"
upheld_word upheld.No = codes "no"
upheld_word upheld.None = codes "none"

-- a line that says a number
abbrev pub number_line : List ℕ → ℕ → List ℕ
number_line name number = name ++ decimal number ++ codes "\n"

-- the line of a data root
abbrev pub trial_root_line : List ℕ → List ℕ
trial_root_line root = codes "root " ++ encode_lower root ++ codes "\n"

-- the line of what a repair came to
abbrev pub outcome_line : Outcome → List ℕ
outcome_line told = codes "verdict " ++ outcome_word told ++ codes "\n"

-- the line of whether a fraud proof was accepted
abbrev pub upheld_line : Upheld → List ℕ
upheld_line told = codes "upheld " ++ upheld_word told ++ codes "\n"

-- the lines of a trial
abbrev pub trial_lines : Trial → List (List ℕ)
trial_lines trial =
    number_line (codes "width ") trial.k
    ∷ number_line (codes "shares ") (trial.k * trial.k)
    ∷ number_line (codes "blobs ") trial.blobs
    ∷ trial_root_line trial.root
    ∷ number_line (codes "proved ") trial.proved
    ∷ number_line (codes "lies ") trial.lies
    ∷ outcome_line trial.first
    ∷ outcome_line trial.second
    ∷ upheld_line trial.upheld ∷ []

-- what is written of a trial
abbrev pub trial_bytes : Trial → List ℕ
trial_bytes trial = flat_map (λ line. line) (trial_lines trial)

-- these lines are written, and the output is complete
abbrev pub TellsTrial : Trial → Relation
TellsTrial trial w status = (w ≡ trial_bytes trial) × (status ≡ Done)

-- demo has no file
abbrev pub demo_judged : List (Option ℕ)
demo_judged = []

-- what demo answers: the lines of the number's trial in this width
abbrev pub DemoOf : ℕ → ℕ → Relation
DemoOf number k w status = (trial : Trial) × IsTrial number k trial × TellsTrial trial w status
