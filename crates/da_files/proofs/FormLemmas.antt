-- How commands end over files that are judged by their shapes.
use Rattle.std.proofs.Common.{◌≡◌, ◌∙◌, ℕ, suc, List, [], ◌∷◌, ◌++◌, None, Some, Result, Ok, Err, inl, refl, sym, ap}
use Rattle.std.specs.Prelude.{MatchOption}
use Rattle.std.specs.declared.option.Option.{Option}
use Rattle.std.proofs.KnownBytes.{Appends-nil}
use Rattle.da_status.specs.declared.status.Status.{Status}
use Rattle.da_status.specs.declared.status.Status.TheVariants.{BadInput, NoMemory}
use Rattle.da_status.specs.Outcome.{Relation, Refuses, Ends, EndsAtOnce}
use Rattle.da_status.specs.Judging.{first_bad, Judged}
use Rattle.da_status.proofs.EndLemmas.{once_as, once_refused}
use Rattle.da_files.specs.Frames.{error_of}
use Rattle.da_files.specs.Forms.{IsFormRefusal, Over}

-- the meaning by the first file that isn't in its form
abbrev by_first : Relation → Option (ℕ × ℕ) → Relation
by_first Answer first w status = MatchOption first (Answer w status) (λ bad. Refuses (BadInput bad.0 bad.1) w status)

-- ---- files that are refused

-- a command whose files are refused ends by the status of the refusal, whatever its answers are
pub refused_once : (judged : List (Option ℕ)) (Answer : Relation) (old : Option (List ℕ)) (before : ℕ) (Same : Type 0) (status : Status)
    → IsFormRefusal judged status → Same → EndsAtOnce (Judged judged Answer) old old before before Same status
refused_once judged Answer old before Same (BadInput i at) bad same =
    once_as (Refuses (BadInput i at)) (Judged judged Answer) old old before before Same (BadInput i at) (sym (ap (by_first Answer) bad))
    (once_refused i at old before Same same)
refused_once judged Answer old before Same NoMemory bad same = record {
  ends = record {
    leaves = ([], Appends-nil old, inl refl);
    faults = refl;
    told = (λ s. s, λ s. s);
    untouched = tt;
    own = tt;
  };
  late = λ e. same;
}
refused_once judged Answer old before Same status bad same = absurd bad

-- so does one that doesn't take all of its memory before it writes
pub refused_ends : (judged : List (Option ℕ)) (Answer : Relation) (old : Option (List ℕ)) (before : ℕ) (Same : Type 0) (status : Status)
    → IsFormRefusal judged status → Same → Ends (Judged judged Answer) old old before before Same status
refused_ends judged Answer old before Same status refusal same = (refused_once judged Answer old before Same status refusal same).ends

-- the first file that isn't in its form is the first of more files
bad_front : (i : ℕ) (judged more : List (Option ℕ)) (bad : ℕ × ℕ) → first_bad i judged ≡ Some bad → first_bad i (judged ++ more) ≡ Some bad
bad_front i [] more bad e = absurd cc
bad_front i (None ∷ judged) more bad e = bad_front (suc i) judged more bad e
bad_front i (Some at ∷ judged) more bad e = e

-- a refusal of files refuses more files
pub refused_more : (judged more : List (Option ℕ)) (status : Status) → IsFormRefusal judged status → IsFormRefusal (judged ++ more) status
refused_more judged more (BadInput i at) bad = bad_front 0 judged more (i, at) bad
refused_more judged more NoMemory bad = tt
refused_more judged more status bad = absurd bad

-- behind files in their forms one more in its form leaves all in their forms
pub last_fine : (i : ℕ) (judged : List (Option ℕ)) (o : Option ℕ) → first_bad i judged ≡ None → o ≡ None → first_bad i (judged ++ o ∷ []) ≡ None
last_fine i [] o fine is = ap (λ (b : Option ℕ). first_bad i (b ∷ [])) is
last_fine i (None ∷ judged) o fine is = last_fine (suc i) judged o fine is
last_fine i (Some at ∷ judged) o fine is = absurd cc

-- the number of a file behind others, of which the first has number i
abbrev pub behind : ℕ → List (Option ℕ) → ℕ
behind i [] = i
behind i (o ∷ judged) = behind (suc i) judged

-- one that isn't is the first that isn't
pub last_bad : (i : ℕ) (judged : List (Option ℕ)) (o : Option ℕ) (at : ℕ) → first_bad i judged ≡ None → o ≡ Some at
    → first_bad i (judged ++ o ∷ []) ≡ Some (behind i judged, at)
last_bad i [] o at fine is = ap (λ (b : Option ℕ). first_bad i (b ∷ [])) is
last_bad i (None ∷ judged) o at fine is = last_bad (suc i) judged o at fine is
last_bad i (Some p ∷ judged) o at fine is = absurd cc

-- ---- files that are in their forms

-- the meaning over files that are all in their forms is the answer
pub judged_is : (judged : List (Option ℕ)) (Answer : Relation) → first_bad 0 judged ≡ None → Answer ≡ Judged judged Answer
judged_is judged Answer fine = sym (ap (by_first Answer) fine)

module _ {A : Type 0} (Answer : A → Relation) where
  -- the answer to a file that was read as a value is that to the value
  pub over_is : (read : Result A ℕ) (value : A) → read ≡ Ok value → Answer value ≡ Over read Answer
  over_is read value is = sym (ap (λ (r : Result A ℕ). Over r Answer) is)

  -- so is the meaning, where all files are in their forms
  pub judged_over : (judged : List (Option ℕ)) (read : Result A ℕ) (value : A) → first_bad 0 judged ≡ None → read ≡ Ok value
      → Answer value ≡ Judged judged (Over read Answer)
  judged_over judged read value fine is = over_is read value is ∙ judged_is judged (Over read Answer) fine

  -- the meaning over the one file that was read as a value
  pub single_is : (read : Result A ℕ) (value : A) → read ≡ Ok value → Answer value ≡ Judged (error_of read ∷ []) (Over read Answer)
  single_is read value is =
      judged_over (error_of read ∷ []) read value (ap (λ (r : Result A ℕ). first_bad 0 (error_of r ∷ [])) is) is

  -- a fact that comes with each value's answer comes with that to a file
  pub over_each : (read : Result A ℕ) (w : List ℕ) (status : Status) (Fact : Type 0) → ((value : A) → Answer value w status → Fact)
      → Over read Answer w status → Fact
  over_each (Ok value) w status Fact each h = each value h
  over_each (Err at) w status Fact each h = absurd h

-- the meaning over a file that was read as a value and one that is taken as it is
pub judged_with : {A : Type 0} (Answer : A → List ℕ → Relation) (judged : List (Option ℕ)) (read : Result A ℕ) (value : A) (bytes file : List ℕ)
    → first_bad 0 judged ≡ None → read ≡ Ok value → bytes ≡ file → Answer value bytes ≡ Judged judged (Over read (λ v. Answer v file))
judged_with {A} Answer judged read value bytes file fine is here =
    ap (Answer value) here ∙ judged_over (λ (v : A). Answer v file) judged read value fine is

-- ---- how commands over such files end

module _ {old new : Option (List ℕ)} {before now : ℕ} {Same : Type 0} {status : Status} where
  -- a command over files that are all in their forms ends by the answer
  pub once_in : (judged : List (Option ℕ)) (Answer : Relation) → first_bad 0 judged ≡ None → EndsAtOnce Answer old new before now Same status
      → EndsAtOnce (Judged judged Answer) old new before now Same status
  once_in judged Answer fine once = once_as Answer (Judged judged Answer) old new before now Same status (judged_is judged Answer fine) once

  -- over a file that was read as a value by the answer to the value
  pub once_over : {A : Type 0} (Answer : A → Relation) (read : Result A ℕ) (value : A) → read ≡ Ok value
      → EndsAtOnce (Answer value) old new before now Same status → EndsAtOnce (Over read Answer) old new before now Same status
  once_over Answer read value is once = once_as (Answer value) (Over read Answer) old new before now Same status (over_is Answer read value is) once

-- a command over one file that was read as a value ends by the answer to the value
pub once_single : {A : Type 0} (Answer : A → Relation) (read : Result A ℕ) (value : A) (old new : Option (List ℕ)) (before now : ℕ) (Same : Type 0) (status : Status)
    → read ≡ Ok value → EndsAtOnce (Answer value) old new before now Same status
    → EndsAtOnce (Judged (error_of read ∷ []) (Over read Answer)) old new before now Same status
once_single Answer read value old new before now Same status is once =
    once_as (Answer value) (Judged (error_of read ∷ []) (Over read Answer)) old new before now Same status (single_is Answer read value is) once
