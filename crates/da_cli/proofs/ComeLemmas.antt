-- The files of a list of names, of which one more was read, whether its bytes are kept or not.
use Rattle.std.proofs.Common.{◌≡◌, ◌∙◌, ℕ, ◌+◌, ◌-◌, ◌<◌, ◌≤◌, List, [], ◌∷◌, ◌++◌, drop, Some, None, Ok, Err, refl, sym, ap, subst, arith, inl, inr, ⊎_elim}
use Rattle.std.specs.Prelude.{◌⊎◌}
use Rattle.std.specs.declared.option.Option.{Option}
use Rattle.da_io.specs.declared.inputs.Inputs as inputs
use Rattle.da_io.specs.declared.inputs.LastCall.{LastCall}
use Rattle.std.proofs.lemmas.Bool.{cases_lt}
use Rattle.da_io.specs.Faults.{max_count, count_on}
use Rattle.da_io.specs.Files.{Files}
use Rattle.da_cli.specs.declared.files.Stop.{Stop}
use Rattle.da_cli.specs.declared.files.Stop.TheVariants as stop
use Rattle.da_cli.specs.Gathered.{Gathered, whole, long, absent, after, gathered_from, IsWord, IsLastOf, IsWithinLimit, AllRead, GathersFiles, ReadsFile, StopsFile, WithinLimit, WithinLimits, count_after}
use Rattle.da_cli.specs.Streamed.{IsRead, HasCome}
use Rattle.da_cli.proofs.GatheredLemmas.{come_on, name_at, stop_here, stop_in, all_read_on, last_on, stop_picks}

-- file i, which was picked last, kept its limit
pub within_here : (limits : ℕ → ℕ) (names : List (List ℕ)) (i count : ℕ) (name : List ℕ) (picked : Option (List ℕ)) (last : LastCall) (given : ℕ) (Idle : Type 0) (why : Stop)
    → drop i names ≡ name ∷ drop (i + 1) names → picked ≡ Some name → StopsFile (limits i) i last given why
    → WithinLimit {T = List ℕ} (limits i) given (Err why) → WithinLimits limits names count picked given Idle (Err why)
within_here limits names i count name picked last given Idle (stop.PickFault j) here named why h = subst (λ (n : ℕ). given ≤ limits n) (sym why.0) h
within_here limits names i count name picked last given Idle (stop.ReadFault j) here named why h = subst (λ (n : ℕ). given ≤ limits n) (sym why.0) h
within_here limits names i count name picked last given Idle (stop.TooLong j) here named why h = tt
within_here limits names i count name picked last given Idle stop.NoMemory here named why h =
    inr (i, subst (IsWord names i) (sym named) (name_at names i name (drop (i + 1) names) here), h)

-- where memory ran out, the file picked last kept its limit, or none was picked
pub memory_within : (limits : ℕ → ℕ) (names : List (List ℕ)) (n : ℕ) (picked : Option (List ℕ)) (last : LastCall) (given : ℕ) (Idle : Type 0) → IsLastOf names n picked last
    → (0 < n → given ≤ limits (n - 1)) → (n ≡ 0 → Idle) → Idle ⊎ IsWithinLimit limits names picked given
memory_within limits names n picked last given Idle at few idle =
    ⊎_elim (λ (k : 0 < n). inr (n - 1, (at k).0, few k)) (λ (k : n ≤ 0). inl (idle (omega (arith, k)))) (cases_lt 0 n)

-- failures are counted alike
counts_alike : (before mid : ℕ) (why : Stop) → mid ≡ before → count_after {T = List ℕ} mid (Err why) ≡ count_after {T = List (List ℕ)} before (Err why)
counts_alike before mid (stop.PickFault i) e = ap (λ (n : ℕ). count_on n 1) e
counts_alike before mid (stop.ReadFault i) e = ap (λ (n : ℕ). count_on n 1) e
counts_alike before mid (stop.TooLong i) e = e
counts_alike before mid stop.NoMemory e = e

-- nothing gathered stands in front of what is gathered
after_none : (g : Gathered) → g ≡ after [] g
after_none (whole contents) = refl
after_none (long n) = refl
after_none (absent n) = refl

-- no name was read yet
gathers_none : (limits : ℕ → ℕ) (told : Option Files) (names : List (List ℕ)) → GathersFiles limits told names 0 (Ok [])
gathers_none limits None names = tt
gathers_none limits (Some files) names = after_none (gathered_from limits files 0 names)

all_none : (limits : ℕ → ℕ) (told : Option Files) (names : List (List ℕ)) → AllRead limits told names 0
all_none limits None names = tt
all_none limits (Some files) names = λ j h. absurd (omega arith)

-- where memory ran out nothing is said of contents
gathers_memory : (limits : ℕ → ℕ) (told : Option Files) (names : List (List ℕ)) (count : ℕ) → GathersFiles limits told names count (Err stop.NoMemory)
gathers_memory limits None names count = tt
gathers_memory limits (Some files) names count = tt

module _ {I : Type 0} (i : inputs.Ghosts I) (limits : ℕ → ℕ) (names : List (List ℕ)) where
  -- one more file was read to its end
  pub come_file : (n : ℕ) (before mid now : I) (contents : List (List ℕ)) (name bytes : List ℕ) → HasCome i limits names n before mid (Ok contents)
      → drop n names ≡ name ∷ drop (n + 1) names → IsRead i (limits n) n name mid now (Ok bytes) → HasCome i limits names (n + 1) before now (Ok (contents ++ bytes ∷ []))
  come_file n before mid now contents name bytes come here read =
      let content : ReadsFile (limits n) (i.files before) name (Ok bytes) = subst (λ (told : Option Files). ReadsFile (limits n) told name (Ok bytes)) come.gathered.files read.content in
      record {
        gathered = record {
          contents = come_on limits (i.files before) names n contents name bytes come.gathered.contents here content;
          stop = tt;
          faults = read.faults ∙ come.gathered.faults;
          within = λ some. let same : n + 1 - 1 ≡ n = omega arith in subst (λ (m : ℕ). i.given now ≤ limits m) (sym same) read.within;
          last = last_on names n name (i.picked now) (i.ended now) here read.picked read.fine;
          picks = omega (arith, read.picks, come.gathered.picks);
          idle = λ none. absurd (omega arith);
          files = read.files ∙ come.gathered.files;
        };
        all = all_read_on limits (i.files before) names n name bytes come.all here content;
      }

  -- one more file was not
  pub stop_file : (n count : ℕ) (before mid now : I) (contents : List (List ℕ)) (name : List ℕ) (why : Stop) → n < count → HasCome i limits names n before mid (Ok contents)
      → drop n names ≡ name ∷ drop (n + 1) names → IsRead i (limits n) n name mid now (Err why) → HasCome i limits names count before now (Err why)
  stop_file n count before mid now contents name why few come here read =
      let content : ReadsFile (limits n) (i.files before) name (Err why) = subst (λ (told : Option Files). ReadsFile (limits n) told name (Err why)) come.gathered.files read.content in
      record {
        gathered = record {
          contents = stop_here limits (i.files before) names n count contents name (i.ended now) (i.given now) why come.gathered.contents here content read.stop;
          stop = stop_in limits (i.files before) names n name (i.picked now) (i.ended now) (i.given now) why here come.all read.picked read.stop;
          faults = read.faults ∙ counts_alike (i.faults before) (i.faults mid) why come.gathered.faults;
          within = λ some. within_here limits names n count name (i.picked now) (i.ended now) (i.given now) (now ≡ before) why here read.picked read.stop read.within;
          last = tt;
          picks = stop_picks (limits n) n (i.picks before) (i.picks now) count (i.ended now) (i.given now) why few read.stop (omega (arith, read.picks, come.gathered.picks));
          idle = λ none. absurd (omega arith);
          files = read.files ∙ come.gathered.files;
        };
        all = tt;
      }

  -- at first no file was read
  pub come_none : (before : I) → i.picks before ≤ max_count → HasCome i limits names 0 before before (Ok [])
  come_none before few = record {
    gathered = record {
      contents = gathers_none limits (i.files before) names;
      stop = tt;
      faults = refl;
      within = λ some. absurd (omega arith);
      last = λ some. absurd (omega arith);
      picks = omega (arith, few);
      idle = λ none. refl;
      files = refl;
    };
    all = all_none limits (i.files before) names;
  }

  -- memory ran out after some files were read
  pub come_memory : (n count : ℕ) (before now : I) (contents : List (List ℕ)) → n ≤ count → 0 < count → HasCome i limits names n before now (Ok contents) → HasCome i limits names count before now (Err stop.NoMemory)
  come_memory n count before now contents few some come = record {
    gathered = record {
      contents = gathers_memory limits (i.files before) names count;
      stop = tt;
      faults = come.gathered.faults;
      within = λ h. memory_within limits names n (i.picked now) (i.ended now) (i.given now) (now ≡ before) come.gathered.last come.gathered.within come.gathered.idle;
      last = tt;
      picks = (n, few, come.gathered.picks);
      idle = λ none. absurd (omega (arith, none, some));
      files = come.gathered.files;
    };
    all = tt;
  }
