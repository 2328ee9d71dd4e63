-- Reading the files of a list of names.
use Rattle.std.proofs.Common.{◌≡◌, ℕ, zero, suc, ◌+◌, ◌-◌, ◌<◌, ◌≤◌, nat_lt, Bool, true, false, cond, List, [], ◌∷◌, ◌++◌, length, drop, get_or, None, Some, Ok, Err, Vec, String, Global, refl, sym, ap, ◌∙◌, subst, arith, ⊎_elim, inl, inr, add-one, append_assoc, append-nil}
use Rattle.std.specs.Prelude.{⊤, ◌⊎◌}
use Rattle.std.specs.declared.option.Option.{Option}
use Rattle.std.specs.String.{string_bytes}
use Rattle.std.proofs.lemmas.Bool.Decides.{nat_tests}
use Rattle.std.proofs.lemmas.List.{length-map}
use Rattle.std.proofs.lemmas.Grind.{common_steps}
use Rattle.da_io.specs.Files.{Files}
use Rattle.da_io.specs.declared.inputs.LastCall.{LastCall}
use Rattle.da_cli.specs.declared.files.Stop.{Stop}
use Rattle.da_cli.specs.declared.files.Stop.TheVariants.{PickFault, ReadFault, TooLong, NoMemory}
use Rattle.da_words.specs.Words.{words_of, files_named}
use Rattle.da_io.specs.Faults.{count_on}
use Rattle.da_io.specs.declared.inputs.LastCall.TheVariants as ended
use Rattle.da_files.specs.Contents.{contents_of, file_of}
use Rattle.da_cli.specs.Gathered.{Gathered, whole, long, absent, after, gathered_one, gathered_from, gathered, IsWord, IsLastOf, PicksIn, ReadsFile, StopsFile, GathersFiles, StopsIn, AllRead}
use Rattle.da_words.proofs.WordLemmas.{length-named}

-- one more content in front of what is gathered after them
after-after : (front : List (List ℕ)) (content : List ℕ) (g : Gathered) → after front (after (content ∷ []) g) ≡ after (front ++ content ∷ []) g
after-after front content (whole contents) = ap whole (sym (append_assoc front (content ∷ []) contents))
after-after front content (long i) = refl
after-after front content (absent i) = refl

-- name i, and then the later ones
pub word_here : (words : List (String Global)) (i : ℕ) (word : String Global) → i < length words → word ≡ get_or words i word
    → drop i (words_of words) ≡ string_bytes word ∷ drop (i + 1) (words_of words)
word_here [] i word h e = absurd (omega arith)
word_here (w ∷ words) zero word h e = ap (λ (l : List ℕ). l ∷ words_of words) (ap string_bytes (sym e))
word_here (w ∷ words) (suc i) word h e =
    let next : suc i + 1 ≡ suc (i + 1) = omega arith in
    word_here words i word (omega arith) e
    ∙ sym (ap (λ (k : ℕ). string_bytes word ∷ drop k (words_of (w ∷ words))) next)

-- name i by a copy of its word, and then the later ones
pub name_here : (words : List (String Global)) (i : ℕ) (word name : String Global) → i < length words → word ≡ get_or words i word
    → string_bytes name ≡ string_bytes word → drop i (words_of words) ≡ string_bytes name ∷ drop (i + 1) (words_of words)
name_here words i word name h e same =
    word_here words i word h e ∙ ap (λ (l : List ℕ). l ∷ drop (i + 1) (words_of words)) (sym same)

-- an element, and then the later ones
element_here : (names : List (List ℕ)) (i : ℕ) (name : List ℕ) → i < length names → name ≡ get_or names i [] → drop i names ≡ name ∷ drop (i + 1) names
element_here [] i name h e = absurd (omega arith)
element_here (n ∷ names) zero name h e = ap (λ (l : List ℕ). l ∷ names) (sym e)
element_here (n ∷ names) (suc i) name h e =
    let next : suc i + 1 ≡ suc (i + 1) = omega arith in
    element_here names i name (omega arith) e ∙ sym (ap (λ (k : ℕ). name ∷ drop k (n ∷ names)) next)

-- the name that word i names, and then the later ones
pub named_here : (plain : ℕ) (words : List (String Global)) (i : ℕ) (name : String Global) → i < length words
    → string_bytes name ≡ get_or (files_named plain (words_of words)) i []
    → drop i (files_named plain (words_of words)) ≡ string_bytes name ∷ drop (i + 1) (files_named plain (words_of words))
named_here plain words i name h e =
    element_here (files_named plain (words_of words)) i (string_bytes name)
    (omega (arith, h, length-named plain (words_of words), length-map words string_bytes)) e

-- what is gathered from a name on
from_here : (limits : ℕ → ℕ) (files : Files) (names : List (List ℕ)) (i : ℕ) (name : List ℕ) → drop i names ≡ name ∷ drop (i + 1) names
    → gathered_from limits files i (drop i names) ≡ gathered_one limits i (files name) (gathered_from limits files (i + 1) (drop (i + 1) names))
unfolding gathered_from
from_here limits files names i name here =
    let next : suc i ≡ i + 1 = sym (add-one i) in
    ap (gathered_from limits files i) here
    ∙ ap (λ (j : ℕ). gathered_one limits i (files name) (gathered_from limits files j (drop (i + 1) names))) next

-- a file within its limit is gathered
within : (limits : ℕ → ℕ) (i : ℕ) (content : List ℕ) (later : Gathered) → length content ≤ limits i → gathered_one limits i (Some content) later ≡ after (content ∷ []) later
within limits i content later h =
    let e : nat_lt (limits i) (length content) ≡ false = grind (arith, nat_tests) in
    ap (λ (b : Bool). cond b (long i) (after (content ∷ []) later)) e

-- a file beyond its limit ends what is gathered
beyond : (limits : ℕ → ℕ) (i : ℕ) (content : List ℕ) (later : Gathered) → limits i < length content → gathered_one limits i (Some content) later ≡ long i
beyond limits i content later h =
    let e : nat_lt (limits i) (length content) ≡ true = grind (arith, nat_tests) in
    ap (λ (b : Bool). cond b (long i) (after (content ∷ []) later)) e

-- one more file was read whole
pub come_on : (limits : ℕ → ℕ) (told : Option Files) (names : List (List ℕ)) (i : ℕ) (contents : List (List ℕ)) (name content : List ℕ)
    → GathersFiles limits told names i (Ok contents) → drop i names ≡ name ∷ drop (i + 1) names → ReadsFile (limits i) told name (Ok content)
    → GathersFiles limits told names (i + 1) (Ok (contents ++ content ∷ []))
come_on limits None names i contents name content come here read = tt
come_on limits (Some files) names i contents name content come here read =
    let later = gathered_from limits files (i + 1) (drop (i + 1) names) in
    let next : gathered_from limits files i (drop i names) ≡ after (content ∷ []) later =
    from_here limits files names i name here ∙ ap (λ (o : Option (List ℕ)). gathered_one limits i o later) read.0 ∙ within limits i content later read.1 in
    come ∙ ap (after contents) next ∙ after-after contents content later

-- the files of all names hold these contents, where files are told
abbrev pub AllGathered : (ℕ → ℕ) → Option Files → List (List ℕ) → List (List ℕ) → Type 0
AllGathered limits None names contents = ⊤
AllGathered limits (Some files) names contents = gathered limits files names ≡ whole contents

-- all were read
pub all_gathered : (limits : ℕ → ℕ) (told : Option Files) (names : List (List ℕ)) (count : ℕ) (contents : List (List ℕ))
    → GathersFiles limits told names count (Ok contents) → length names ≤ count → AllGathered limits told names contents
unfolding gathered_from
all_gathered limits None names count contents come h = tt
all_gathered limits (Some files) names count contents come h =
    let none : drop count names ≡ [] = grind (arith, common_steps) in
    come ∙ ap (λ (ns : List (List ℕ)). after contents (gathered_from limits files count ns)) none ∙ ap whole (append-nil contents)

-- file i was not read whole
pub stop_here : (limits : ℕ → ℕ) (told : Option Files) (names : List (List ℕ)) (i count : ℕ) (contents : List (List ℕ)) (name : List ℕ) (last : LastCall) (given : ℕ) (stop : Stop)
    → GathersFiles limits told names i (Ok contents) → drop i names ≡ name ∷ drop (i + 1) names → ReadsFile (limits i) told name (Err stop)
    → StopsFile (limits i) i last given stop → GathersFiles limits told names count (Err stop)
stop_here limits None names i count contents name last given stop come here read why = tt
stop_here limits (Some files) names i count contents name last given (PickFault j) come here read why = tt
stop_here limits (Some files) names i count contents name last given (ReadFault j) come here read why = tt
stop_here limits (Some files) names i count contents name last given NoMemory come here read why = tt
stop_here limits (Some files) names i count contents name last given (TooLong j) come here read why =
    let later = gathered_from limits files (i + 1) (drop (i + 1) names) in
    let next : gathered_from limits files i (drop i names) ≡ long i =
    from_here limits files names i name here ∙ ap (λ (o : Option (List ℕ)). gathered_one limits i o later) read.1 ∙ beyond limits i read.0 later read.2 in
    come ∙ ap (after contents) next ∙ ap long (sym why.0)

-- the name at a place
pub name_at : (names : List (List ℕ)) (i : ℕ) (name : List ℕ) (later : List (List ℕ)) → drop i names ≡ name ∷ later → IsWord names i (Some name)
unfolding file_of
name_at [] zero name later e = absurd cc
name_at [] (suc i) name later e = absurd cc
name_at (n ∷ names) zero name later e = (omega arith, cc)
name_at (n ∷ names) (suc i) name later e = let rest = name_at names i name later e in (omega (arith, rest.0), rest.1)

-- the file that stopped it is the one with its number
pub stop_in : (limits : ℕ → ℕ) (told : Option Files) (names : List (List ℕ)) (i : ℕ) (name : List ℕ) (picked : Option (List ℕ)) (last : LastCall) (given : ℕ) (stop : Stop)
    → drop i names ≡ name ∷ drop (i + 1) names → AllRead limits told names i → picked ≡ Some name → StopsFile (limits i) i last given stop
    → StopsIn limits told names picked last given stop
stop_in limits told names i name picked last given (PickFault j) here all files_named why =
    let word = subst (IsWord names i) (sym files_named) (name_at names i name (drop (i + 1) names) here) in
    (why.1, subst (λ (n : ℕ). IsWord names n picked) (sym why.0) word, subst (AllRead limits told names) (sym why.0) all)
stop_in limits told names i name picked last given (ReadFault j) here all files_named why =
    let word = subst (IsWord names i) (sym files_named) (name_at names i name (drop (i + 1) names) here) in
    (why.1, subst (λ (n : ℕ). IsWord names n picked) (sym why.0) word, subst (AllRead limits told names) (sym why.0) all)
stop_in limits told names i name picked last given (TooLong j) here all files_named why =
    let word = subst (IsWord names i) (sym files_named) (name_at names i name (drop (i + 1) names) here) in
    (subst (λ (n : ℕ). limits n < given) (sym why.0) why.1, subst (λ (n : ℕ). IsWord names n picked) (sym why.0) word, subst (AllRead limits told names) (sym why.0) all)
stop_in limits told names i name picked last given NoMemory here all files_named why = tt

-- the name at a place was picked last
pub last_on : (names : List (List ℕ)) (i : ℕ) (name : List ℕ) (picked : Option (List ℕ)) (last : LastCall) → drop i names ≡ name ∷ drop (i + 1) names
    → picked ≡ Some name → last ≡ ended.Fine → IsLastOf names (i + 1) picked last
last_on names i name picked last here files_named fine =
    let same : i ≡ i + 1 - 1 = omega arith in
    λ some. (subst (λ (j : ℕ). IsWord names j picked) same (subst (IsWord names i) (sym files_named) (name_at names i name (drop (i + 1) names) here)), fine)

-- how many files were picked when file i was not read whole
pub stop_picks : (limit i before now count : ℕ) (last : LastCall) (given : ℕ) (stop : Stop) → i < count → StopsFile limit i last given stop
    → now ≡ count_on before (i + 1) → PicksIn {T = List (List ℕ)} before now count (Err stop)
stop_picks limit i before now count last given (PickFault j) h why e = e ∙ ap (λ (k : ℕ). count_on before (k + 1)) (sym why.0)
stop_picks limit i before now count last given (ReadFault j) h why e = e ∙ ap (λ (k : ℕ). count_on before (k + 1)) (sym why.0)
stop_picks limit i before now count last given (TooLong j) h why e = e ∙ ap (λ (k : ℕ). count_on before (k + 1)) (sym why.0)
stop_picks limit i before now count last given NoMemory h why e = (i + 1, omega arith, e)

-- a number below the next one is below this one or is it
below : (j i : ℕ) → j < i + 1 → (j < i) ⊎ (j ≡ i)
below zero zero h = inr refl
below zero (suc i) h = inl (omega arith)
below (suc j) zero h = absurd (omega arith)
below (suc j) (suc i) h = ⊎_elim (λ (lt : j < i). inl (omega arith)) (λ (same : j ≡ i). inr (ap suc same)) (below j i (omega arith))

-- one more file is there and within its limit
pub all_read_on : (limits : ℕ → ℕ) (told : Option Files) (names : List (List ℕ)) (i : ℕ) (name content : List ℕ)
    → AllRead limits told names i → drop i names ≡ name ∷ drop (i + 1) names → ReadsFile (limits i) told name (Ok content) → AllRead limits told names (i + 1)
all_read_on limits None names i name content before here read = tt
all_read_on limits (Some files) names i name content before here read = λ j hj.
    ⊎_elim
    (λ (lt : j < i). before j lt)
    (λ (same : j ≡ i).
    let files_named : file_of names j ≡ name = ap (file_of names) same ∙ (name_at names i name (drop (i + 1) names) here).1 in
    (content, ap files files_named ∙ read.0, subst (λ (n : ℕ). length content ≤ limits n) (sym same) read.1))
    (below j i hj)

-- the contents of one more file
pub contents_more : (contents : List (Vec ℕ Global)) (content : Vec ℕ Global) → contents_of (contents ++ content ∷ []) ≡ contents_of contents ++ content.items ∷ []
contents_more [] content = refl
contents_more (c ∷ contents) content = ap (λ (l : List (List ℕ)). c.items ∷ l) (contents_more contents content)
