-- The words of light, the table of commands, and the names that words name.
use Rattle.std.proofs.Common.{◌≡◌, ◌∙◌, ℕ, zero, suc, ◌+◌, ◌-◌, ◌<◌, ◌≤◌, Bool, true, false, cond, ◌&&◌, List, [], ◌∷◌, length, get_or, take, drop, String, Global, Some, IfSome, refl, sym, ap, ap₂, arith, eqb-true, inl, inr}
use Rattle.std.specs.Prelude.{nat_le, codes, ◌==◌}
use Rattle.std.specs.String.{string_bytes}
use Rattle.std.specs.Str.{bytes_eq}
use Rattle.std.proofs.lemmas.List.{length-map, get_or-map, take-map, drop-map}
use Rattle.std.specs.declared.option.Option.{Option}
use Rattle.std.specs.List.{list_all, filter, AllByRecursion}
use Rattle.std.proofs.lemmas.Bool.{and_parts, ltb-true, cases_Bool}
use Rattle.std.proofs.lemmas.Grind.{common_steps}
use Rattle.std.proofs.Math.Dec.{ltb}
use Rattle.da_io.specs.Files.{is_standard_input}
use Rattle.da_words.specs.declared.command.Command.{Command}
use Rattle.da_words.specs.declared.command.Command.TheVariants.{Repair, Demo}
use Rattle.da_words.specs.Commands.{is_trial_width, IsRunnable}
use Rattle.da_words.specs.declared.words.Call.{Call}
use Rattle.da_words.specs.Values.{is_command, key_name}
use Rattle.da_words.specs.Words.{words_of, light_call, value_call, call_in, file_commands, words_before, last_file, files_named, reads_once, HasFiles}

-- ---- the words of commands

-- a word by its place
pub word_at : (words : List (String Global)) (i : ℕ) (word : String Global) → i < length words
    → word ≡ get_or words i word
    → get_or (words_of words) i [] ≡ string_bytes word
word_at words i word within here = get_or-map string_bytes words i word [] within ∙ ap string_bytes (sym here)

-- as many words as a command has, and its own
pub command_count : (words : List (String Global)) (name : List ℕ) (count : ℕ)
    → is_command (words_of words) name count ≡ true → length words ≡ count + 1
command_count [] name count is = absurd cc
command_count (word ∷ words) name count is =
    let rest : length (words_of words) ≡ count = eqb-true (length (words_of words)) count
    (and_parts (bytes_eq (string_bytes word) name) (length (words_of words) == count) is).1 in
    omega (arith, rest, length-map words string_bytes)

-- this test is made
here : {A : Type 0} (b : Bool) (x y : A) → b ≡ true → cond b x y ≡ x
here b x y holds = ap (λ (t : Bool). cond t x y) holds

-- the call of the words of light: the third and the fourth behind its own are its key and its count
pub light_words : (words rest : List (String Global)) (word key count : String Global) → words ≡ word ∷ rest → string_bytes word ≡ codes "light" → length rest ≡ 4
    → key ≡ get_or rest 2 key → count ≡ get_or rest 3 count → value_call (words_of words) ≡ light_call (string_bytes key) (string_bytes count)
light_words words rest word key count split name four key_is count_is =
    let front : bytes_eq (string_bytes word) (codes "light") ≡ true = ap (λ (n : List ℕ). bytes_eq n (codes "light")) name in
    let size : (length (words_of rest) == 4) ≡ true = ap (λ (n : ℕ). n == 4) (length-map rest string_bytes ∙ four) in
    let is : is_command (words_of (word ∷ rest)) (codes "light") 4 ≡ true = ap₂ (λ (x y : Bool). x && y) front size in
    let found : value_call (words_of (word ∷ rest)) ≡ light_call (get_or (words_of rest) 2 []) (get_or (words_of rest) 3 []) =
    here (is_command (words_of (word ∷ rest)) (codes "light") 4) (light_call (get_or (words_of rest) 2 []) (get_or (words_of rest) 3 [])) _ is in
    ap (λ (l : List (String Global)). value_call (words_of l)) split ∙ found
    ∙ ap₂ light_call (word_at rest 2 key (omega (arith, four)) key_is) (word_at rest 3 count (omega (arith, four)) count_is)

-- ---- the table

-- a fact of the call of one row, and of what is found in the others
by_row : (P : Call → Type 0) (b : Bool) (call : Call) (later : Option Call) → (b ≡ true → P call) → IfSome later P → IfSome (cond b (Some call) later) P
by_row P true call later here after = here refl
by_row P false call later here after = after

-- what holds of each row holds of the one that is found
pub row_is : (P : Call → Type 0) (rows : List (List ℕ × ℕ × Command)) (words : List (List ℕ))
    → AllByRecursion (λ (row : List ℕ × ℕ × Command). P (record { command = row.2; files = row.1 })) rows → IfSome (call_in rows words) P
row_is P [] words all = tt
row_is P ((word, count, command) ∷ rows) words all =
    by_row P (is_command words word count) (record { command = command; files = count }) (call_in rows words) (λ is. all.0) (row_is P rows words all.1)

-- the words that a row is of are its own and its files
pub row_files : (rows : List (List ℕ × ℕ × Command)) (words : List (String Global)) → AllByRecursion (λ (row : List ℕ × ℕ × Command). words_before row.2 ≡ 1) rows
    → IfSome (call_in rows (words_of words)) (λ (call : Call). last_file call < length words)
row_files [] words all = tt
row_files ((word, count, command) ∷ rows) words all =
    by_row (λ (call : Call). last_file call < length words) (is_command (words_of words) word count) (record { command = command; files = count })
    (call_in rows (words_of words))
    (λ (is : is_command (words_of words) word count ≡ true).
    let behind : length words ≡ count + 1 = command_count words word count is in
    let own : words_before command ≡ 1 = all.0 in
    let fewer : words_before command + count - 1 < length words = omega (arith, behind, own) in
    fewer)
    (row_files rows words all.1)

-- what a test says of each element
all_say : {X : Type 0} (p : X → Bool) (P : X → Type 0) → ((x : X) → p x ≡ true → P x) → (xs : List X) → list_all p xs ≡ true → AllByRecursion P xs
all_say p P says [] all = tt
all_say p P says (x ∷ xs) all = let both = and_parts (p x) (list_all p xs) all in (says x both.0, all_say p P says xs both.1)

-- a test that a command can be run
abbrev can_run : Command → Bool
can_run (Demo number k) = is_trial_width k
can_run command = true

-- what it says
runs : (command : Command) → can_run command ≡ true → IsRunnable command
runs (Demo number k) is = is
runs command is = tt

-- a test that repair has two files
abbrev has_own : Command → ℕ → Bool
has_own Repair count = count == 2
has_own command count = true

-- what it says
owns : (command : Command) (count : ℕ) → has_own command count ≡ true → HasFiles command count
owns Repair count is = eqb-true count 2 is
owns command count is = tt

-- each row of the table has few files
pub rows_few : AllByRecursion (λ (row : List ℕ × ℕ × Command). row.1 < 16) file_commands
rows_few = all_say (λ (row : List ℕ × ℕ × Command). ltb row.1 16) (λ (row : List ℕ × ℕ × Command). row.1 < 16) (λ row is. ltb-true row.1 16 is) file_commands refl

-- each has files behind its own word
pub rows_behind : AllByRecursion (λ (row : List ℕ × ℕ × Command). words_before row.2 ≡ 1) file_commands
rows_behind = all_say (λ (row : List ℕ × ℕ × Command). words_before row.2 == 1) (λ (row : List ℕ × ℕ × Command). words_before row.2 ≡ 1) (λ row is. eqb-true (words_before row.2) 1 is) file_commands refl

-- each has a command that can be run
pub rows_run : AllByRecursion (λ (row : List ℕ × ℕ × Command). IsRunnable row.2) file_commands
rows_run = all_say (λ (row : List ℕ × ℕ × Command). can_run row.2) (λ (row : List ℕ × ℕ × Command). IsRunnable row.2) (λ row is. runs row.2 is) file_commands refl

-- and two files where it is repair
pub rows_own : AllByRecursion (λ (row : List ℕ × ℕ × Command). HasFiles row.2 row.1) file_commands
rows_own = all_say (λ (row : List ℕ × ℕ × Command). has_own row.2 row.1) (λ (row : List ℕ × ℕ × Command). HasFiles row.2 row.1) (λ row is. owns row.2 row.1 is) file_commands refl

-- ---- the names of files

-- a word that begins with no `@` is the name
pub key_name_other : (word : List ℕ) → ((rest : List ℕ) → word ≡ 64 ∷ rest → ⊥) → word ≡ key_name word
key_name_other [] other = refl
key_name_other (byte ∷ rest) other = elim (cases_Bool (byte == 64)) [
  | inl same ↦ absurd (other rest (ap (λ (b : ℕ). b ∷ rest) (eqb-true byte 64 same)))
  | inr told ↦ sym (ap (λ (t : Bool). cond t rest (byte ∷ rest)) told)
]

-- words name as many names as they are
pub length-named : (plain : ℕ) (words : List (List ℕ)) → length (files_named plain words) ≡ length words
length-named zero words = length-map words key_name
length-named (suc plain) [] = refl
length-named (suc plain) (word ∷ words) = ap suc (length-named plain words)

-- a word that is a name as it stands
plain_name : (plain i : ℕ) (words : List (List ℕ)) → i < plain → i < length words → get_or (files_named plain words) i [] ≡ get_or words i []
plain_name zero i words below within = absurd (omega arith)
plain_name (suc plain) i [] below within = absurd (omega arith)
plain_name (suc plain) zero (word ∷ words) below within = refl
plain_name (suc plain) (suc i) (word ∷ words) below within = plain_name plain i words (omega arith) (omega arith)

-- a word in the place of KEY
key_behind : (plain i : ℕ) (words : List (List ℕ)) → plain ≤ i → i < length words
    → get_or (files_named plain words) i [] ≡ key_name (get_or words i [])
key_behind zero i words above within = get_or-map key_name words i [] [] within
key_behind (suc plain) i [] above within = absurd (omega arith)
key_behind (suc plain) zero (word ∷ words) above within = absurd (omega arith)
key_behind (suc plain) (suc i) (word ∷ words) above within = key_behind plain i words (omega arith) (omega arith)

-- the name of a word in the place of KEY, by the word
pub key_at : (plain : ℕ) (words : List (String Global)) (i : ℕ) (word : String Global) → plain ≤ i → i < length words
    → word ≡ get_or words i word → get_or (files_named plain (words_of words)) i [] ≡ key_name (string_bytes word)
key_at plain words i word above within is =
    key_behind plain i (words_of words) above (omega (arith, within, length-map words string_bytes))
    ∙ ap key_name (word_at words i word within is)

-- every word is a name as it stands
pub named-all : (count : ℕ) (words : List (List ℕ)) → files_named count (take count words) ≡ take count words
named-all zero words = refl
named-all (suc count) [] = refl
named-all (suc count) (word ∷ words) = ap (λ (l : List (List ℕ)). word ∷ l) (named-all count words)

-- words behind some, as a slice of the words gives them
pub names_behind : (first n : ℕ) (words : List (String Global)) → words_of (take (first + n - first) (drop first words)) ≡ take n (drop first (words_of words))
names_behind first n words =
    let e : first + n - first ≡ n = omega arith in
    ap (λ (k : ℕ). words_of (take k (drop first words))) e ∙ sym (take-map string_bytes n (drop first words))
    ∙ ap (take n) (sym (drop-map string_bytes first words))

-- ---- the standard input among names

-- one more element where a test holds
length_one : {A : Type 0} (b : Bool) (x : A) (xs : List A) → length (cond b (x ∷ xs) xs) ≡ length xs + cond b 1 0
length_one true x xs = omega arith
length_one false x xs = omega arith

-- how many names are the standard input
abbrev pub inputs_among : List (List ℕ) → ℕ
inputs_among names = length (filter is_standard_input names)

-- with one name more
pub inputs_next : (names : List (List ℕ)) (i : ℕ) → i < length names
    → inputs_among (take (i + 1) names) ≡ inputs_among (take i names) + cond (is_standard_input (get_or names i [])) 1 0
inputs_next [] i within = absurd (omega arith)
inputs_next (name ∷ names) zero within = length_one (is_standard_input name) name []
inputs_next (name ∷ names) (suc i) within =
    let next : suc i + 1 ≡ suc (i + 1) = omega arith in
    let more = length_one (is_standard_input name) name (filter is_standard_input (take (i + 1) names)) in
    let fewer = length_one (is_standard_input name) name (filter is_standard_input (take i names)) in
    ap (λ (n : ℕ). inputs_among (take n (name ∷ names))) next
    ∙ omega (arith, more, fewer, inputs_next names i (omega arith))

-- all names were counted
pub inputs_all : (names : List (List ℕ)) (i count : ℕ) → i ≡ length names → count ≡ inputs_among (take i names)
    → nat_le count 1 ≡ reads_once names
inputs_all names i count all is =
    let whole : take i names ≡ names = grind (arith, common_steps) in
    ap (λ (n : ℕ). nat_le n 1) (is ∙ ap inputs_among whole)
