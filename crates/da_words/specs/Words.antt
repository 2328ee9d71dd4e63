-- Which words are a command.
use Rattle.std.specs.Prelude.{◌≡◌, ⊤, ℕ, ◌+◌, ◌-◌, ◌^◌, nat_le, Bool, List, [], ◌∷◌, ◌++◌, length, get_or, map, take, drop, codes, if◌then◌else◌, Some, None, String}
use Rattle.std.specs.declared.option.Option.{Option}
use Rattle.std.specs.declared.alloc.Global.{Global}
use Rattle.std.specs.List.{filter}
use Rattle.std.specs.Option.{option_map, option_map_or, option_or}
use Rattle.std.specs.String.{string_bytes}
use Rattle.std.specs.Str.{bytes_eq}
use Rattle.da_io.specs.Files.{is_standard_input}
use Rattle.da_words.specs.declared.forms.ImportForm.{ImportForm}
use Rattle.da_words.specs.declared.forms.ExportForm.{ExportForm}
use Rattle.da_words.specs.declared.command.Command.{Command}
use Rattle.da_words.specs.declared.command.Command.TheVariants.{Check, Build, Header, Sample, Namespace, Verify, Compact, Repair, Light, LightBy, Net, Show, Json, Demo, VerifyCommitment, VerifyFor, Root, RootIs, Wanted, Cells, CellsBy, Blobs, Transactions, Find, Commit, Prove, ProveRange, Follow, Import, Export, Help, Version}
use Rattle.da_words.specs.declared.words.Call.{Call}
use Rattle.da_words.specs.Values.{is_command, number_in, key_in, is_key_name, key_name, width_in, axis_in}
use Rattle.da_words.specs.Forms.{import_files, import_form, export_form}

-- the bytes of each word
abbrev pub words_of : List (String Global) → List (List ℕ)
words_of words = map string_bytes words

-- ---- commands

-- light HEADER MESSAGES @NAME COUNT, where COUNT is this word
abbrev pub light_by_call : List ℕ → Option Call
light_by_call count = option_map (λ n. record { command = LightBy n; files = 3 }) (number_in (2 ^ 32 - 1) count)

-- light HEADER MESSAGES KEY COUNT, where KEY and COUNT are these words
abbrev pub light_call : List ℕ → List ℕ → Option Call
light_call key count = if is_key_name key then light_by_call count else
    option_map_or (λ bytes. option_map (λ n. record { command = Light bytes n; files = 2 }) (number_in (2 ^ 32 - 1) count))
    (key_in key) None

-- demo NUMBER WIDTH, where NUMBER and WIDTH are these words
abbrev pub demo_call : List ℕ → List ℕ → Option Call
demo_call number width = option_map_or
    (λ n. option_map (λ k. record { command = Demo n k; files = 0 }) (width_in width))
    (number_in (2 ^ 64 - 1) number) None

-- verify HEADER ANSWER and this word, which is a COMMITMENT where it is 64 hexadecimal digits, else REQUEST
abbrev pub verify_call : List ℕ → Call
verify_call word = option_map_or (λ bytes. record { command = VerifyCommitment bytes; files = 2 }) (key_in word)
    (record { command = VerifyFor; files = 3 })

-- root HEADER ROOT, where ROOT is this word
abbrev pub root_call : List ℕ → Option Call
root_call root = option_map (λ bytes. record { command = RootIs bytes; files = 1 }) (key_in root)

-- find SQUARE COMMITMENT, where COMMITMENT is this word
abbrev pub find_call : List ℕ → Option Call
find_call commitment = option_map (λ bytes. record { command = Find bytes; files = 1 }) (key_in commitment)

-- wanted MISSING AXIS, where AXIS is this word
abbrev pub wanted_call : List ℕ → Option Call
wanted_call word = option_map (λ axis. record { command = Wanted axis; files = 1 }) (axis_in word)

-- cells HEADER @NAME COUNT AXIS, where COUNT and AXIS are these words
abbrev pub cells_by_call : List ℕ → List ℕ → Option Call
cells_by_call count word = option_map_or
    (λ n. option_map (λ axis. record { command = CellsBy n axis; files = 2 }) (axis_in word))
    (number_in (2 ^ 32 - 1) count) None

-- cells HEADER KEY COUNT AXIS, where the bytes are KEY, and COUNT and AXIS are these words
abbrev pub cells_of_key : List ℕ → List ℕ → List ℕ → Option Call
cells_of_key bytes count word = option_map_or
    (λ n. option_map (λ axis. record { command = Cells bytes n axis; files = 1 }) (axis_in word))
    (number_in (2 ^ 32 - 1) count) None

-- cells HEADER KEY COUNT AXIS, where KEY, COUNT and AXIS are these words
abbrev pub cells_call : List ℕ → List ℕ → List ℕ → Option Call
cells_call key count word = if is_key_name key then cells_by_call count word else
    option_map_or (λ bytes. cells_of_key bytes count word) (key_in key) None

-- prove SQUARE START COUNT, where START and COUNT are these words
abbrev pub prove_call : List ℕ → List ℕ → Option Call
prove_call start count = option_map_or
    (λ from. option_map (λ n. record { command = ProveRange from n; files = 1 }) (number_in (2 ^ 32 - 1) count))
    (number_in (2 ^ 32 - 1) start) None

-- the commands whose words after their own all name files: the word, how many files, the command
abbrev pub file_commands : List (List ℕ × ℕ × Command)
file_commands =
    (codes "check", 2, Check) ∷
    (codes "build", 1, Build) ∷
    (codes "header", 1, Header) ∷
    (codes "sample", 2, Sample) ∷
    (codes "namespace", 2, Namespace) ∷
    (codes "verify", 2, Verify) ∷
    (codes "compact", 2, Compact) ∷
    (codes "repair", 2, Repair) ∷
    (codes "net", 3, Net) ∷
    (codes "show", 1, Show) ∷
    (codes "json", 1, Json) ∷
    (codes "root", 1, Root) ∷
    (codes "blobs", 1, Blobs) ∷
    (codes "transactions", 1, Transactions) ∷
    (codes "commit", 1, Commit) ∷
    (codes "prove", 2, Prove) ∷
    (codes "follow", 2, Follow) ∷
    (codes "help", 0, Help) ∷
    (codes "version", 0, Version) ∷ []

-- the call of the row that these words are
abbrev pub call_in : List (List ℕ × ℕ × Command) → List (List ℕ) → Option Call
call_in [] words = None
call_in ((word, count, command) ∷ rows) words =
    if is_command words word count then Some (record { command = command; files = count }) else call_in rows words

-- the command of these words among those whose words after their own all name files
abbrev pub file_call : List (List ℕ) → Option Call
file_call = call_in file_commands

-- the command of these words among those with values among their words
abbrev pub value_call : List (List ℕ) → Option Call
value_call words =
    if is_command words (codes "light") 4 then light_call (get_or words 3 []) (get_or words 4 []) else
    (if is_command words (codes "demo") 2 then demo_call (get_or words 1 []) (get_or words 2 []) else
    (if is_command words (codes "root") 2 then root_call (get_or words 2 []) else
    (if is_command words (codes "find") 2 then find_call (get_or words 2 []) else
    (if is_command words (codes "wanted") 2 then wanted_call (get_or words 2 []) else
    (if is_command words (codes "prove") 3 then prove_call (get_or words 2 []) (get_or words 3 []) else
    (if is_command words (codes "verify") 3 then Some (verify_call (get_or words 3 [])) else
    (if is_command words (codes "cells") 4 then cells_call (get_or words 2 []) (get_or words 3 []) (get_or words 4 [])
    else None)))))))

-- the call of import with a form
abbrev pub import_call : ImportForm → Call
import_call form = record { command = Import form; files = import_files form }

-- the call of export with a form
abbrev pub export_call : ExportForm → Call
export_call form = record { command = Export form; files = 1 }

-- the command of these words, where it is import or export with a form
abbrev pub form_call : List (List ℕ) → Option Call
form_call [] = None
form_call (word ∷ rest) =
    if bytes_eq word (codes "import") then option_map import_call (import_form rest) else
    (if bytes_eq word (codes "export") then option_map export_call (export_form rest) else None)

-- the command of these words, whatever its files are, and how many of them name files
abbrev pub any_call : List (List ℕ) → Option Call
any_call words = option_or (file_call words) (option_or (value_call words) (form_call words))

-- ---- the names of files

-- how many words stand before those that name files: the command's own, and FORM of import and export
abbrev pub words_before : Command → ℕ
words_before (Import form) = 2
words_before (Export form) = 2
words_before command = 1

-- the place of the last word that names a file, or of that before them where there is none
abbrev pub last_file : Call → ℕ
last_file call = words_before call.command + call.files - 1

-- the words that name files, so many
abbrev pub file_words : Command → ℕ → List (List ℕ) → List (List ℕ)
file_words command count words = take count (drop (words_before command) words)

-- how many of so many words that name files are names as they stand; those behind them stand in the place of KEY
abbrev pub plain_count : Command → ℕ → ℕ
plain_count (LightBy count) files = 2
plain_count (CellsBy count axis) files = 1
plain_count command files = files

-- the names that words name, of which so many are names as they stand, and the others stand in the place of KEY
abbrev pub files_named : ℕ → List (List ℕ) → List (List ℕ)
files_named plain words = take plain words ++ map key_name (drop plain words)

-- the names of the files of a call
abbrev pub call_names : Call → List (List ℕ) → List (List ℕ)
call_names call words = files_named (plain_count call.command call.files) (file_words call.command call.files words)

-- whether at most one of these names is the standard input, which can be read but once
abbrev pub reads_once : List (List ℕ) → Bool
reads_once names = nat_le (length (filter is_standard_input names)) 1

-- a call that reads the standard input at most once
abbrev pub once_only : Call → List (List ℕ) → Option Call
once_only call words = if reads_once (call_names call words) then Some call else None

-- the command of these words, and how many of them name files; none where two of these are the standard input
abbrev pub call_of : List (List ℕ) → Option Call
call_of words = option_map_or (λ call. once_only call words) (any_call words) None

-- repair has two files
abbrev pub HasFiles : Command → ℕ → Type 0
HasFiles Repair count = count ≡ 2
HasFiles command count = ⊤

-- the names of the files of a command, none where the words are no command
abbrev pub files_of_call : Option Call → List (List ℕ) → List (List ℕ)
files_of_call None words = []
files_of_call (Some call) words = call_names call words

-- the names of the files of these words, none where they are no command
abbrev pub files_of_words : List (List ℕ) → List (List ℕ)
files_of_words words = files_of_call (call_of words) words
