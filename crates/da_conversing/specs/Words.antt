-- Which words are a command that stays.
use Rattle.std.specs.Prelude.{ℕ, ◌-◌, ◌^◌, ◌&&◌, ◌||◌, not, Bool, false, List, [], ◌∷◌, get_or, codes, if◌then◌else◌, Some, None}
use Rattle.std.specs.declared.option.Option.{Option}
use Rattle.std.specs.Option.{option_map, option_map_or, is_some}
use Rattle.std.specs.Str.{bytes_eq}
use Rattle.da_io.specs.Files.{is_standard_input}
use Rattle.da_words.specs.Values.{is_command, number_in, key_in, is_key_name, key_name}
use Rattle.da_conversing.specs.declared.words.KeyWord.{KeyWord}
use Rattle.da_conversing.specs.declared.words.KeyWord.TheVariants.{Key, Named}
use Rattle.da_conversing.specs.declared.words.Watch.{Watch}

-- whether a word is that of a command that stays
abbrev pub is_talk_word : List ℕ → Bool
is_talk_word word = bytes_eq word (codes "hold") || (bytes_eq word (codes "gather") || (bytes_eq word (codes "watch") || bytes_eq word (codes "attend")))

-- whether the first word is that of a command that stays
abbrev pub is_talk : List (List ℕ) → Bool
is_talk [] = false
is_talk (word ∷ words) = is_talk_word word

-- ---- a file and TALK

-- whether words are a word, the name of a file and TALK, of which one at most is the standard input
abbrev pub has_talk : List ℕ → List (List ℕ) → Bool
has_talk word words =
    is_command words word 2 && not (is_standard_input (get_or words 1 []) && is_standard_input (get_or words 2 []))

-- whether words are hold SQUARE TALK, of which one at most is the standard input
abbrev pub is_hold : List (List ℕ) → Bool
is_hold words = has_talk (codes "hold") words

-- whether words are gather HEADER TALK, of which one at most is the standard input
abbrev pub is_gather : List (List ℕ) → Bool
is_gather words = has_talk (codes "gather") words

-- whether words are attend WANTED TALK, of which one at most is the standard input
abbrev pub is_attend : List (List ℕ) → Bool
is_attend words = has_talk (codes "attend") words

-- the names of both files of hold
abbrev pub square_name : List (List ℕ) → List ℕ
square_name words = get_or words 1 []

abbrev pub talk_name : List (List ℕ) → List ℕ
talk_name words = get_or words 2 []

-- the name of HEADER of gather and watch
abbrev pub header_name : List (List ℕ) → List ℕ
header_name words = get_or words 1 []

-- the name of WANTED of attend
abbrev pub wanted_name : List (List ℕ) → List ℕ
wanted_name words = get_or words 1 []

-- ---- watch HEADER KEY COUNT TALK

-- the name of the file that KEY names, where it names one
abbrev pub key_file_name : List (List ℕ) → List ℕ
key_file_name words = key_name (get_or words 2 [])

-- the name of its TALK
abbrev pub watch_talk_name : List (List ℕ) → List ℕ
watch_talk_name words = get_or words 4 []

-- whether KEY names the standard input
abbrev pub is_key_input : List ℕ → Bool
is_key_input key = is_key_name key && is_standard_input (key_name key)

-- whether of HEADER, the file that KEY names and TALK one at most is the standard input
abbrev pub is_once : List ℕ → List ℕ → List ℕ → Bool
is_once header key talk = if is_key_input key then not (is_standard_input header) && not (is_standard_input talk)
    else not (is_standard_input header && is_standard_input talk)

-- the key that KEY is, or that it names a file of one
abbrev pub key_given : List ℕ → Option KeyWord
key_given word = if is_key_name word then Some Named else option_map Key (key_in word)

-- the key and the count that KEY and COUNT are
abbrev pub watch_of : List ℕ → List ℕ → Option Watch
watch_of key count =
    option_map_or (λ k. option_map (λ n. record { key = k; count = n }) (number_in (2 ^ 32 - 1) count)) (key_given key) None

-- whether words are watch and four more, and of their files one at most is the standard input
abbrev pub has_watch : List (List ℕ) → Bool
has_watch words = is_command words (codes "watch") 4 && is_once (get_or words 1 []) (get_or words 2 []) (get_or words 4 [])

-- the key and the count of words that are watch HEADER KEY COUNT TALK
abbrev pub watch_call : List (List ℕ) → Option Watch
watch_call words = if has_watch words then watch_of (get_or words 2 []) (get_or words 3 []) else None

-- whether words are that
abbrev pub is_watch : List (List ℕ) → Bool
is_watch words = is_some (watch_call words)

-- the number of TALK among its files
abbrev pub talk_file : KeyWord → ℕ
talk_file (Key key) = 1
talk_file Named = 2

-- ---- all of them

-- whether words are a command that stays
abbrev pub is_stay : List (List ℕ) → Bool
is_stay words = is_hold words || (is_gather words || (is_attend words || is_watch words))
