-- Words that are values, and how many words there are.
use Rattle.std.specs.Prelude.{ℕ, ◌+◌, ◌-◌, ◌*◌, ◌^◌, ◌==◌, ◌&&◌, ◌||◌, nat_le, nat_lt, not, Bool, false, List, [], ◌∷◌, length, get_or, drop, codes, if◌then◌else◌, Some, None}
use Rattle.std.specs.declared.option.Option.{Option}
use Rattle.std.specs.List.{fold, list_all}
use Rattle.std.specs.Option.{option_map, option_map_or}
use Rattle.std.specs.Result.{result_ok}
use Rattle.std.specs.Str.{bytes_eq}
use Rattle.hex.specs.Hex.{decode_sized}
use Rattle.namespace_id.specs.Sizes.{greatest_width, namespace_size}
use Rattle.namespace_id.specs.Cells.{is_width}
use Rattle.namespace_id.specs.Names.{named_by}
use Rattle.namespace_id.specs.declared.namespaces.Namespace.{Namespace}
use Rattle.namespace_id.specs.declared.cells.Axis.{Axis}
use Rattle.namespace_id.specs.declared.cells.Axis.TheVariants.{Row, Col}
use Rattle.da_words.specs.Commands.{is_trial_width}

-- whether these are a word, of a command or of a form, and so many words after it
abbrev pub is_command : List (List ℕ) → List ℕ → ℕ → Bool
is_command [] name count = false
is_command (word ∷ rest) name count = bytes_eq word name && (length rest == count)

-- whether a byte is a decimal digit
abbrev pub is_digit : ℕ → Bool
is_digit byte = nat_le 48 byte && nat_le byte 57

-- the number that decimal digits make
abbrev pub digits_value : List ℕ → ℕ
digits_value digits = fold (λ value digit. 10 * value + (digit - 48)) 0 digits

-- whether a word is a number in decimal digits without a leading zero, or 0
abbrev pub is_number : List ℕ → Bool
is_number [] = false
is_number (digit ∷ digits) = list_all is_digit (digit ∷ digits) && (not (digit == 48) || (length digits == 0))

-- the number that bytes make, none where one is no digit or the number is above a greatest one
abbrev pub digits_in : ℕ → List ℕ → Option ℕ
digits_in most digits =
    if list_all is_digit digits && nat_le (digits_value digits) most then Some (digits_value digits) else None

-- the number that a word is, none where it is none or is above a greatest one
abbrev pub number_in : ℕ → List ℕ → Option ℕ
number_in most word = if is_number word && nat_le (digits_value word) most then Some (digits_value word) else None

-- the key that a word is: 32 bytes in 64 hexadecimal digits of either case
abbrev pub key_in : List ℕ → Option (List ℕ)
key_in word = result_ok (decode_sized word 32)

-- whether a word in the place of KEY names a file: an `@`, and the name behind it
abbrev pub is_key_name : List ℕ → Bool
is_key_name word = (get_or word 0 0 == 64) && nat_lt 1 (length word)

-- the name of the file that such a word names
abbrev pub key_name : List ℕ → List ℕ
key_name word = if get_or word 0 0 == 64 then drop 1 word else word

-- the width of a trial that a word is
abbrev pub width_in : List ℕ → Option ℕ
width_in word = option_map_or (λ k. if is_trial_width k then Some k else None) (number_in greatest_width word) None

-- the axis that a word is
abbrev pub axis_in : List ℕ → Option Axis
axis_in word =
    if bytes_eq word (codes "row") then Some Row else (if bytes_eq word (codes "col") then Some Col else None)

-- the row or the column that a word is, from 0 to 65,535
abbrev pub word_place : List ℕ → Option ℕ
word_place word = number_in (2 ^ 16 - 1) word

-- the height that a word is, from 1 on
abbrev pub height_in : List ℕ → Option ℕ
height_in word = option_map_or (λ n. if nat_le 1 n then Some n else None) (number_in (2 ^ 64 - 1) word) None

-- the namespace that a word is: 29 bytes in 58 hexadecimal digits of either case
abbrev pub word_name : List ℕ → Option Namespace
word_name word = option_map named_by (result_ok (decode_sized word namespace_size))

-- the width of a square that a word is
abbrev pub square_width_in : List ℕ → Option ℕ
square_width_in word = option_map_or (λ k. if is_width k then Some k else None) (number_in greatest_width word) None
