-- Which words behind `import` and `export` are a form.
use Rattle.std.specs.Prelude.{ℕ, List, [], get_or, codes, if◌then◌else◌, Some, None}
use Rattle.std.specs.declared.option.Option.{Option}
use Rattle.std.specs.Option.{option_map, option_map_or}
use Rattle.da_words.specs.declared.forms.ImportForm.{ImportForm}
use Rattle.da_words.specs.declared.forms.ImportForm.TheVariants as from
use Rattle.da_words.specs.declared.forms.ExportForm.{ExportForm}
use Rattle.da_words.specs.declared.forms.ExportForm.TheVariants as to
use Rattle.da_words.specs.Values.{is_command, key_in, word_place, height_in, word_name, square_width_in}

-- ---- import

-- how many files a form has: FILE, and HEADER
abbrev pub import_files : ImportForm → ℕ
import_files (from.NamespaceData ns) = 2
import_files form = 1

-- import sample FILE ROW COL, where ROW and COL are these words
abbrev pub sample_form : List ℕ → List ℕ → Option ImportForm
sample_form row col = option_map_or
    (λ r. option_map (λ c. from.Sample (record { row = r; col = c })) (word_place col))
    (word_place row) None

-- import row-data FILE ROW NAMESPACE, where ROW and NAMESPACE are these words
abbrev pub row_data_form : List ℕ → List ℕ → Option ImportForm
row_data_form row name = option_map_or (λ r. option_map (λ ns. from.RowData r ns) (word_name name)) (word_place row) None

-- import namespace-data FILE HEADER NAMESPACE, where NAMESPACE is this word
abbrev pub namespace_data_form : List ℕ → Option ImportForm
namespace_data_form name = option_map (λ ns. from.NamespaceData ns) (word_name name)

-- import befp FILE HASH HEIGHT, where HASH and HEIGHT are these words
abbrev pub befp_form : List ℕ → List ℕ → Option ImportForm
befp_form hash height = option_map_or (λ bytes. option_map (λ n. from.Befp bytes n) (height_in height)) (key_in hash) None

-- import row FILE ROW, where ROW is this word
abbrev pub row_form : List ℕ → Option ImportForm
row_form row = option_map (λ r. from.Row r) (word_place row)

-- import sample-id FILE HEIGHT, where HEIGHT is this word
abbrev pub sample_id_form : List ℕ → Option ImportForm
sample_id_form height = option_map (λ n. from.SampleId n) (height_in height)

-- import namespace-id FILE HEIGHT, where HEIGHT is this word
abbrev pub namespace_id_form : List ℕ → Option ImportForm
namespace_id_form height = option_map (λ n. from.NamespaceId n) (height_in height)

-- the form that the words behind `import` are
abbrev pub import_form : List (List ℕ) → Option ImportForm
import_form words =
    if is_command words (codes "dah") 1 then Some from.Dah else
    (if is_command words (codes "header") 1 then Some from.Header else
    (if is_command words (codes "sample") 3 then sample_form (get_or words 2 []) (get_or words 3 []) else
    (if is_command words (codes "row-data") 3 then row_data_form (get_or words 2 []) (get_or words 3 []) else
    (if is_command words (codes "namespace-data") 3 then namespace_data_form (get_or words 3 []) else
    (if is_command words (codes "befp") 3 then befp_form (get_or words 2 []) (get_or words 3 []) else
    (if is_command words (codes "ods") 1 then Some from.Ods else
    (if is_command words (codes "row") 2 then row_form (get_or words 2 []) else
    (if is_command words (codes "share-proof") 1 then Some from.ShareProof else
    (if is_command words (codes "sample-id") 2 then sample_id_form (get_or words 2 []) else
    (if is_command words (codes "namespace-id") 2 then namespace_id_form (get_or words 2 []) else
    None))))))))))

-- ---- export, whose forms have one file

-- export befp FILE WIDTH HASH HEIGHT, where WIDTH, HASH and HEIGHT are these words
abbrev pub befp_to : List ℕ → List ℕ → List ℕ → Option ExportForm
befp_to width hash height = option_map_or
    (λ k. option_map_or (λ bytes. option_map (λ n. to.Befp k bytes n) (height_in height)) (key_in hash) None)
    (square_width_in width) None

-- export sample-id FILE HEIGHT, where HEIGHT is this word
abbrev pub sample_id_to : List ℕ → Option ExportForm
sample_id_to height = option_map (λ n. to.SampleId n) (height_in height)

-- export namespace-id FILE HEIGHT, where HEIGHT is this word
abbrev pub namespace_id_to : List ℕ → Option ExportForm
namespace_id_to height = option_map (λ n. to.NamespaceId n) (height_in height)

-- the form that the words behind `export` are
abbrev pub export_form : List (List ℕ) → Option ExportForm
export_form words =
    if is_command words (codes "dah") 1 then Some to.Dah else
    (if is_command words (codes "sample") 1 then Some to.Sample else
    (if is_command words (codes "row-data") 1 then Some to.RowData else
    (if is_command words (codes "namespace-data") 1 then Some to.NamespaceData else
    (if is_command words (codes "befp") 4 then befp_to (get_or words 2 []) (get_or words 3 []) (get_or words 4 []) else
    (if is_command words (codes "ods") 1 then Some to.Ods else
    (if is_command words (codes "row") 1 then Some to.Row else
    (if is_command words (codes "share-proof") 1 then Some to.ShareProof else
    (if is_command words (codes "sample-id") 2 then sample_id_to (get_or words 2 []) else
    (if is_command words (codes "namespace-id") 2 then namespace_id_to (get_or words 2 []) else
    None)))))))))
