use Rattle.proto_fields.proofs.FieldLemmas.{read_whatever_follows, field_is_shorter, no_fields, first_field, no_field, fields_in_a_row, all_bytes_in_a_row, all_numbers_in_a_row, last_bytes_count, last_number_counts}
use Rattle.proto_fields.proofs.WrittenLemmas.{bytes_field_is_read, number_field_is_read, size_is_length, number_size_is_length}
use Rattle.proto_fields.proofs.laws.field_laws.Goals as goal

pub returns-clause-bytes : goal.returns-clause-bytes
returns-clause-bytes c = bytes_field_is_read

pub returns-clause-number : goal.returns-clause-number
returns-clause-number c = number_field_is_read

pub returns-clause-size : goal.returns-clause-size
returns-clause-size c = size_is_length

pub returns-clause-follows : goal.returns-clause-follows
returns-clause-follows c = read_whatever_follows

pub returns-clause-shorter : goal.returns-clause-shorter
returns-clause-shorter c = field_is_shorter

pub returns-clause-none : goal.returns-clause-none
returns-clause-none c = no_fields

pub returns-clause-first : goal.returns-clause-first
returns-clause-first c = first_field

pub returns-clause-refused : goal.returns-clause-refused
returns-clause-refused c = no_field

pub returns-clause-row : goal.returns-clause-row
returns-clause-row c = fields_in_a_row

pub returns-clause-all_bytes : goal.returns-clause-all_bytes
returns-clause-all_bytes c = all_bytes_in_a_row

pub returns-clause-all_numbers : goal.returns-clause-all_numbers
returns-clause-all_numbers c = all_numbers_in_a_row

pub returns-clause-last_bytes : goal.returns-clause-last_bytes
returns-clause-last_bytes c = last_bytes_count

pub returns-clause-last_number : goal.returns-clause-last_number
returns-clause-last_number c = last_number_counts

pub returns-clause-number_size : goal.returns-clause-number_size
returns-clause-number_size c = number_size_is_length
