-- A namespace answer that is read of a payload is what the payload spells, and the payload that one has is
-- read.
use Rattle.std.proofs.Common.{List, refl, arith}
use Rattle.namespace_id.specs.declared.namespaces.Namespace.{Namespace}
use Rattle.axis_roots.specs.declared.answers.NsEntry.{NsEntry}
use Rattle.namespace_id.specs.Names.{IsNamespace}
use Rattle.axis_roots.specs.Answers.{IsEntry, AreEntries}
use Rattle.frame_payloads.specs.kinds.Names.{most_entries, is_long_entry, is_long_answer, entry_bytes, names_payload, entry_at, names_at}
use Rattle.frame_payloads.proofs.Fields.Fields.{AreMaps, ◌▸◌}
use Rattle.frame_payloads.proofs.Fields.Bases.{name29, short_list16}
use Rattle.frame_payloads.proofs.Forms.Entries.{entry_field}
use Rattle.frame_payloads.proofs.Forms.Form.{IsForm, IsSpelled, form_of}

-- a namespace and what is found of it
abbrev pub Named : Type 0
Named = Namespace × List NsEntry

-- a namespace and entries of their types
abbrev pub AreNamed : Named → Type 0
AreNamed x = IsNamespace x.0 × AreEntries x.1

-- a namespace answer is a namespace, and entries
maps : AreMaps {R = Named} (name29 ▸ short_list16 most_entries (omega arith) entry_at entry_bytes IsEntry is_long_entry entry_field) (λ x. x) (λ x. x) (IsSpelled AreNamed (λ x. is_long_answer x.1))
maps = record { there = λ x is. (((is.0, is.1.0), is.1.1), refl); back = λ x is. ((is.0.0, (is.0.1, is.1)), refl) }

-- the form of this kind
pub names_form : IsForm AreNamed names_at (λ x. names_payload x.0 x.1) (λ x. is_long_answer x.1)
unfolding names_at
names_form = form_of maps (λ bytes. refl) (λ x. refl)
