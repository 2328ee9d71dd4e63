-- How long the payload of a namespace answer is.
use Rattle.std.proofs.Common.{◌≡◌, ℕ, ◌+◌, ◌*◌, ◌≤◌, false, ltb, List, length, arith, ltb-false}
use Rattle.std.specs.Int.{w16}
use Rattle.std.specs.List.{list_any}
use Rattle.std.proofs.lemmas.Bool.{or_parts}
use Rattle.std.proofs.lemmas.List.{length-append}
use Rattle.namespace_id.specs.declared.namespaces.Namespace.{Namespace}
use Rattle.namespace_id.specs.Names.{IsNamespace}
use Rattle.namespace_id.specs.Sizes.{share_size, digest_size, most_nodes}
use Rattle.axis_roots.specs.declared.answers.Found.{Found}
use Rattle.axis_roots.specs.declared.answers.Found.TheVariants.{Range, Absence}
use Rattle.axis_roots.specs.declared.answers.NsEntry.{NsEntry}
use Rattle.axis_roots.specs.Answers.{IsEntry, AreEntries}
use Rattle.frame_payloads.specs.Payloads.{max_payload}
use Rattle.frame_payloads.specs.codec.Texts.{path_bytes, list_bytes}
use Rattle.namespace_id.specs.Shares.{share_bytes}
use Rattle.frame_payloads.specs.kinds.Names.{most_entries, most_shares_shown, is_long_entry, is_long_answer, found_bytes, entry_bytes, names_payload}
use Rattle.frame_payloads.proofs.Fields.Digests.{length-digest_bytes}
use Rattle.frame_payloads.proofs.Fields.Shares.{length-share_bytes}
use Rattle.frame_payloads.proofs.Fields.Lengths.{texts_few}
use Rattle.frame_payloads.proofs.Fields.Short.{all_short}
use Rattle.frame_payloads.proofs.Forms.Founds.{IsWritable}
use Rattle.frame_payloads.proofs.Forms.Entries.{IsShortEntry}

-- the most bytes of what is found in a row, and of an entry
abbrev most_found : ℕ
most_found = 6 + share_size * most_shares_shown + digest_size * most_nodes

abbrev most_entry : ℕ
most_entry = 2 + most_found

-- what is found in a row has no more
found_few : (found : Found) → IsWritable found → length (found_bytes found) ≤ most_found
found_few (Range start shares nodes) is =
    let few : length shares ≤ most_shares_shown = ltb-false most_shares_shown (length shares) is.1 in
    omega (arith, few, is.0.2, length-append (share_bytes shares) (path_bytes nodes), length-share_bytes shares is.0.1, length-digest_bytes nodes is.0.3)
found_few (Absence pos leaf nodes) is =
    omega (arith, is.0.2, is.0.1.size_is, length-append leaf.0 (path_bytes nodes), length-digest_bytes nodes is.0.3)

-- nor has an entry
entry_few : (e : NsEntry) → IsShortEntry e → length (entry_bytes e) ≤ most_entry
entry_few e is =
    let found : length (found_bytes e.found) ≤ most_found = found_few e.found (is.0.found, is.1) in
    omega arith

-- an answer that isn't too long has a payload within its limit
pub names_few : (name : Namespace) (answer : List NsEntry) → IsNamespace name → AreEntries answer → is_long_answer answer ≡ false → length (names_payload name answer) ≤ max_payload
names_few name answer is are short =
    let parts = or_parts (ltb most_entries (length answer)) (list_any is_long_entry answer) short in
    let few : length answer ≤ most_entries = ltb-false most_entries (length answer) parts.0 in
    omega (arith, few, is.size_is, texts_few entry_bytes IsShortEntry most_entry entry_few answer (all_short IsEntry is_long_entry answer are parts.1), length-append name.0 (list_bytes w16 entry_bytes answer))
