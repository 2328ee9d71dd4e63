use Rattle.std.proofs.Common.{◌≡◌, ◌∙◌, ◌+◌, [], List, ℕ, length, sym, ap, subst, refl, arith}
use Rattle.std.proofs.lemmas.Bool.{and_parts}
use Rattle.std.specs.List.{AllByRecursion}
use Rattle.share_split.specs.Blobs.{NamedBytes}
use Rattle.proto_fields.specs.Fields.{own_bytes}
use Rattle.proto_fields.specs.Values.{field_parts}
use Rattle.proto_fields.proofs.FieldLemmas.{field_is_shorter}
use Rattle.tx_list.specs.declared.checking.Checked.{Checked}
use Rattle.tx_list.specs.Reads.{payment_entries}
use Rattle.tx_list.specs.Walks.{with_entries, with_blobs, IsTakenEntry}
use Rattle.tx_list.proofs.EntryLemmas.{own_few, entries_step}
use Rattle.tx_list.proofs.KeptLemmas.{fields_go, kept_goes, last_goes, kept_stops, last_stops}
use Rattle.tx_list.proofs.JudgeLemmas.{unchecked, with-append, with-count, walk_judged}
use Rattle.tx_list.proofs.TakingLemmas.{entries_taken, all_split, blobs-append, blobs-none}
use Rattle.tx_list.proofs.taking.walk.Goals as goal

-- all is left
pub loop-field-init : goal.loop-field-init
loop-field-init c = record {
  fields = refl;
  type_id = λ fine. refl;
  tx = λ fine. refl;
  checked = λ fine. refl;
  few = omega arith;
  blobs = λ whole taken fine. ap (λ (blobs : List NamedBytes). with_blobs blobs (payment_entries c.args.bytes.now)) c.requires;
  taken = λ taken. entries_taken c.args.bytes.now taken;
}

-- a field takes a byte
pub with_field-is_kept-requires : goal.with_field-is_kept-requires
with_field-is_kept-requires c = record {
  room = omega (arith, field_is_shorter c.loop-field.rest.now c.in-Some.after.now (field_parts c.in-Some.field) c.in-Some.ensures, c.loop-field.invariant.few);
}

pub loop-field-smaller : goal.loop-field-smaller
loop-field-smaller c =
    omega (arith, field_is_shorter c.loop-field.rest.now c.in-Some.after.now (field_parts c.in-Some.field) c.in-Some.ensures)

-- one field more
pub loop-field-preserved : goal.loop-field-preserved
loop-field-preserved c =
    let so_far = c.loop-field.invariant in
    let bytes = c.args.bytes.now in
    let rest = c.loop-field.rest.now in
    let after = c.in-Some.after.now in
    let field = field_parts c.in-Some.field in
    let more = c.with_field-is_kept in
    let count : more.new.checked.count ≡ c.loop-field.checked.count + length (own_bytes 2 field) =
    ap (λ (one : Checked). one.count) more.ensures.checked ∙ with-count c.args.i c.loop-field.checked (own_bytes 2 field) in
    let shorter = field_is_shorter rest after field c.in-Some.ensures in
    record {
      fields = fields_go bytes rest after field so_far.fields c.in-Some.ensures;
      type_id = last_goes (own_bytes 3) [] c.loop-field.type_id.now c.bytes_or-type_id.result.now bytes rest after field so_far.fields so_far.type_id
          c.in-Some.ensures c.bytes_or-type_id.ensures;
      tx = last_goes (own_bytes 1) [] c.loop-field.tx.now c.bytes_or-tx.result.now bytes rest after field so_far.fields so_far.tx c.in-Some.ensures
          c.bytes_or-tx.ensures;
      checked = kept_goes (with_entries c.args.i) (with-append c.args.i) (own_bytes 2) unchecked c.loop-field.checked more.new.checked bytes rest after field
          so_far.fields so_far.checked c.in-Some.ensures more.ensures.checked;
      few = omega (arith, count, own_few 2 field, shorter, so_far.few);
      blobs = λ whole taken.
          let both = and_parts c.loop-field.is_whole more.result (sym c.both-is_whole.ensures ∙ whole) in
          let step = entries_step rest after field c.in-Some.ensures (so_far.fields ∙ taken.fields) in
          let own = (all_split (own_bytes 2 field) (payment_entries after) (subst (λ (l : List (List ℕ)). AllByRecursion IsTakenEntry l) step (so_far.taken taken))).0 in
          kept_goes with_blobs blobs-append (own_bytes 2) [] c.loop-field.blobs.items more.new.blobs.items bytes rest after field
          so_far.fields (so_far.blobs both.0 taken) c.in-Some.ensures (more.ensures.kept both.1 own);
      taken = λ taken.
          let step = entries_step rest after field c.in-Some.ensures (so_far.fields ∙ taken.fields) in
          (all_split (own_bytes 2 field) (payment_entries after) (subst (λ (l : List (List ℕ)). AllByRecursion IsTakenEntry l) step (so_far.taken taken))).1;
    }

-- none is left
pub returns-clause-judged : goal.returns-clause-judged
returns-clause-judged c =
    let so_far = c.loop-field.invariant in
    c.judged_by.ensures
    ∙ walk_judged c.args.i c.args.bytes.now c.loop-field.rest.now c.loop-field.type_id.now c.loop-field.checked so_far.fields so_far.type_id so_far.checked
    c.in_default.ensures

pub returns-clause-tx : goal.returns-clause-tx
returns-clause-tx c = λ taken.
    let so_far = c.loop-field.invariant in
    last_stops (own_bytes 1) [] c.loop-field.tx.now c.args.bytes.now c.loop-field.rest.now so_far.fields so_far.tx c.in_default.ensures taken.fields

pub returns-clause-blobs : goal.returns-clause-blobs
returns-clause-blobs c = λ whole taken.
    let so_far = c.loop-field.invariant in
    kept_stops with_blobs blobs-none (own_bytes 2) [] c.loop-field.blobs.items c.args.bytes.now c.loop-field.rest.now so_far.fields
    (so_far.blobs whole taken) c.in_default.ensures taken.fields
