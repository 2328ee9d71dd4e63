use Rattle.std.proofs.Common.{◌∙◌, ℕ, ◌-◌, ◌+◌, ◌≤◌, List, length, get_or, set, Option, option_map, sym, ap, subst, arith}
use Rattle.std.proofs.lemmas.List.{length-set}
use Rattle.namespace_id.specs.Answers.{Gives}
use Rattle.proto_fields.specs.Fields.{ValueParts, other_value}
use Rattle.proto_fields.specs.Values.{value_parts}
use Rattle.proto_fields.proofs.Options.{gives_none}
use Rattle.proto_fields.proofs.Readers.{tag_shorter}
use Rattle.proto_fields.proofs.GroupLemmas.{value_reader, value_at-plain, value_at-closed, value_at-group}
use Rattle.proto_fields.proofs.OpenLemmas.{behind_one, behind_all, open_begins, open_done, open_closes, open_crossed, open_untagged, open_stops, open_goes, open_more}
use Rattle.proto_fields.proofs.values.+groups.Goals as goal

-- ---- what follows a group

-- it is open
pub behind_group-loop-tag-init : goal.behind_group-loop-tag-init
behind_group-loop-tag-init t c = record {
  few = omega arith;
  kept = omega arith;
  room = omega arith;
  same = open_begins c.args.most _ c.args.number c.args.bytes.now;
}

-- the end of another one
pub behind_group-returns-then-tag-inner : goal.behind_group-returns-then-tag-inner
behind_group-returns-then-tag-inner t c =
    sym c.loop-tag.invariant.same
    ∙ open_crossed c.args.most c.loop-tag.outer c.loop-tag.inner c.loop-tag.depth c.loop-tag.rest.now (c.in-Some.tag, c.in-Some.after.now)
    c.in-Some.ensures c.in-GroupEnd.is (omega arith)

-- its end
pub behind_group-returns-then-depth-eq0 : goal.behind_group-returns-then-depth-eq0
behind_group-returns-then-depth-eq0 t c =
    sym c.loop-tag.invariant.same
    ∙ open_done c.args.most c.loop-tag.outer c.loop-tag.inner c.loop-tag.depth c.loop-tag.rest.now (c.in-Some.tag, c.in-Some.after.now)
    c.in-Some.ensures c.in-GroupEnd.is (omega arith) (omega arith)

-- a tag takes a byte
pub behind_group-loop-tag-smaller-in-GroupEnd : goal.behind_group-loop-tag-smaller-in-GroupEnd
behind_group-loop-tag-smaller-in-GroupEnd t c =
    omega (arith, tag_shorter c.loop-tag.rest.now (c.in-Some.tag, c.in-Some.after.now) c.in-Some.ensures)

-- one in it ends
pub behind_group-loop-tag-preserved-in-GroupEnd : goal.behind_group-loop-tag-preserved-in-GroupEnd
behind_group-loop-tag-preserved-in-GroupEnd t c = record {
  few = omega arith;
  kept = omega arith;
  room = omega arith;
  same = ap (λ (at : ℕ). behind_all c.args.most c.loop-tag.outer (c.loop-tag.depth - 1)
      (behind_one (c.args.most - (c.loop-tag.depth - 1)) (get_or c.loop-tag.outer at 0) c.in-Some.after.now)) c.from.ensures
      ∙ sym (open_closes c.args.most c.loop-tag.outer c.loop-tag.inner c.loop-tag.depth c.loop-tag.rest.now (c.in-Some.tag, c.in-Some.after.now)
      c.in-Some.ensures c.in-GroupEnd.is (omega arith) (omega arith))
      ∙ c.loop-tag.invariant.same;
}

-- a tag takes a byte
pub behind_group-loop-tag-smaller-then-depth-lt-LEVELS : goal.behind_group-loop-tag-smaller-then-depth-lt-LEVELS
behind_group-loop-tag-smaller-then-depth-lt-LEVELS t c =
    omega (arith, tag_shorter c.loop-tag.rest.now (c.in-Some.tag, c.in-Some.after.now) c.in-Some.ensures)

-- one opens in it
pub behind_group-loop-tag-preserved-then-depth-lt-LEVELS : goal.behind_group-loop-tag-preserved-then-depth-lt-LEVELS
behind_group-loop-tag-preserved-then-depth-lt-LEVELS t c = record {
  few = omega arith;
  kept = omega arith;
  room = length-set c.loop-tag.outer c.from-then-depth-lt-LEVELS.result c.loop-tag.inner ∙ c.loop-tag.invariant.room;
  same = ap (λ (at : ℕ). behind_all c.args.most (set c.loop-tag.outer at c.loop-tag.inner) (c.loop-tag.depth + 1)
      (behind_one (c.args.most - (c.loop-tag.depth + 1)) c.in-Some.tag.number c.in-Some.after.now)) c.from-then-depth-lt-LEVELS.ensures
      ∙ sym (open_more c.args.most c.loop-tag.outer c.loop-tag.inner c.loop-tag.depth c.loop-tag.rest.now (c.in-Some.tag, c.in-Some.after.now)
      c.in-Some.ensures (c.is_start.ensures c.if-is_start.true) (omega arith) (omega arith))
      ∙ c.loop-tag.invariant.same;
}

-- no value is behind the tag
pub behind_group-returns-in_err-_value : goal.behind_group-returns-in_err-_value
behind_group-returns-in_err-_value t c =
    gives_none _ c.from_residual.result _ c.from_residual.ensures
    (sym c.loop-tag.invariant.same
    ∙ open_stops c.args.most c.loop-tag.outer c.loop-tag.inner c.loop-tag.depth c.loop-tag.rest.now (c.in-Some.tag, c.in-Some.after.now)
    c.in-Some.ensures c.in_default-wire.not-GroupEnd c.in_err-_value.ensures)

-- a tag takes a byte
pub behind_group-loop-tag-smaller : goal.behind_group-loop-tag-smaller
behind_group-loop-tag-smaller t c =
    let behind : length c.in_ok-_value.behind.now ≤ length c.in-Some.after.now =
    (value_reader (c.args.most - c.loop-tag.depth) c.in-Some.tag).shorter c.in-Some.after.now (value_parts c.in_ok-_value._value, c.in_ok-_value.behind.now)
    c.in_ok-_value.ensures in
    omega (arith, tag_shorter c.loop-tag.rest.now (c.in-Some.tag, c.in-Some.after.now) c.in-Some.ensures)

-- it goes on behind the value
pub behind_group-loop-tag-preserved : goal.behind_group-loop-tag-preserved
behind_group-loop-tag-preserved t c = record {
  few = omega arith;
  kept = omega arith;
  room = omega arith;
  same = sym (open_goes c.args.most c.loop-tag.outer c.loop-tag.inner c.loop-tag.depth c.loop-tag.rest.now (c.in-Some.tag, c.in-Some.after.now)
      (value_parts c.in_ok-_value._value, c.in_ok-_value.behind.now) c.in-Some.ensures c.in_default-wire.not-GroupEnd c.in_ok-_value.ensures)
      ∙ c.loop-tag.invariant.same;
}

-- no tag is there
pub behind_group-returns : goal.behind_group-returns
behind_group-returns t c =
    sym c.loop-tag.invariant.same
    ∙ open_untagged c.args.most c.loop-tag.outer c.loop-tag.inner c.loop-tag.depth c.loop-tag.rest.now c.in_default.ensures

-- ---- values

-- no group
pub value_at-returns-in_default : goal.value_at-returns-in_default
value_at-returns-in_default t c =
    subst (λ (read : Option (ValueParts × List ℕ)). Gives (λ x. (value_parts x.0, x.1.now)) c.plain_value_at.result read)
    (sym (value_at-plain c.args.most c.args.tag c.args.bytes.now c.in_default.not-GroupStart)) c.plain_value_at.ensures

-- one too many
pub value_at-returns-then-most-eq0 : goal.value_at-returns-then-most-eq0
value_at-returns-then-most-eq0 t c = value_at-closed c.args.most c.args.tag c.args.bytes.now c.in-GroupStart.is (omega arith)

-- one that doesn't end
pub value_at-returns-in_err-rest : goal.value_at-returns-in_err-rest
value_at-returns-in_err-rest t c =
    gives_none _ c.from_residual.result _ c.from_residual.ensures
    (value_at-group c.args.most c.args.tag c.args.bytes.now c.in-GroupStart.is (omega arith)
    ∙ ap (option_map (λ rest. (other_value, rest))) c.in_err-rest.ensures)

-- one that does
pub value_at-returns : goal.value_at-returns
value_at-returns t c =
    value_at-group c.args.most c.args.tag c.args.bytes.now c.in-GroupStart.is (omega arith)
    ∙ ap (option_map (λ rest. (other_value, rest))) c.in_ok-rest.ensures
