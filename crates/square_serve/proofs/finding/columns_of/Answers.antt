use Rattle.std.proofs.Common.{◌≡◌, ◌∙◌, ◌+◌, ◌<◌, length, take, map, not, sym, ap, subst, arith}
use Rattle.std.proofs.lemmas.List.{get_or_default, get_or-map, length-map, take_all}
use Rattle.namespace_id.specs.Names.{parity}
use Rattle.namespace_id.specs.Shares.{name_in}
use Rattle.axis_roots.specs.Lines.{blank}
use Rattle.nmt_tree.specs.Spans.{name_at}
use Rattle.square_serve.specs.declared.finding.Columns.{Columns}
use Rattle.square_serve.specs.Serving.{count_below, count_same}
use Rattle.square_serve.proofs.Serving.CountLemmas.{AreCounted, one_below, one_same, one_other}
use Rattle.square_serve.proofs.finding.columns_of.Goals.{then-not-is_at_most, else-not-is_at_most+then-eq, else-not-is_at_most+else-eq}
use Rattle.square_serve.proofs.finding.columns_of.Goals as goal

-- the columns so far, of which there are fewer than all
abbrev IsCountedTo : (c : goal.Joined-not-is_at_most) → Columns → Type 0
IsCountedTo c x = AreCounted c.args.namespace.now (map name_in c.args.shares.now) (c.loop-col.col + 1) x.start x.count

-- the column is one of the row
within : (c : goal.Joined-not-is_at_most) → c.loop-col.col < length (map name_in c.args.shares.now)
within c = omega (arith, c.loop-col-test.true, length-map c.args.shares.now name_in)

-- and the namespace that was read is that of its share
named : (c : goal.Joined-not-is_at_most) → c.namespace-name.result ≡ name_at (map name_in c.args.shares.now) c.loop-col.col
named c =
    c.namespace-name.ensures ∙ ap name_in (get_or_default c.args.shares.now c.loop-col.col _ blank (omega (arith, c.loop-col-test.true)))
    ∙ sym (get_or-map name_in c.args.shares.now c.loop-col.col blank parity (omega (arith, c.loop-col-test.true)))

pub loop-col-preserved : goal.loop-col-preserved
loop-col-preserved c = elim c.if-not-is_at_most.branch [
  | then-not-is_at_most w ↦ subst (IsCountedTo c) (sym w.columns-is) (one_below _ _ _ _ _ _ (within c) (named c) (ap not (sym w.if-not-is_at_most.ensures)) c.loop-col.invariant)
  | else-not-is_at_most+then-eq w ↦
      subst (IsCountedTo c) (sym w.columns-is) (one_same _ _ _ _ _ _ (within c) (named c) (ap not (sym w.if-not-is_at_most.ensures)) (sym w.if-eq.ensures) c.loop-col.invariant)
  | else-not-is_at_most+else-eq w ↦
      subst (IsCountedTo c) (sym w.columns-is) (one_other _ _ _ _ _ _ (within c) (named c) (ap not (sym w.if-not-is_at_most.ensures)) (sym w.if-eq.ensures) c.loop-col.invariant)
]

-- all columns were passed
all : (c : goal.After-loop-col) → take c.loop-col.col (map name_in c.args.shares.now) ≡ map name_in c.args.shares.now
all c = take_all c.loop-col.col (map name_in c.args.shares.now) (omega (arith, c.loop-col-test.false, length-map c.args.shares.now name_in))

pub returns-clause-start : goal.returns-clause-start
returns-clause-start c = c.loop-col.invariant.below_is ∙ ap (count_below c.args.namespace.now) (all c)

pub returns-clause-count : goal.returns-clause-count
returns-clause-count c = c.loop-col.invariant.same_is ∙ ap (count_same c.args.namespace.now) (all c)
