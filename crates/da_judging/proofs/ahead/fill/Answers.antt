use Rattle.std.proofs.Common.{◌∙◌, ap, ap₂}
use Rattle.namespace_id.specs.declared.namespaces.Namespace.{Namespace}
use Rattle.nmt_tree.specs.Digests.{leaf_digest}
use Rattle.nmt_tree.specs.Queues.{queued}
use Rattle.axis_roots.specs.Messages.{shown_leaf}
use Rattle.da_wire.specs.Reading.{raw_seen}
use Rattle.da_wire.specs.Frames.{frames_of}
use Rattle.da_judging.specs.Ahead.{IsLeafDigestOf}
use Rattle.da_judging.proofs.AheadLemmas.{leads_on, leads_all}
use Rattle.da_judging.proofs.ahead.fill.Goals as goal

-- no frame is left
pub returns-in_default : goal.returns-in_default
returns-in_default c = leads_all c.args.k (queued c.frames.queue) (frames_of c.frames.rest.now) (frames_of c.args.bytes.now) c.frames.invariant

-- the next one shows no leaf
pub returns-in_default-shown : goal.returns-in_default-shown
returns-in_default-shown c = leads_all c.args.k (queued c.frames.queue) (frames_of c.frames.rest.now) (frames_of c.args.bytes.now) c.frames.invariant

-- no more can wait
pub returns : goal.returns
returns c = leads_all c.args.k (queued c.frames.queue) (frames_of c.frames.rest.now) (frames_of c.args.bytes.now) c.frames.invariant

-- the leaf over the cell and the share of the next one is that of the sample, if it is one
pub frames-preserved : goal.frames-preserved
frames-preserved c =
    let share = c.in-Some-shown.share in
    let shown : IsLeafDigestOf c.args.k (leaf_digest c.leaf_namespace.result share) (raw_seen c.in-Some.frame) = λ m is.
    let parts = c.in-Some-shown.ensures.sample m is in
    ap (λ (name : Namespace). leaf_digest name share) c.leaf_namespace.ensures ∙ ap₂ (shown_leaf c.args.k) parts.0 parts.1 in
    leads_on c.args.k c.frames.queue c.add.new.self (leaf_digest c.leaf_namespace.result share) (raw_seen c.in-Some.frame)
    (frames_of c.frames.rest.now) (frames_of c.in-Some.after.now) (frames_of c.args.bytes.now)
    c.frames.invariant c.in-Some.ensures.frames c.add.ensures.ready c.add.ensures.waiting shown
