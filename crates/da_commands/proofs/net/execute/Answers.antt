use Rattle.std.proofs.Common.{◌∙◌, ◌∷◌, [], Err, length, refl, subst}
use Rattle.da_wire.specs.Frames.{frames_of}
use Rattle.da_script.specs.declared.playing.PlayError.{PlayError}
use Rattle.da_script.specs.declared.playing.PlayError.TheVariants.{Nodes as Large}
use Rattle.da_script.specs.Scripts.{bad_script}
use Rattle.da_script.specs.Plays.{items_in, Plays}
use Rattle.da_status.specs.declared.status.Asked.TheVariants.{Nodes}
use Rattle.da_status.specs.declared.status.Status.TheVariants.{Done, BadInput, BadRequest}
use Rattle.da_files.specs.Contents.{contents_of, messages_file}
use Rattle.da_files.specs.Frames.{WritesText}
use Rattle.da_files.specs.Forms.{messages_judged}
use Rattle.da_commands.specs.Net.{script_file, Nets, net_judged, NetOf}
use Rattle.da_status.proofs.EndLemmas.{once_within, once_request}
use Rattle.da_files.proofs.FormLemmas.{refused_once, refused_more, last_fine, last_bad, once_in, once_over}
use Rattle.da_commands.proofs.Answering.NetLemmas.{nets_told, nets_refused}
use Rattle.da_commands.proofs.net.execute.Goals as goal

pub returns-in-Err : goal.returns-in-Err
returns-in-Err g c =
    let files = contents_of c.args.files.now in
    let bad = bad_script (length (items_in (frames_of (messages_file files)))) (script_file files) in
    refused_once (net_judged files) (NetOf files) _ _ _ _ (refused_more (messages_judged files) (bad ∷ []) _ c.in-Err.ensures.judged) refl

pub returns-in-Err-BadScript : goal.returns-in-Err-BadScript
returns-in-Err-BadScript g c =
    let files = contents_of c.args.files.now in
    let read = c.in-Ok.read in
    let plays = subst (λ (e : PlayError). Plays read.0 (frames_of read.1.now) c.file-script.result.now (Err e)) c.in-Err-BadScript.field-0-is c.in-Err-BadScript.ensures in
    refused_once (net_judged files) (NetOf files) _ _ _ (BadInput 2 c.in-Err-BadScript.at)
    (last_bad 0 (messages_judged files) _ c.in-Err-BadScript.at c.in-Ok.ensures.judged (rw (c.in-Ok.ensures.messages, c.file-script.ensures) at plays)) refl

-- the files are those that were read, and the network is too large
pub returns-in-Err-Nodes : goal.returns-in-Err-Nodes
returns-in-Err-Nodes g c =
    let files = contents_of c.args.files.now in
    let read = c.in-Ok.read in
    let raws = frames_of read.1.now in
    let script = c.file-script.result.now in
    let refused : Plays read.0 raws script (Err Large) =
    subst (λ (e : PlayError). Plays read.0 raws script (Err e)) c.in-Err-Nodes.field-0-is c.in-Err-Nodes.ensures in
    once_in (net_judged files) (NetOf files)
    (last_fine 0 (messages_judged files) _ c.in-Ok.ensures.judged (rw (c.in-Ok.ensures.messages, c.file-script.ensures) at refused.0))
    (once_over _ _ _ c.in-Ok.ensures.header (once_request _ _ _ _ (BadRequest Nodes) refl
    (rw (c.in-Ok.ensures.messages, c.file-script.ensures) at (nets_refused read.0 raws script refused.1)) refl))

-- all lines were made, and then written at once
pub returns-in-Ok-play : goal.returns-in-Ok-play
returns-in-Ok-play g c =
    let files = contents_of c.args.files.now in
    let read = c.in-Ok.read in
    let raws = frames_of read.1.now in
    let script = c.file-script.result.now in
    let played = once_within (WritesText Done c.deref.result.now) (Nets read.0 raws script) _ _ _ _ _ _
    (λ w status h. nets_told read.0 raws script c.in-Ok-play.text.items c.in-Ok-play.ensures.1 c.in-Ok-play.ensures.2 w status
    (h.0 ∙ c.deref.ensures.value, h.1)) c.put.ensures in
    once_in (net_judged files) (NetOf files)
    (last_fine 0 (messages_judged files) _ c.in-Ok.ensures.judged (rw (c.in-Ok.ensures.messages, c.file-script.ensures) at c.in-Ok-play.ensures.0))
    (once_over _ _ _ c.in-Ok.ensures.header (rw (c.in-Ok.ensures.messages, c.file-script.ensures) at played))
