use Rattle.std.proofs.Common.{[], Err, refl, rules, ap}
use Rattle.da_status.specs.declared.status.Status.TheVariants.{Done}
use Rattle.da_files.specs.Frames.{WritesText}
use Rattle.da_serving.specs.Transactions.{Unlays}
use Rattle.da_status.proofs.EndLemmas.{once_within, once_request}
use Rattle.da_serving.proofs.TransactionsLemmas.{list_written, list_long, unlays_list}
use Rattle.da_serving.proofs.transactions.unlay.Goals as goal

-- what is written is the spelling of the square's list
pub returns-in-Ok-write_frame : goal.returns-in-Ok-write_frame
returns-in-Ok-write_frame g c =
    let list = c.in-Ok.list.items in
    once_within (WritesText Done c.deref.result.now) (Unlays c.args.square.now) _ _ _ _ _ _
    (λ w s h. unlays_list c.args.square.now list c.in-Ok.ensures.first c.in-Ok.ensures.list w s
    (list_written list _ _ c.deref.result.now c.new-text.ensures.items c.in-Ok-write_frame.ensures.written c.deref.ensures.value w s h)) c.put.ensures

-- the list has none
pub returns-in-Err-Unspellable : goal.returns-in-Err-Unspellable
returns-in-Err-Unspellable g c =
    let list = c.in-Ok.list.items in
    once_request (Unlays c.args.square.now) _ _ _ _ refl
    (unlays_list c.args.square.now list c.in-Ok.ensures.first c.in-Ok.ensures.list [] _
    (list_long list (c.in-Err-Unspellable.ensures.unspellable.0 (ap Err c.in-Err-Unspellable.field-0-is)))) refl

-- the square is laid out of no list
pub returns-in-Err : goal.returns-in-Err
returns-in-Err g c = record { ends = search rules; late = λ e. refl }
