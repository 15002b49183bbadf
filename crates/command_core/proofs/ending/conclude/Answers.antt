use Rattle.command_core.specs.declared.status.Stop.TheVariants as stop
use Rattle.command_core.proofs.Concluding.{wrote, concluded_spoken, concluded_fault, concluded_refusal}
use Rattle.command_core.proofs.ending.conclude.Goals as goal

pub returns-in-Ok-write_outs : goal.returns-in-Ok-write_outs
returns-in-Ok-write_outs g c =
    concluded_spoken _ _ _ _ _ _ c.in-Ok.done _
    (wrote _ _ _ _ _ _ c.in-Ok.done _ c.in-Ok.ensures.does c.in-Ok.ensures.reads c.outs.ensures (rw c.as_slice.ensures at c.in-Ok-write_outs.ensures))
    (rw c.as_slice-in-Ok-write_outs.ensures at c.speak.ensures)

pub returns-in-Err : goal.returns-in-Err
returns-in-Err g c =
    rw c.fault_status.ensures
    (concluded_fault _ _ _ _ _ _ c.in-Ok.done _ c.in-Err.stop c.in-Ok.ensures.does c.in-Ok.ensures.reads c.outs.ensures (rw c.as_slice.ensures at c.in-Err.ensures))

pub returns-in-Err-ReadFault : goal.returns-in-Err-ReadFault
returns-in-Err-ReadFault g c =
    concluded_refusal _ _ _ _ _ _ stop.ReadFault _ (rw c.in-Err-ReadFault.field-0-is at c.in-Err-ReadFault.ensures.reads) (λ h. cc) c.speak-in-Err-ReadFault.ensures

pub returns-in-Err-BadInput : goal.returns-in-Err-BadInput
returns-in-Err-BadInput g c =
    concluded_refusal _ _ _ _ _ _ (stop.BadInput c.in-Err-BadInput.file c.in-Err-BadInput.fault) _ (rw c.in-Err-BadInput.field-0-is at c.in-Err-BadInput.ensures.reads) (λ h. cc) c.speak-in-Err-BadInput.ensures

pub returns-in-Err-TooLong : goal.returns-in-Err-TooLong
returns-in-Err-TooLong g c =
    concluded_refusal _ _ _ _ _ _ (stop.TooLong c.in-Err-TooLong.file) _ (rw c.in-Err-TooLong.field-0-is at c.in-Err-TooLong.ensures.reads) (λ h. cc) c.speak-in-Err-TooLong.ensures
