use Rattle.std.proofs.Common.{ap, ◌∙◌, sym}
use Rattle.std.proofs.Common.{length}
use Rattle.command_core.specs.Meanings.{names}
use Rattle.command_core.proofs.Outs.{puts_at, puts_next, puts_stop}
use Rattle.command_core.proofs.ending.+write_outs.Goals as goal

pub returns-in-Ok : goal.returns-in-Ok
returns-in-Ok g t c =
    puts_at _ _ _ _ _ _ _ _ _ (ap names c.in-Some.ensures.cases.0) c.in-Some-split_first.ensures.cases.0
    (puts_next _ _ _ _ _ _ _ _ _ _ c.in-Ok.ensures.done c.write_out.ensures.others c.write_out.ensures.marks c.in-Ok.ensures.finished c.write_out.ensures.idle c.write_out.ensures.untouched c.write_out.ensures.said c.write_out.ensures.unread (λ t. c.in-Ok.ensures.unwritten t (λ h. cc)) c.write_out.ensures.counts c.write_outs.ensures)

pub returns-in-Err : goal.returns-in-Err
returns-in-Err g t c =
    puts_at _ _ _ _ _ _ _ _ _ (ap names c.in-Some.ensures.cases.0) c.in-Some-split_first.ensures.cases.0
    (puts_stop _ _ _ _ _ _ _ _ _ (sym (ap length (ap names c.in-Some.ensures.cases.0)) ∙ c.requires ∙ ap length c.in-Some-split_first.ensures.cases.0) c.in-Err.ensures.stopped c.write_out.ensures.others c.write_out.ensures.marks c.write_out.ensures.idle c.write_out.ensures.untouched c.write_out.ensures.said c.in-Err.ensures.cause c.write_out.ensures.unread c.in-Err.ensures.unwritten c.write_out.ensures.counts)
