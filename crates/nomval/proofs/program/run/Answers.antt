use Rattle.nomval.proofs.Clauses as clauses
use Rattle.nomval.proofs.program.run.Goals as goal

pub returns : goal.returns
returns g c =
    let ran = c.carry_out.ensures in
    record {
      accepted = clauses.accepted _ _ _ _ _ _ ran;
      rejected = clauses.rejected _ _ _ _ _ _ ran;
      undecided = clauses.undecided _ _ _ _ _ _ ran;
      written = clauses.written _ _ _ _ _ _ ran;
      kept = clauses.kept _ _ _ _ _ _ ran;
      broken = clauses.broken _ _ _ _ _ _ ran;
      passes = clauses.passes _ _ _ _ _ _ ran;
      not_refutation = clauses.not_refutation _ _ _ _ _ _ ran;
      says = clauses.says _ _ _ _ _ _ ran;
      answers = clauses.answers _ _ _ _ _ _ ran;
      own = clauses.own _ _ _ _ _ _ ran;
      usage = clauses.usage _ _ _ _ _ _ ran;
      bad_input = clauses.bad_input _ _ _ _ _ _ ran;
      too_long = clauses.too_long _ _ _ _ _ _ ran;
      held = clauses.held _ _ _ _ _ _ ran;
      read_fault = clauses.read_fault _ _ _ _ _ _ ran;
      read_order = clauses.read_order _ _ _ _ _ _ ran;
      write_fault = clauses.write_fault _ _ _ _ _ _ ran;
      unwritten = clauses.unwritten _ _ _ _ _ _ ran;
      unread = clauses.unread _ _ _ _ _ _ ran;
      no_retry = clauses.no_retry _ _ _ _ _ _ ran;
      finished = clauses.finished _ _ _ _ _ _ ran;
      untouched = clauses.untouched _ _ _ _ _ _ ran;
      refused = clauses.refused _ _ _ _ _ _ ran;
      silent = clauses.silent _ _ _ _ _ _ ran;
      part = clauses.part _ _ _ _ _ _ ran;
      others = clauses.others _ _ _ _ _ _ ran;
      no_command = clauses.no_command _ _ _ _ _ _ ran;
      counts = clauses.counts _ _ _ _ _ _ ran;
      due = clauses.due _ _ _ _ _ _ ran;
      due_usage = clauses.due_usage _ _ _ _ _ _ ran;
      complete = clauses.complete _ _ _ _ _ _ ran;
    }
