use Rattle.std.proofs.Common.{◌∙◌}
use Rattle.stable_sweep.proofs.LawQueues.{put_first, put_later, ahead_more}
use Rattle.stable_sweep.proofs.law_queue.LawQueue.put.Goals as goal

pub invariant_of-self-else-slot-self : goal.invariant_of-self-else-slot-self
invariant_of-self-else-slot-self c = record {
  round_size = c.push_back-else-slot-self.ensures.size ∙ c.self.invariant.round_size;
  later_size = c.self.invariant.later_size;
  round_is = c.push_back-else-slot-self.ensures.queue;
  later_is = c.self.invariant.later_is;
  begun = c.self.invariant.begun;
  ahead = ahead_more _ _ _ _ _ c.push_back-else-slot-self.ensures.held c.if-slot-self.false c.self.invariant.ahead;
}

pub returns-then-slot-self-clause-kept : goal.returns-then-slot-self-clause-kept
returns-then-slot-self-clause-kept c = rw (← c.self.view_is) (put_later _ _ _ _ _ c.push_back.ensures.value c.push_back.ensures.held).kept

pub returns-then-slot-self-clause-put : goal.returns-then-slot-self-clause-put
returns-then-slot-self-clause-put c = (put_later _ _ _ _ _ c.push_back.ensures.value c.push_back.ensures.held).put

pub returns-else-slot-self-clause-kept : goal.returns-else-slot-self-clause-kept
returns-else-slot-self-clause-kept c = rw (← c.self.view_is) (put_first _ _ _ _ _ c.push_back-else-slot-self.ensures.value c.push_back-else-slot-self.ensures.held).kept

pub returns-else-slot-self-clause-put : goal.returns-else-slot-self-clause-put
returns-else-slot-self-clause-put c = (put_first _ _ _ _ _ c.push_back-else-slot-self.ensures.value c.push_back-else-slot-self.ensures.held).put
