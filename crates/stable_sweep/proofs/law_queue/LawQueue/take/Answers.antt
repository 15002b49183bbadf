use Rattle.std.proofs.Common.{◌∙◌, arith}
use Rattle.stable_sweep.proofs.LawQueues.{ahead_after, taken_first, later_taken}
use Rattle.stable_sweep.proofs.law_queue.LawQueue.take.Goals as goal

pub invariant_of-self : goal.invariant_of-self
invariant_of-self c = record {
  round_size = c.take_out.ensures.size ∙ c.self.invariant.round_size;
  later_size = c.self.invariant.later_size;
  round_is = c.take_out.ensures.queue;
  later_is = c.self.invariant.later_is;
  begun = let within = c.in-Some.ensures.within in omega (arith, within);
  ahead = ahead_after _ _ _ _ _ c.in-Some.ensures c.self.invariant.ahead c.take_out.ensures.held;
}

pub returns-in-Some-clause-value : goal.returns-in-Some-clause-value
returns-in-Some-clause-value c = (c.in-Some.ensures.within, rw (← c.self.view_is) (taken_first _ _ _ _ c.take_out.ensures.held c.in-Some.ensures.is))

pub returns-in-None-clause-value : goal.returns-in-None-clause-value
returns-in-None-clause-value c = rw (← c.self.view_is) (later_taken _ _ _ _ _ _ c.self.invariant c.in-None.ensures c.pop_front.ensures.value c.pop_front.ensures.size)
