use Rattle.std.proofs.Common.{◌∙◌}
use Rattle.stable_sweep.proofs.Children.{leaves_all, none_cuts, settled_first}
use Rattle.stable_sweep.proofs.Sweeps.{extends_none, extends_trans, laws_smaller, settled_taken}
use Rattle.stable_sweep.proofs.Stable.{stable}
use Rattle.stable_sweep.proofs.sweep.settle_child.Goals as goal

pub laws-init : goal.laws-init
laws-init g c =
    let none = rw c.in_default.is at c.in_ok-closing.ensures.none in
    record {
      bounds = c.requires.bounds;
      size = c.wake.ensures.size;
      few = c.wake.ensures.few;
      filled = leaves_all _ _ _ c.requires.bounds c.requires.comes none.0;
      extends = extends_none _ _ _;
      settled = settled_first _ _ _ _ c.requires.comes c.wake.ensures.woken;
    }

pub settle_law-requires-clause-settled : goal.settle_law-requires-clause-settled
settle_law-requires-clause-settled g c = settled_taken _ _ _ _ _ c.laws.invariant.settled c.in-Some-take.ensures.value.1

pub returns-in-Some-2-clause-extends : goal.returns-in-Some-2-clause-extends
returns-in-Some-2-clause-extends g c = extends_trans _ _ _ _ _ _ _ c.laws.invariant.extends c.settle_law.ensures.extends

pub returns-in_err-closing-2-clause-extends : goal.returns-in_err-closing-2-clause-extends
returns-in_err-closing-2-clause-extends g c = extends_trans _ _ _ _ _ _ _ c.laws.invariant.extends c.settle_law.ensures.extends

pub laws-smaller : goal.laws-smaller
laws-smaller g c = laws_smaller _ _ _ _ _ _ _ (c.settle_law.ensures.size ∙ c.take.ensures.size) c.in-Some-take.ensures.value.1.less c.settle_law.ensures.falls c.settle_law.ensures.few

pub laws-preserved : goal.laws-preserved
laws-preserved g c = record {
  bounds = c.settle_law.ensures.bounds;
  size = c.settle_law.ensures.size ∙ (c.take.ensures.size ∙ c.laws.invariant.size);
  few = c.settle_law.ensures.few;
  filled = rw c.in_default-2.is at c.in_ok-closing-2.ensures.filled;
  extends = extends_trans _ _ _ _ _ _ _ c.laws.invariant.extends c.settle_law.ensures.extends;
  settled = rw c.in_default-2.is at c.in_ok-closing-2.ensures.settled;
}

pub returns-clause-settled : goal.returns-clause-settled
returns-clause-settled g c =
    let none = rw c.in_default.is at c.in_ok-closing.ensures.none in
    stable _ _ c.laws.invariant.bounds (rw c.in_default-take.ensures.value at c.laws.invariant.settled) c.laws.invariant.filled (none_cuts _ _ _ c.requires.comes none.1)
