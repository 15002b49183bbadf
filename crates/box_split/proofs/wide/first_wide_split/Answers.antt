use Rattle.std.proofs.Common.{◌≡◌, ℕ, length, below_more, sym, ap, ◌∙◌, arith, slice_index_or}
use Rattle.box_split.specs.Forks.{at_turn, is_wide, no_var}
use Rattle.box_split.proofs.Firsts.{first_some, first_none}
use Rattle.box_split.proofs.wide.first_wide_split.Goals as goal

pub returns-then-is_wide-clause-value : goal.returns-then-is_wide-clause-value
returns-then-is_wide-clause-value g c = sym (first_some (λ k. is_wide c.args.b.now (at_turn c.args.split.now c.args.turn k)) (length c.args.split.now) c.loop-k.k c.loop-k-test.true (ap (λ (i : ℕ). is_wide c.args.b.now (slice_index_or c.args.split.now i no_var)) (sym c.place_at.ensures.place) ∙ sym c.is_wide.ensures ∙ c.if-is_wide.true) c.loop-k.invariant)

pub returns-clause-value : goal.returns-clause-value
returns-clause-value g c = sym (first_none (λ k. is_wide c.args.b.now (at_turn c.args.split.now c.args.turn k)) (length c.args.split.now) (λ k h. c.loop-k.invariant k (omega arith)))

pub loop-k-preserved : goal.loop-k-preserved
loop-k-preserved g c = below_more _ _ c.loop-k.invariant (ap (λ (i : ℕ). is_wide c.args.b.now (slice_index_or c.args.split.now i no_var)) (sym c.place_at.ensures.place) ∙ sym c.is_wide.ensures ∙ c.if-is_wide.false)
