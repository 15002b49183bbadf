use Rattle.std.proofs.Common.{◌≡◌, ◌++◌, true, take}
use Rattle.std.specs.List.{flat_map, list_all}
use Rattle.tree_cert.specs.declared.line.Line.TheVariants as lines
use Rattle.tree_cert.specs.Spelling.{spelling, is_spelled}
use Rattle.tree_pool.proofs.walk.put_steps.Given as goal

abbrev pub invariant-loop-step : goal.invariant-loop-step
invariant-loop-step l = record {
  text : l.out ≡ l.fn.out ++ flat_map (λ step. spelling (lines.Step step)) (take l.step-index l.steps);
  spelled : list_all (λ step. is_spelled (lines.Step step)) (take l.step-index l.steps) ≡ true;
}
