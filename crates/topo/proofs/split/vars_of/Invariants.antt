use Rattle.std.proofs.Common.{◌≡◌, ◌++◌, map, take}
use Rattle.base_types.specs.declared.variables.Var.TheVariants.{Flow, Square}
use Rattle.topo.proofs.split.vars_of.Given as goal

abbrev pub invariant-loop-arc : goal.invariant-loop-arc
invariant-loop-arc l = l.vars.items ≡ map Flow (take l.arc-index l.flows)

abbrev pub invariant-loop-node : goal.invariant-loop-node
invariant-loop-node l = l.vars.items ≡ map Flow l.flows ++ map Square (take l.node-index l.squares)
