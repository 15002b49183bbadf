use Rattle.std.proofs.Common.{◌≡◌, ◌++◌, ◌&&◌, not, map, take}
use Rattle.std.specs.List.{filter}
use Rattle.topo.specs.Roles.{has_tree_role}
use Rattle.topo.specs.Walks.{is_by}
use Rattle.topo.proofs.walking.go_on.Given as goal

abbrev pub invariant-loop-a : goal.invariant-loop-a
invariant-loop-a l = l.walk.items ≡ l.initial.walk.items ++ map (λ a. (a, l.node)) (filter (λ a. has_tree_role l.roles a && not (is_by l.by a)) (take l.a-index l.at))
