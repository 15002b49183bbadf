use Rattle.std.proofs.Common.{rules, ◌≡◌, ℕ, length, sym, subst, FitsSigned, to_z-of_z}
use Rattle.std.specs.Int.{w128}
use Rattle.probe_point.specs.Probes.{box_at}
use Rattle.probe_point.specs.Chords.{AreBelow}
use Rattle.probe_point.proofs.RootFacts.{rooted_step}
use Rattle.probe_point.proofs.tree_roots.root_squares.Goals as goal

pub loop-root-preserved : goal.loop-root-preserved
loop-root-preserved c =
    let fits : FitsSigned w128 c.root_square.result = search rules in
    let long : length c.loop-root.squares ≡ length c.args.squares.now = c.loop-root.auto.squares in
    let next = rooted_step (box_at c.args.boxes.now) c.args.roots.now c.args.squares.now c.loop-root.squares c.loop-root.root-index c.root_square.result (subst (λ (n : ℕ). AreBelow n c.args.roots.now) (sym long) c.requires.roots) c.loop-root-test.true c.root_square.ensures.value c.root_square.ensures.size c.loop-root.invariant in
    simp to_z-of_z next
