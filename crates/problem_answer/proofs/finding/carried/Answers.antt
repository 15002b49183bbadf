use Rattle.problem_answer.proofs.NearKinds.{near_kinds}
use Rattle.problem_answer.proofs.finding.carried.Goals as goal

pub replay_back-requires-clause-stands : goal.replay_back-requires-clause-stands
replay_back-requires-clause-stands c =
    rw c.as_slice.ensures (c.args.setting.now, c.in_ok-text.ensures.stands (near_kinds c.args.p.now c.args.setting.now c.args.tol c.requires.near), c.requires.near)
