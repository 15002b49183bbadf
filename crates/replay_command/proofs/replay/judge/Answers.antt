use Rattle.std.proofs.Common.{◌≡◌, subst, pos, arith, to_z}
use Rattle.std.specs.Int.{w128}
use Rattle.std.proofs.lemmas.Int.{to_z_pos}
use Rattle.gas_model.specs.Near.{IsNear}
use Rattle.element_laws.specs.FirstBroken.{IsFirstBroken}
use Rattle.replay_command.proofs.Replaying.{broken_says}
use Rattle.replay_command.proofs.replay.judge.Goals as goal

pub returns-in-Some : goal.returns-in-Some
returns-in-Some c =
    let wide : to_z w128 c.args.tol ≡ pos c.args.tol = to_z_pos w128 c.args.tol (omega (arith, c.requires.limit)) in
    broken_says c.args.tol c.args.p.now c.args.setting.now c.in-Some.law c.broken.result
    (subst (λ t. IsFirstBroken c.args.p.now t c.args.setting.now c.in-Some.law) wide c.in-Some.ensures.first)
    (subst (λ t. IsNear c.args.p.now t c.args.setting.now → ⊥) wide c.in-Some.ensures.not_near)
    c.broken.ensures.status c.broken.ensures.note c.broken.ensures.texts
