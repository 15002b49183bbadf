use Rattle.std.proofs.Common.{◌∙◌, to_z-of_z, refl, Ok, Err}
use Rattle.tree_cert.specs.declared.fault.FaultKind.TheVariants.{WrongEnd}
use Rattle.tree_cert.specs.Reading.{line_of}
use Rattle.tree_cert.specs.Texts.{told, lines_in, Fails}
use Rattle.tree_rules.specs.Branches.{rules_of}
use Rattle.tree_cert.specs.declared.fault.TreeFault.TheVariants as fault
use Rattle.tree_check.specs.Reading.{place_of}
use Rattle.tree_check.specs.Verdicts.{passing}
use Rattle.element_laws.proofs.ScaledFits.{scale_fits}
use Rattle.tree_check.proofs.Judging.{lines_cut, lines_none, first_stop, line_stop, text_ends, text_breaks, answered, answered_stop, not_ended, ended}
use Rattle.tree_check.proofs.check.judge.Goals as goal

pub returns-in-Err-clause-exact : goal.returns-in-Err-clause-exact
returns-in-Err-clause-exact c =
    let p = c.args.p.now in
    let text = c.args.text.now in
    answered_stop p text c.stopped_at.result c.in-Err.stop 1 c.stopped_at.ensures
    (λ fault e. first_stop (rules_of p) text (told (line_of c.in-Some.piece.now)) (lines_in c.in-Some.rest.now) fault (lines_cut text c.in-Some.piece.now c.in-Some.rest.now c.in-Some.ensures.piece) (rw e at (c.in-Err.ensures p)))

pub opening-requires : goal.opening-requires
opening-requires c =
    let scale = (c.in-Ok.ensures c.args.p.now).1 in
    simp (to_z-of_z, scale_fits c.in-Ok.scale scale) scale

pub returns-in-Err-take_line-clause-exact : goal.returns-in-Err-take_line-clause-exact
returns-in-Err-take_line-clause-exact c =
    let p = c.args.p.now in
    let text = c.args.text.now in
    let n = c.in-Some-next_line.ensures in
    let after = c.in-Some-next_line.after.now in
    let l = c.loop-given in
    answered_stop p text c.stopped_at-in-Err-take_line.result c.in-Err-take_line.stop l.number c.stopped_at-in-Err-take_line.ensures
    (λ fault e. l.invariant.0 ∙ line_stop (rules_of p) (place_of p l.r) l.number l.first_open (told (line_of n.piece)) l.rest.now (lines_in after) fault (lines_cut l.rest.now n.piece after n.first) (rw e at (c.in-Err-take_line.ensures.said (line_of n.piece) n.exact)))

pub returns-in-Ended-clause-exact : goal.returns-in-Ended-clause-exact
returns-in-Ended-clause-exact c =
    let p = c.args.p.now in
    let text = c.args.text.now in
    let l = c.loop-given in
    answered p text (Ok c.verdict_of.result) (passing l.first_open) c.verdict_of.ensures
    (l.invariant.0 ∙ text_ends (rules_of p) (place_of p l.r) l.number l.first_open l.rest.now (lines_none l.rest.now c.in_default-next_line.ensures) (ended p l.r c.in-Ended.is))

pub returns : goal.returns
returns c =
    let p = c.args.p.now in
    let text = c.args.text.now in
    let l = c.loop-given in
    record {
      exact = answered p text (Err (fault.WrongEnd l.number)) (Fails l.number WrongEnd) refl
          (l.invariant.0 ∙ text_breaks (rules_of p) (place_of p l.r) l.number l.first_open l.rest.now (lines_none l.rest.now c.in_default-next_line.ensures) (not_ended p l.r c.in_default-mark.not-Ended));
      within = tt;
    }
