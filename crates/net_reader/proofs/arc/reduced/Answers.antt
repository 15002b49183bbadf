use Rattle.std.proofs.Common.{◌≡◌, ◌≤ℤ◌, rules, true, int_le, ◌+ℤ◌, ◌-ℤ◌, FitsSigned, w64, to_z-of_z}
use Rattle.integer_laws.proofs.Ring.{le_test}
use Rattle.net_reader.proofs.arc.reduced.Goals as goal

pub returns : goal.returns
returns c =
    let a : FitsSigned w64 c.args.inner.0 = search rules in
    let b : FitsSigned w64 c.args.inner.1 = search rules in
    let d : FitsSigned w64 c.args.reduction.0 = search rules in
    let e : FitsSigned w64 c.args.reduction.1 = search rules in
    let f : FitsSigned w64 c.args.loss_in.0 = search rules in
    let g : FitsSigned w64 c.args.loss_in.1 = search rules in
    let h : FitsSigned w64 c.args.loss_out.0 = search rules in
    let i : FitsSigned w64 c.args.loss_out.1 = search rules in
    let j : FitsSigned w64 (c.args.inner.0 +ℤ c.args.loss_in.0) = search rules in
    let k : FitsSigned w64 (c.args.inner.1 -ℤ c.args.loss_out.0) = search rules in
    let l : FitsSigned w64 (c.args.reduction.0 +ℤ c.args.loss_in.0) = search rules in
    let m : FitsSigned w64 ((c.args.reduction.0 +ℤ c.args.loss_in.0) +ℤ c.args.loss_out.0) = search rules in
    let n : FitsSigned w64 (c.args.reduction.1 +ℤ c.args.loss_in.1) = search rules in
    let o : FitsSigned w64 ((c.args.reduction.1 +ℤ c.args.loss_in.1) +ℤ c.args.loss_out.1) = search rules in
    let u : c.args.loss_out.0 ≤ℤ c.args.inner.1 = search rules in
    let t : int_le c.args.loss_out.0 c.args.inner.1 ≡ true = le_test c.args.loss_out.0 c.args.inner.1 u in
    simp (to_z-of_z, t)
