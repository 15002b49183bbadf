use Rattle.std.proofs.Common.{arith, refl}
use Rattle.std.specs.Str.{bytes_eq}
use Rattle.std.proofs.Math.Path.{fun_ext}
use Rattle.name_places.specs.ByName.{look}
use Rattle.network.proofs.Kept.{kept_more, kept_all}
use Rattle.network.proofs.decisions.arc_words.Goals as goal

pub loop-arc-init : goal.loop-arc-init
loop-arc-init c = rw c.no_values-words.ensures (record { are = λ q. refl })

pub loop-arc-preserved : goal.loop-arc-preserved
loop-arc-preserved c =
    kept_more (λ id a. bytes_eq id a.id) (λ a. a.word) (look c.loop-arc.words) (look c.keep_first.new.values) c.args.arcs.now c.loop-arc.arc-index c.arc-item.result (omega (arith, c.loop-arc-test.true)) c.arc-item.is
    (λ q. rw c.as_str.ensures at c.in_ok-keep_first.ensures q) c.loop-arc.invariant

pub returns : goal.returns
returns c = fun_ext (kept_all (λ id a. bytes_eq id a.id) (λ a. a.word) (look c.loop-arc.words) c.args.arcs.now c.loop-arc.arc-index (omega (arith, c.loop-arc-test.false)) c.loop-arc.invariant)
