use Rattle.std.proofs.Common.{◌≡◌, refl, subst, length, Some}
use Rattle.std.specs.Prelude.{slice_get}
use Rattle.std.proofs.lemmas.Option.{slice_get_read}
use Rattle.stable_sweep.specs.Waiting.{Waits}
use Rattle.stable_sweep.proofs.PutBacks.{puts_flow}
use Rattle.stable_sweep.proofs.waiting.put_back_flow.Goals as goal

pub returns-clause-put : goal.returns-clause-put
returns-clause-put c =
    let row = c.index-arcs-arc.result in
    let here : slice_get c.args.p.now.arcs c.args.arc ≡ Some row = slice_get_read c.args.p.now.arcs (length c.args.p.now.arcs) c.args.arc row refl c.requires.arc (rw c.arcs.ensures.rows at c.index-arcs-arc.is) in
    puts_flow _ _ _ _ _ _ here
    (subst (Waits c.args.current c.put_back_arc.new.queue.held) c.min-first.ensures (record { is = λ n. c.put_back_arc.ensures.kept _ (c.put-2.ensures.kept _ (c.put.ensures.put n)) }))
    (subst (Waits c.args.current c.put_back_arc.new.queue.held) c.max-second.ensures (record { is = λ n. c.put_back_arc.ensures.kept _ (c.put-2.ensures.put n) }))
    c.put_back_arc.ensures.put
