use Rattle.std.proofs.Common.{[], refl}
use Rattle.std.proofs.lemmas.List.{map-set, get_or-map}
use Rattle.gas_model.proofs.incidence.note.Goals as goal

pub returns : goal.returns
returns c =
    rw (map-set (λ v. v.items) c.args.lists.now.items c.args.node c.push.new.self, c.in_ok-push.ensures.ok, c.index_mut.ensures.value, get_or-map (λ v. v.items) c.args.lists.now.items c.args.node c.index_mut.result.now [] c.requires) refl
