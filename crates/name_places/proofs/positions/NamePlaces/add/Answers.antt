use Rattle.std.proofs.Common.{◌≡◌, ◌∙◌, ap, sym, rules, not, is_some, length, None}
use Rattle.std.specs.List.{list_any}
use Rattle.std.specs.Str.{bytes_eq}
use Rattle.name_places.specs.ByName.{look}
use Rattle.name_places.proofs.Indexed.{any_position, index_push, none_there}
use Rattle.name_places.proofs.positions.NamePlaces.add.Goals as goal

pub returns-then-contains_key-clause-fresh : goal.returns-then-contains_key-clause-fresh
returns-then-contains_key-clause-fresh c =
    let name = c.args.name.now in
    let told : c.contains_key.result ≡ list_any (bytes_eq name) c.args.self.now =
    c.contains_key.ensures ∙ ap is_some (c.self.invariant name) ∙ any_position (bytes_eq name) _ ∙ ap (list_any (bytes_eq name)) c.self.view_is in
    ap not (sym c.if-contains_key.true ∙ told)

pub invariant_of-self-in-Ok : goal.invariant_of-self-in-Ok
invariant_of-self-in-Ok c =
    let absent : look c.self.inside.index c.args.name.now ≡ None = none_there _ (sym c.contains_key.ensures ∙ c.if-contains_key.false) in
    let next : c.len-place.result ≡ length c.self.inside.names.items = search rules in
    let index = index_push c.self.inside.index c.insert.new.self c.self.inside.names.items c.args.name c.len-place.result next absent c.self.invariant c.in-Ok.ensures.updates in
    rw c.in_ok-push.ensures.items index

pub returns-in-Ok-clause-fresh : goal.returns-in-Ok-clause-fresh
returns-in-Ok-clause-fresh c =
    let name = c.args.name.now in
    let told : c.contains_key.result ≡ list_any (bytes_eq name) c.args.self.now =
    c.contains_key.ensures ∙ ap is_some (c.self.invariant name) ∙ any_position (bytes_eq name) _ ∙ ap (list_any (bytes_eq name)) c.self.view_is in
    ap not (sym c.if-contains_key.false ∙ told)
