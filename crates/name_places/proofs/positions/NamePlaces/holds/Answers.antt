use Rattle.std.proofs.Common.{◌∙◌, ap, is_some}
use Rattle.std.specs.List.{list_any}
use Rattle.std.specs.Str.{bytes_eq}
use Rattle.name_places.proofs.Indexed.{any_position}
use Rattle.name_places.proofs.positions.NamePlaces.holds.Goals as goal

pub returns : goal.returns
returns c = c.contains_key.ensures ∙ ap is_some (c.self.invariant c.args.name.now) ∙ any_position (bytes_eq c.args.name.now) _ ∙ ap (list_any (bytes_eq c.args.name.now)) c.self.view_is
