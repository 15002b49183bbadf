use Rattle.std.proofs.Common.{◌∙◌, ap, position}
use Rattle.std.specs.Str.{bytes_eq}
use Rattle.name_places.proofs.Indexed.{place_within}
use Rattle.name_places.proofs.positions.NamePlaces.place.Goals as goal

pub returns-clause-place : goal.returns-clause-place
returns-clause-place c = c.copied.ensures ∙ c.get.ensures.value ∙ c.self.invariant c.args.name.now ∙ ap (position (bytes_eq c.args.name.now)) c.self.view_is

pub returns-clause-within : goal.returns-clause-within
returns-clause-within c = rw (returns-clause-place c) (place_within (bytes_eq c.args.name.now) _)
