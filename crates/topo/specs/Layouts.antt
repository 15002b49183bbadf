-- What a shape keeps.
use Rattle.std.specs.Prelude.{map}
use Rattle.topo.specs.declared.shape.Shape.TheInside.{Inside}
use Rattle.topo.specs.Shapes.{Layout}

abbrev pub layout : Inside → Layout
layout a = record {
  roots = a.roots.items;
  root_of = a.root_of.items;
  chords = a.chords.items;
  walk = a.walk.items;
  at_node = map (λ v. v.items) a.at_node.value.items;
  split_list = a.split_list.items;
}
