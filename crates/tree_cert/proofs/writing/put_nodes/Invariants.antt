use Rattle.std.proofs.Common.{◌≡◌, ◌∷◌, ◌++◌, true, take}
use Rattle.line_text.specs.Numerals.{numeral}
use Rattle.std.specs.List.{flat_map, list_all}
use Rattle.line_text.specs.Long.{fits_position}
use Rattle.tree_cert.proofs.writing.put_nodes.Given as goal

abbrev pub invariant-loop-node : goal.invariant-loop-node
invariant-loop-node l =
    record {
      text : l.out ≡ l.fn.out ++ flat_map (λ n. 32 ∷ numeral n) (take l.node-index l.nodes);
      fits : list_all fits_position (take l.node-index l.nodes) ≡ true;
    }
