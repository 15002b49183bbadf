use Rattle.std.proofs.Common.{◌≡◌, true, length}
use Rattle.std.specs.Str.Parse.{digits_value}
use Rattle.line_text.specs.Numerals.{is_numeral}
use Rattle.tree_cert.specs.Fields.{found}
use Rattle.tree_cert.specs.Reading.{nodes_at}
use Rattle.tree_cert.proofs.NodeLists.{more_at}
use Rattle.tree_cert.proofs.nodes.nodes_at.Given as goal

-- what is left to read gives the rest of the answer
abbrev pub invariant-loop-last : goal.invariant-loop-last
invariant-loop-last l =
    record {
      answer : found (nodes_at l.bytes) ≡ more_at (digits_value 10 l.last) l.nodes l.rest;
      digits : is_numeral l.last ≡ true;
    }

abbrev pub decreases-loop-last : goal.decreases-loop-last
decreases-loop-last l = length l.rest
