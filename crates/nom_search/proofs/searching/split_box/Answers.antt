use Rattle.std.proofs.Common.{arith}
use Rattle.nom_search.proofs.Runs.{few_heads}
use Rattle.nom_search.proofs.Forking.{can_split}
use Rattle.nom_search.proofs.searching.split_box.Goals as goal

pub give_back-requires-2-clause-room : goal.give_back-requires-2-clause-room
give_back-requires-2-clause-room c =
    let few = few_heads c.args.p.now c.args.view.part.value c.args.fork c.requires.problem in
    let room = c.requires.room in
    omega arith

pub give_back-requires-2-clause-end : goal.give_back-requires-2-clause-end
give_back-requires-2-clause-end c = can_split c.args.p.now c.args.view c.args.fork c.requires.problem c.requires.origin.2.fits c.requires.fork c.requires.wide
