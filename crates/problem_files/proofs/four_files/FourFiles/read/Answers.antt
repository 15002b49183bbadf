use Rattle.std.proofs.lemmas.Result.{err_from_is_err_and}
use Rattle.problem_files.specs.Sources.{names_of}
use Rattle.problem_files.proofs.Joining.{at_cdf, at_join, at_net, at_res, at_scn, join_is}
use Rattle.problem_files.proofs.four_files.FourFiles.read.Goals as goal

pub returns-in_err-net-clause-reads : goal.returns-in_err-net-clause-reads
returns-in_err-net-clause-reads g c =
    let p = err_from_is_err_and c.from_residual.result c.from_residual.ensures.1 in
    rw (p.1, p.2) (at_net g.D.Desk.tells g.D.Desk.counts_exactly (names_of c.args.self) (g.D.Desk.outside c.args.desk.now) (g.D.Desk.outside c.read_net_file.new.desk) _ c.in_err-net.ensures.reads)

pub returns-in_err-scn-clause-reads : goal.returns-in_err-scn-clause-reads
returns-in_err-scn-clause-reads g c =
    let p = err_from_is_err_and c.from_residual-in_err-scn.result c.from_residual-in_err-scn.ensures.1 in
    rw (p.1, p.2) (at_scn g.D.Desk.tells g.D.Desk.counts_exactly (names_of c.args.self) (g.D.Desk.outside c.args.desk.now) (g.D.Desk.outside c.read_net_file.new.desk) (g.D.Desk.outside c.read_scn_file.new.desk) _ c.in_ok-net.ensures.reads c.in_err-scn.ensures.reads)

pub returns-in_err-cdf-clause-reads : goal.returns-in_err-cdf-clause-reads
returns-in_err-cdf-clause-reads g c =
    let p = err_from_is_err_and c.from_residual-in_err-cdf.result c.from_residual-in_err-cdf.ensures.1 in
    rw (p.1, p.2) (at_cdf g.D.Desk.tells g.D.Desk.counts_exactly (names_of c.args.self) (g.D.Desk.outside c.args.desk.now) (g.D.Desk.outside c.read_net_file.new.desk) (g.D.Desk.outside c.read_scn_file.new.desk) (g.D.Desk.outside c.read_groups.new.desk) _ c.in_ok-net.ensures.reads c.in_ok-scn.ensures.reads c.in_err-cdf.ensures.reads)

pub returns-in_err-res-clause-reads : goal.returns-in_err-res-clause-reads
returns-in_err-res-clause-reads g c =
    let p = err_from_is_err_and c.from_residual-in_err-res.result c.from_residual-in_err-res.ensures.1 in
    rw (p.1, p.2) (at_res g.D.Desk.tells g.D.Desk.counts_exactly (names_of c.args.self) (g.D.Desk.outside c.args.desk.now) (g.D.Desk.outside c.read_net_file.new.desk) (g.D.Desk.outside c.read_scn_file.new.desk) (g.D.Desk.outside c.read_groups.new.desk) (g.D.Desk.outside c.read_res_file.new.desk) c.in_ok-net.ensures.reads c.in_ok-scn.ensures.reads c.in_ok-cdf.ensures.reads _ c.in_err-res.ensures.reads)

pub returns-clause-reads : goal.returns-clause-reads
returns-clause-reads g c =
    at_join g.D.Desk.tells g.D.Desk.counts_exactly (names_of c.args.self) (g.D.Desk.outside c.args.desk.now) (g.D.Desk.outside c.read_net_file.new.desk) (g.D.Desk.outside c.read_scn_file.new.desk) (g.D.Desk.outside c.read_groups.new.desk) (g.D.Desk.outside c.read_res_file.new.desk) c.in_ok-net.ensures.reads c.in_ok-scn.ensures.reads c.in_ok-cdf.ensures.reads c.in_ok-res.ensures.reads
    c.in_ok-net.net c.in_ok-scn.scn c.in_ok-cdf.cdf c.in_ok-res.res c.in_ok-net.ensures.stands c.in_ok-scn.ensures.stands c.in_ok-cdf.ensures.stands c.in_ok-res.ensures.stands _ c.join.ensures

pub returns-clause-stands : goal.returns-clause-stands
returns-clause-stands g c =
    join_is g.D.Desk.tells g.D.Desk.counts_exactly (names_of c.args.self) (g.D.Desk.outside c.args.desk.now) (g.D.Desk.outside c.read_net_file.new.desk) (g.D.Desk.outside c.read_scn_file.new.desk) (g.D.Desk.outside c.read_groups.new.desk) (g.D.Desk.outside c.read_res_file.new.desk) c.in_ok-net.ensures.reads c.in_ok-scn.ensures.reads c.in_ok-cdf.ensures.reads c.in_ok-res.ensures.reads
    c.in_ok-net.net c.in_ok-scn.scn c.in_ok-cdf.cdf c.in_ok-res.res c.in_ok-net.ensures.stands c.in_ok-scn.ensures.stands c.in_ok-cdf.ensures.stands c.in_ok-res.ensures.stands _ c.join.ensures
