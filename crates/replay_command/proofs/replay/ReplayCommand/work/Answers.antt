use Rattle.std.proofs.Common.{[], ◌∷◌, ◌++◌}
use Rattle.std.proofs.lemmas.Result.{err_from_is_err_and}
use Rattle.command_core.proofs.Walks.{reads_stop, reads_want}
use Rattle.replay_command.specs.Meaning.{setting_gate}
use Rattle.replay_command.specs.Words.{words_of}
use Rattle.problem_files.specs.Sources.{origin_of, problem_gates}
use Rattle.replay_command.proofs.Replaying.{replays_does, setting_before, setting_reads}
use Rattle.replay_command.proofs.replay.ReplayCommand.work.Goals as goal

pub returns-in_err-problem-clause-reads : goal.returns-in_err-problem-clause-reads
returns-in_err-problem-clause-reads g c =
    let self = c.args.self.now in
    let p = err_from_is_err_and c.from_residual.result c.from_residual.ensures.1 in
    rw (p.1, p.2) (reads_stop g.D.Desk.tells g.D.Desk.counts_exactly (problem_gates (origin_of self.source)) (setting_gate (origin_of self.source) self.setting.now ∷ []) (g.D.Desk.outside c.args.desk.now) (g.D.Desk.outside c.read.new.desk) _ c.in_err-problem.ensures.reads)

pub returns-in_err-setting-clause-reads : goal.returns-in_err-setting-clause-reads
returns-in_err-setting-clause-reads g c =
    let self = c.args.self.now in
    let p = err_from_is_err_and c.from_residual-in_err-setting.result c.from_residual-in_err-setting.ensures.1 in
    rw (p.1, p.2) (setting_reads g.D.Desk.tells g.D.Desk.counts_exactly (origin_of self.source) self.setting.now c.in_ok-problem.problem (g.D.Desk.outside c.args.desk.now) (g.D.Desk.outside c.read.new.desk) (g.D.Desk.outside c.read_setting_file.new.desk) _ c.in_ok-problem.ensures.reads c.in_ok-problem.ensures.stands c.in_err-setting.ensures.reads)

pub returns-in_err-done-clause-reads : goal.returns-in_err-done-clause-reads
returns-in_err-done-clause-reads g c =
    let self = c.args.self.now in
    let p = err_from_is_err_and c.from_residual-in_err-done.result c.from_residual-in_err-done.ensures.1 in
    rw (p.1, p.2)
    (reads_want g.D.Desk.tells g.D.Desk.counts_exactly (problem_gates (origin_of self.source) ++ setting_gate (origin_of self.source) self.setting.now ∷ []) (g.D.Desk.outside c.args.desk.now) (g.D.Desk.outside c.read_setting_file.new.desk)
    (setting_reads g.D.Desk.tells g.D.Desk.counts_exactly (origin_of self.source) self.setting.now c.in_ok-problem.problem (g.D.Desk.outside c.args.desk.now) (g.D.Desk.outside c.read.new.desk) (g.D.Desk.outside c.read_setting_file.new.desk) _ c.in_ok-problem.ensures.reads c.in_ok-problem.ensures.stands c.in_ok-setting.ensures.reads))

pub returns-clause-reads : goal.returns-clause-reads
returns-clause-reads g c =
    let self = c.args.self.now in
    setting_reads g.D.Desk.tells g.D.Desk.counts_exactly (origin_of self.source) self.setting.now c.in_ok-problem.problem (g.D.Desk.outside c.args.desk.now) (g.D.Desk.outside c.read.new.desk) (g.D.Desk.outside c.read_setting_file.new.desk) _ c.in_ok-problem.ensures.reads c.in_ok-problem.ensures.stands c.in_ok-setting.ensures.reads

pub returns-clause-does : goal.returns-clause-does
returns-clause-does g c =
    let self = c.args.self.now in
    replays_does g.D.Desk.tells (words_of self) (g.D.Desk.outside c.args.desk.now).files c.in_ok-problem.problem c.in_ok-setting.setting c.in_ok-done.done
    c.in_ok-problem.ensures.stands
    (λ t. setting_before (origin_of self.source) self.setting.now c.in_ok-problem.problem c.in_ok-setting.setting (g.D.Desk.outside c.args.desk.now) (g.D.Desk.outside c.read.new.desk) (c.in_ok-problem.ensures.reads.files t) (c.in_ok-problem.ensures.stands t) (c.in_ok-setting.ensures.stands t))
    (rw c.get.ensures.value at c.in_ok-done.ensures)
