use Rattle.std.proofs.Common.{[], ◌∷◌, ◌∙◌, sym, refl}
use Rattle.std.proofs.lemmas.Result.{err_from_is_err_and}
use Rattle.command_core.specs.declared.status.InputFile.TheVariants.{TreeFile}
use Rattle.command_core.specs.Gates.{any_bytes, gate_of, text_limit}
use Rattle.command_core.proofs.Parsing.{held_stands}
use Rattle.command_core.proofs.Walks.{reads_stop, reads_then}
use Rattle.problem_files.specs.Sources.{origin_of, problem_gates}
use Rattle.check_command.specs.Words.{words_of}
use Rattle.check_command.proofs.Checking.{checks_does}
use Rattle.check_command.proofs.check.CheckCommand.work.Goals as goal

pub returns-in_err-problem-clause-reads : goal.returns-in_err-problem-clause-reads
returns-in_err-problem-clause-reads g c =
    let self = c.args.self.now in
    let p = err_from_is_err_and c.from_residual.result c.from_residual.ensures.1 in
    rw (p.1, p.2) (reads_stop g.D.Desk.tells g.D.Desk.counts_exactly (problem_gates (origin_of self.source)) (gate_of TreeFile text_limit any_bytes self.tree.now ∷ []) (g.D.Desk.outside c.args.desk.now) (g.D.Desk.outside c.read.new.desk) _ c.in_err-problem.ensures.reads)

pub returns-in_err-tree-clause-reads : goal.returns-in_err-tree-clause-reads
returns-in_err-tree-clause-reads g c =
    let self = c.args.self.now in
    let p = err_from_is_err_and c.from_residual-in_err-tree.result c.from_residual-in_err-tree.ensures.1 in
    rw (p.1, p.2) (reads_then g.D.Desk.tells g.D.Desk.counts_exactly (problem_gates (origin_of self.source)) (gate_of TreeFile text_limit any_bytes self.tree.now ∷ []) (g.D.Desk.outside c.args.desk.now) (g.D.Desk.outside c.read.new.desk) (g.D.Desk.outside c.read_input.new.desk) _ c.in_ok-problem.ensures.reads c.in_err-tree.ensures.reads)

pub returns-clause-does : goal.returns-clause-does
returns-clause-does g c =
    let self = c.args.self.now in
    checks_does _ (words_of self) _ c.in_ok-problem.problem c.in_ok-tree.tree c.in_ok-done.done
    c.in_ok-problem.ensures.stands
    (λ t. held_stands text_limit any_bytes _ c.in_ok-tree.tree c.in_ok-tree.tree (sym (c.in_ok-problem.ensures.reads.files t self.tree.now) ∙ c.in_ok-tree.ensures.bytes t) c.in_ok-tree.ensures.within refl)
    (rw c.as_slice.ensures at c.in_ok-done.ensures)
