use Rattle.std.proofs.Common.{ap, ◌∙◌}
use Rattle.std.proofs.lemmas.Result.{err_from_is_err_and}
use Rattle.gas_desk.specs.Shelf.{held, shelf_files}
use Rattle.gas_desk.proofs.memory.MemDeskDesk.start_write.Goals as goal

pub returns-in_err-start_write-clause-kept : goal.returns-in_err-start_write-clause-kept
returns-in_err-start_write-clause-kept c =
    let p = err_from_is_err_and c.from_residual-in_err-start_write.result c.from_residual-in_err-start_write.ensures.1 in
    λ _. rw p.1 (λ n. ap (λ files. held files n) (c.in_err-start_write.ensures.err ∙ ap (λ d. shelf_files d.shelf) c.number_write.ensures.numbered ∙ ap shelf_files c.stop_writing.ensures))
