use Rattle.problem_answer.proofs.finding.left.Goals as goal

pub check_part-requires : goal.check_part-requires
check_part-requires c =
    let h = c.requires.2 in
    rw c.as_slice.ensures (h.first_open, h.passes)
