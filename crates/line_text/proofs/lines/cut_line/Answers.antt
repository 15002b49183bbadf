use Rattle.std.proofs.Common.{◌<◌, length, arith}
use Rattle.line_text.proofs.Cuts.{cut_at, uncut}
use Rattle.line_text.proofs.lines.cut_line.Goals as goal

pub returns-then-len-bytes : goal.returns-then-len-bytes
returns-then-len-bytes c = uncut c.args.bytes.now c.run_len-len.result c.run_len-len.ensures.len (omega (arith, c.if-len-bytes.true))

pub returns : goal.returns
returns c =
    let lt : c.run_len-len.result < length c.args.bytes.now = omega (arith, c.run_len-len.ensures.within, c.if-len-bytes.false) in
    rw (c.split_at.ensures.front, c.split_at-2.ensures.back) (cut_at c.args.bytes.now c.run_len-len.result c.run_len-len.ensures.len lt)
