use Rattle.tree_cert.specs.declared.line.Line.TheVariants as lines
use Rattle.tree_pool.proofs.Texts.{writes_none, writes_one}
use Rattle.tree_pool.proofs.walk.put_head.Goals as goal

pub returns-in_ok-write_line-in-Some : goal.returns-in_ok-write_line-in-Some
returns-in_ok-write_line-in-Some c = rw c.in-Some.is (writes_one c.args.out.now c.write_line.new.out (lines.Head c.in-Some.head) c.in_ok-write_line-in-Some.ensures.ok c.in_ok-write_line-in-Some.ensures.spelled)

pub returns-in-None : goal.returns-in-None
returns-in-None c = rw c.in-None.is (writes_none c.args.out.now)
