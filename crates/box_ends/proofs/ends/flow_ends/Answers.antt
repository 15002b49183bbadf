use Rattle.std.proofs.Common.{to_z-of_z}
use Rattle.box_ends.proofs.EndFits.{flow_end_fits}
use Rattle.box_ends.proofs.ends.flow_ends.Goals as goal

pub returns : goal.returns
returns c =
    let row = c.args.row.now in
    let low = flow_end_fits c.args.scale row.q_min c.requires.scale c.requires.low in
    let high = flow_end_fits c.args.scale row.q_max c.requires.scale c.requires.high in
    simp (to_z-of_z, c.ranges.scale, low.small, low.wide, low.product, high.small, high.wide, high.product)
