use Rattle.std.proofs.Common.{◌≡◌, to_z-of_z, rules, FitsSigned}
use Rattle.std.specs.Int.{w128}
use Rattle.box_rules.proofs.SideFits.{sides_fit}
use Rattle.tight_steps.proofs.Allowed.{safe_sides}
use Rattle.pressure_propagate.proofs.SquareBounds.{from_low, from_high, to_low, to_high}
use Rattle.pressure_propagate.proofs.DragBounds.{part_fits, floor_moves, ceiling_moves}
use Rattle.pressure_propagate.proofs.bounds.drag_bound.Goals as goal

pub overflow_mul-part : goal.overflow_mul-part
overflow_mul-part c =
    let p = part_fits c.args.law.now.drag c.args.scale c.requires.law c.requires.ends.scale in
    simp (to_z-of_z, p.small, p.wide, c.ranges.scale) p.product

pub floor_div-requires : goal.floor_div-requires
floor_div-requires c =
    let p = part_fits c.args.law.now.drag c.args.scale c.requires.law c.requires.ends.scale in
    simp (to_z-of_z, p.small, p.wide, p.product, c.ranges.scale) p.one

pub ceil_div-requires : goal.ceil_div-requires
ceil_div-requires c =
    let p = part_fits c.args.law.now.drag c.args.scale c.requires.law c.requires.ends.scale in
    simp (to_z-of_z, p.small, p.wide, p.product, c.ranges.scale) p.one

pub ceil_div-requires-then-low-2 : goal.ceil_div-requires-then-low-2
ceil_div-requires-then-low-2 c =
    let p = part_fits c.args.law.now.drag c.args.scale c.requires.law c.requires.ends.scale in
    simp (to_z-of_z, p.small, p.wide, p.product, c.ranges.scale) p.one

pub floor_div-requires-else-low-2 : goal.floor_div-requires-else-low-2
floor_div-requires-else-low-2 c =
    let p = part_fits c.args.law.now.drag c.args.scale c.requires.law c.requires.ends.scale in
    simp (to_z-of_z, p.small, p.wide, p.product, c.ranges.scale) p.one

pub overflow_add-result : goal.overflow_add-result
overflow_add-result c =
    let law = c.args.law.now in
    let s = safe_sides c.args.scale c.args.e c.requires.ends in
    let f = sides_fit c.args.e s in
    let p = part_fits law.drag c.args.scale c.requires.law c.requires.ends.scale in
    let q = c.floor_div.result in
    let fits : FitsSigned w128 q = search rules in
    let fall : FitsSigned w128 c.drop_low.result = search rules in
    let is = simp (to_z-of_z, f.q_lo) at c.drop_low.ensures in
    let raw = simp (to_z-of_z, p.small, p.wide, p.product, c.ranges.scale, fall) at c.floor_div.ensures in
    let quotient = rw is at raw in
    let m = floor_moves law.drag c.args.scale c.args.e.q.lo c.args.e.v.lo q c.requires.law c.requires.ends.scale s.q.lo s.v.lo quotient in
    simp (to_z-of_z, f.v_lo, fits) m.up_by

pub returns-then-low : goal.returns-then-low
returns-then-low c =
    let law = c.args.law.now in
    let s = safe_sides c.args.scale c.args.e c.requires.ends in
    let f = sides_fit c.args.e s in
    let p = part_fits law.drag c.args.scale c.requires.law c.requires.ends.scale in
    let q = c.floor_div.result in
    let fits : FitsSigned w128 q = search rules in
    let fall : FitsSigned w128 c.drop_low.result = search rules in
    let is = simp (to_z-of_z, f.q_lo) at c.drop_low.ensures in
    let raw = simp (to_z-of_z, p.small, p.wide, p.product, c.ranges.scale, fall) at c.floor_div.ensures in
    let quotient = rw is at raw in
    let m = floor_moves law.drag c.args.scale c.args.e.q.lo c.args.e.v.lo q c.requires.law c.requires.ends.scale s.q.lo s.v.lo quotient in
    simp (to_z-of_z, f.v_lo, fits, m.up_by) (rw (c.if-from.true, c.if-low.true) (from_low law c.args.scale c.args.e q p.one quotient))

pub overflow_add-result-else-low : goal.overflow_add-result-else-low
overflow_add-result-else-low c =
    let law = c.args.law.now in
    let s = safe_sides c.args.scale c.args.e c.requires.ends in
    let f = sides_fit c.args.e s in
    let p = part_fits law.drag c.args.scale c.requires.law c.requires.ends.scale in
    let q = c.ceil_div.result in
    let fits : FitsSigned w128 q = search rules in
    let fall : FitsSigned w128 c.drop_high.result = search rules in
    let is = simp (to_z-of_z, f.q_hi) at c.drop_high.ensures in
    let raw = simp (to_z-of_z, p.small, p.wide, p.product, c.ranges.scale, fall) at c.ceil_div.ensures in
    let quotient = rw is at raw in
    let m = ceiling_moves law.drag c.args.scale c.args.e.q.hi c.args.e.v.hi q c.requires.law c.requires.ends.scale s.q.hi s.v.hi quotient in
    simp (to_z-of_z, f.v_hi, fits) m.up_by

pub returns-else-low : goal.returns-else-low
returns-else-low c =
    let law = c.args.law.now in
    let s = safe_sides c.args.scale c.args.e c.requires.ends in
    let f = sides_fit c.args.e s in
    let p = part_fits law.drag c.args.scale c.requires.law c.requires.ends.scale in
    let q = c.ceil_div.result in
    let fits : FitsSigned w128 q = search rules in
    let fall : FitsSigned w128 c.drop_high.result = search rules in
    let is = simp (to_z-of_z, f.q_hi) at c.drop_high.ensures in
    let raw = simp (to_z-of_z, p.small, p.wide, p.product, c.ranges.scale, fall) at c.ceil_div.ensures in
    let quotient = rw is at raw in
    let m = ceiling_moves law.drag c.args.scale c.args.e.q.hi c.args.e.v.hi q c.requires.law c.requires.ends.scale s.q.hi s.v.hi quotient in
    simp (to_z-of_z, f.v_hi, fits, m.up_by) (rw (c.if-from.true, c.if-low.false) (from_high law c.args.scale c.args.e q p.one quotient))

pub overflow_sub-result : goal.overflow_sub-result
overflow_sub-result c =
    let law = c.args.law.now in
    let s = safe_sides c.args.scale c.args.e c.requires.ends in
    let f = sides_fit c.args.e s in
    let p = part_fits law.drag c.args.scale c.requires.law c.requires.ends.scale in
    let q = c.ceil_div-then-low-2.result in
    let fits : FitsSigned w128 q = search rules in
    let fall : FitsSigned w128 c.drop_high-then-low-2.result = search rules in
    let is = simp (to_z-of_z, f.q_hi) at c.drop_high-then-low-2.ensures in
    let raw = simp (to_z-of_z, p.small, p.wide, p.product, c.ranges.scale, fall) at c.ceil_div-then-low-2.ensures in
    let quotient = rw is at raw in
    let m = ceiling_moves law.drag c.args.scale c.args.e.q.hi c.args.e.u.lo q c.requires.law c.requires.ends.scale s.q.hi s.u.lo quotient in
    simp (to_z-of_z, f.u_lo, fits) m.down_by

pub returns-then-low-2 : goal.returns-then-low-2
returns-then-low-2 c =
    let law = c.args.law.now in
    let s = safe_sides c.args.scale c.args.e c.requires.ends in
    let f = sides_fit c.args.e s in
    let p = part_fits law.drag c.args.scale c.requires.law c.requires.ends.scale in
    let q = c.ceil_div-then-low-2.result in
    let fits : FitsSigned w128 q = search rules in
    let fall : FitsSigned w128 c.drop_high-then-low-2.result = search rules in
    let is = simp (to_z-of_z, f.q_hi) at c.drop_high-then-low-2.ensures in
    let raw = simp (to_z-of_z, p.small, p.wide, p.product, c.ranges.scale, fall) at c.ceil_div-then-low-2.ensures in
    let quotient = rw is at raw in
    let m = ceiling_moves law.drag c.args.scale c.args.e.q.hi c.args.e.u.lo q c.requires.law c.requires.ends.scale s.q.hi s.u.lo quotient in
    simp (to_z-of_z, f.u_lo, fits, m.down_by) (rw (c.if-from.false, c.if-low-2.true) (to_low law c.args.scale c.args.e q p.one quotient))

pub overflow_sub-result-else-low-2 : goal.overflow_sub-result-else-low-2
overflow_sub-result-else-low-2 c =
    let law = c.args.law.now in
    let s = safe_sides c.args.scale c.args.e c.requires.ends in
    let f = sides_fit c.args.e s in
    let p = part_fits law.drag c.args.scale c.requires.law c.requires.ends.scale in
    let q = c.floor_div-else-low-2.result in
    let fits : FitsSigned w128 q = search rules in
    let fall : FitsSigned w128 c.drop_low-else-low-2.result = search rules in
    let is = simp (to_z-of_z, f.q_lo) at c.drop_low-else-low-2.ensures in
    let raw = simp (to_z-of_z, p.small, p.wide, p.product, c.ranges.scale, fall) at c.floor_div-else-low-2.ensures in
    let quotient = rw is at raw in
    let m = floor_moves law.drag c.args.scale c.args.e.q.lo c.args.e.u.hi q c.requires.law c.requires.ends.scale s.q.lo s.u.hi quotient in
    simp (to_z-of_z, f.u_hi, fits) m.down_by

pub returns-else-low-2 : goal.returns-else-low-2
returns-else-low-2 c =
    let law = c.args.law.now in
    let s = safe_sides c.args.scale c.args.e c.requires.ends in
    let f = sides_fit c.args.e s in
    let p = part_fits law.drag c.args.scale c.requires.law c.requires.ends.scale in
    let q = c.floor_div-else-low-2.result in
    let fits : FitsSigned w128 q = search rules in
    let fall : FitsSigned w128 c.drop_low-else-low-2.result = search rules in
    let is = simp (to_z-of_z, f.q_lo) at c.drop_low-else-low-2.ensures in
    let raw = simp (to_z-of_z, p.small, p.wide, p.product, c.ranges.scale, fall) at c.floor_div-else-low-2.ensures in
    let quotient = rw is at raw in
    let m = floor_moves law.drag c.args.scale c.args.e.q.lo c.args.e.u.hi q c.requires.law c.requires.ends.scale s.q.lo s.u.hi quotient in
    simp (to_z-of_z, f.u_hi, fits, m.down_by) (rw (c.if-from.false, c.if-low-2.false) (to_high law c.args.scale c.args.e q p.one quotient))
