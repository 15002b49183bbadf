use Rattle.std.proofs.Common.{refl}
use Rattle.element_laws.proofs.BoxEnds.{safe_flows, safe_squares}
use Rattle.box_rules.proofs.ArcVars.{arc_vars}
use Rattle.box_rules.proofs.problem_arcs.sides.Goals as goal

pub ends-q-requires : goal.ends-q-requires
ends-q-requires c = (arc_vars c.args.p.now c.args.b.now.bounds c.args.arc c.args.row.now c.requires.within c.requires.bounds c.requires.row).q

pub ends-u-requires : goal.ends-u-requires
ends-u-requires c = (arc_vars c.args.p.now c.args.b.now.bounds c.args.arc c.args.row.now c.requires.within c.requires.bounds c.requires.row).u

pub ends-v-requires : goal.ends-v-requires
ends-v-requires c = (arc_vars c.args.p.now c.args.b.now.bounds c.args.arc c.args.row.now c.requires.within c.requires.bounds c.requires.row).v

pub returns : goal.returns
returns c = record {
  ends = rw (c.ends-q.ensures.value, c.ends-u.ensures.value, c.ends-v.ensures.value) refl;
  safe = record {
    q = safe_flows c.args.b.now.scale c.ends-q.result c.ends-q.ensures.scale c.ends-q.ensures.limits;
    u = safe_squares c.args.b.now.scale c.ends-u.result c.ends-u.ensures.scale c.ends-u.ensures.limits;
    v = safe_squares c.args.b.now.scale c.ends-v.result c.ends-v.ensures.scale c.ends-v.ensures.limits;
  };
  limits = record { scale = c.ends-q.ensures.scale; q = c.ends-q.ensures.limits; u = c.ends-u.ensures.limits; v = c.ends-v.ensures.limits };
}
