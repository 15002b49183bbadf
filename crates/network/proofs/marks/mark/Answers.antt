use Rattle.std.proofs.Common.{◌≡◌, cond, not, ◌++◌, ◌∷◌, []}
use Rattle.base_types.specs.Names.{is_among}
use Rattle.network.proofs.Marked.{added, on_pipes, on_resistors, on_stations, when_ok}
use Rattle.network.proofs.marks.mark.Goals as goal

pub returns-in-Pipe-clause-marked : goal.returns-in-Pipe-clause-marked
returns-in-Pipe-clause-marked c =
    let old = c.args.marks.now.pipes in
    let next = c.add.new.self in
    let id = c.args.id.now in
    rw c.in-Pipe.is (when_ok c.add.result (λ b. b ≡ not (is_among old id)) (λ b. next ≡ cond b (old ++ id ∷ []) old) _ c.add.ensures.fresh c.add.ensures.added
    (λ b f g. on_pipes c.args.marks.now next id (added old next id b f g)))

pub returns-in-Resistor-clause-marked : goal.returns-in-Resistor-clause-marked
returns-in-Resistor-clause-marked c =
    let old = c.args.marks.now.resistors in
    let next = c.add-in-Resistor.new.self in
    let id = c.args.id.now in
    rw c.in-Resistor.is (when_ok c.add-in-Resistor.result (λ b. b ≡ not (is_among old id)) (λ b. next ≡ cond b (old ++ id ∷ []) old) _ c.add-in-Resistor.ensures.fresh c.add-in-Resistor.ensures.added
    (λ b f g. on_resistors c.args.marks.now next id (added old next id b f g)))

pub returns-in-Station-clause-marked : goal.returns-in-Station-clause-marked
returns-in-Station-clause-marked c =
    let old = c.args.marks.now.stations in
    let next = c.add-in-Station.new.self in
    let id = c.args.id.now in
    rw c.in-Station.is (when_ok c.add-in-Station.result (λ b. b ≡ not (is_among old id)) (λ b. next ≡ cond b (old ++ id ∷ []) old) _ c.add-in-Station.ensures.fresh c.add-in-Station.ensures.added
    (λ b f g. on_stations c.args.marks.now next id (added old next id b f g)))
