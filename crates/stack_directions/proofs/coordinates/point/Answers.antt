use Rattle.stack_certificate.specs.Certificate.{ForcesValue, forces_view}
use Rattle.stack_directions.proofs.Points.{told, both, first_none, uncast}
use Rattle.stack_directions.proofs.coordinates.point.Goals as goal

pub returns-in-Some-coordinate : goal.returns-in-Some-coordinate
returns-in-Some-coordinate c = let f : ForcesValue = forces_view c.args.f.now in
    both c.args.m.value c.args.n.value f _ _
    (told c.args.m.value f c.over-factor.result _ _
    (uncast _ _ _ c.requires.factor c.requires.scale c.over-factor.ensures)
    c.requires.positive c.coordinate.ensures c.in-Some.is)
    (told c.args.n.value f c.over-factor.result _ _
    (uncast _ _ _ c.requires.factor c.requires.scale c.over-factor.ensures)
    c.requires.positive c.coordinate-in-Some.ensures
    c.in-Some-coordinate.is)

pub returns-in-None-coordinate : goal.returns-in-None-coordinate
returns-in-None-coordinate c = let f : ForcesValue = forces_view c.args.f.now in
    both c.args.m.value c.args.n.value f _ _
    (told c.args.m.value f c.over-factor.result _ _
    (uncast _ _ _ c.requires.factor c.requires.scale c.over-factor.ensures)
    c.requires.positive c.coordinate.ensures c.in-Some.is)
    (told c.args.n.value f c.over-factor.result _ _
    (uncast _ _ _ c.requires.factor c.requires.scale c.over-factor.ensures)
    c.requires.positive c.coordinate-in-Some.ensures
    c.in-None-coordinate.is)

pub returns-in-None : goal.returns-in-None
returns-in-None c = let f : ForcesValue = forces_view c.args.f.now in
    first_none c.args.m.value c.args.n.value f
    (told c.args.m.value f c.over-factor.result _ _
    (uncast _ _ _ c.requires.factor c.requires.scale c.over-factor.ensures)
    c.requires.positive c.coordinate.ensures c.in-None.is)
