use Rattle.std.proofs.Common.{◌≡◌, Some, Option, Vec, Global, map, option_map, sym, ap, ◌∙◌}
use Rattle.stack_polygon.specs.declared.point.Point.{Point}
use Rattle.stack_model.specs.Raw.{numbers_view}
use Rattle.stack_model.specs.Limits.{corner_list_of}
use Rattle.stack_model.proofs.Points.{corners_taken}
use Rattle.stack_model.proofs.bodies.corners_at.Goals as goal

pub returns-in-Some-clause-count : goal.returns-in-Some-clause-count
returns-in-Some-clause-count c =
    let e : corner_list_of (map numbers_view c.args.lists.now) ≡ Some c.in-Some.points.items =
    sym c.in_ok-points.ensures ∙ ap (λ (o : Option (Vec Point Global)). option_map (λ v. v.items) o)
    c.in-Some.is in
    (corners_taken (map numbers_view c.args.lists.now) c.in-Some.points.items e).count

pub returns-in-Some-clause-range : goal.returns-in-Some-clause-range
returns-in-Some-clause-range c =
    let e : corner_list_of (map numbers_view c.args.lists.now) ≡ Some c.in-Some.points.items =
    sym c.in_ok-points.ensures ∙ ap (λ (o : Option (Vec Point Global)). option_map (λ v. v.items) o)
    c.in-Some.is in
    (corners_taken (map numbers_view c.args.lists.now) c.in-Some.points.items e).range
