use Rattle.std.proofs.Common.{◌≡◌, ℕ, true, List, length, if◌then◌else◌, Result, Ok, Err, sym, ap, ◌∙◌}
use Rattle.stack_polygon.specs.declared.point.Point.{Point}
use Rattle.stack_polygon.specs.declared.errors.PolygonError.{PolygonError}
use Rattle.stack_polygon.specs.declared.errors.PolygonError.TheVariants as polygon
use Rattle.stack_polygon.specs.Limits.{are_in_range}
use Rattle.stack_polygon.specs.Outlines.{outline_of}
use Rattle.stack_polygon.specs.Admission.{is_count, first_far_of, with_edge, polygon_of}
use Rattle.stack_model.specs.declared.errors.ModelError.TheVariants.{NotConvex}
use Rattle.stack_model.specs.Convex.{at_block}
use Rattle.stack_model.proofs.outlines.outline.Goals as goal

-- the corners are of a number and within the range that the polygon asks
by_edge : (ps : List Point) → is_count (length ps) ≡ true → are_in_range ps ≡ true →
    polygon_of ps ≡ with_edge (outline_of ps)
by_edge ps h g =
    (λ i. if h i then (if g i then with_edge (outline_of ps) else Err (polygon.Range (first_far_of ps)))
    else Err polygon.Corners)

made : (i : ℕ) (ps : List Point) (r : Result (List Point) ℕ) → Ok ps ≡ with_edge r → at_block i r ≡ Ok ps
made i ps (Ok qs) h = cc
made i ps (Err e) h = absurd cc

unclear : (i e : ℕ) (r : Result (List Point) ℕ) → Err (polygon.NotConvex e) ≡ with_edge r →
    at_block i r ≡ Err (NotConvex i e)
unclear i e (Ok qs) h = absurd cc
unclear i e (Err k) h = cc

pub returns-in-Ok : goal.returns-in-Ok
returns-in-Ok c = made c.args.index c.in-Ok.polygon (outline_of c.args.corners.items)
    (c.in-Ok.ensures.value ∙ by_edge c.args.corners.items c.requires.count c.requires.range)

pub returns-in-Err-NotConvex : goal.returns-in-Err-NotConvex
returns-in-Err-NotConvex c =
    unclear c.args.index c.in-Err-NotConvex.edge (outline_of c.args.corners.items)
    (ap (λ (e : PolygonError). Err e) (sym c.in-Err-NotConvex.field-0-is) ∙ c.in-Err-NotConvex.ensures.value
    ∙ by_edge c.args.corners.items c.requires.count c.requires.range)
