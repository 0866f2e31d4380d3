-- Crooked corners by meaning.
use Rattle.std.proofs.Common.{◌≡◌, true, not, ◌&&◌, List, Some}
use Rattle.std.proofs.lemmas.Bool.{and_parts, not-true, false_from_ne_true}
use Rattle.stack_polygon.specs.declared.point.Point.{Point}
use Rattle.stack_polygon.specs.Corners.{reversed}
use Rattle.stack_polygon.specs.Outlines.{is_convex}
use Rattle.stack_polygon.proofs.Tested.{convex_from}
use Rattle.stack_faults.specs.Outline.{HasNoOutline}
use Rattle.stack_faults.specs.ContentFaults.{is_crooked, unclear_edge}
use Rattle.stack_faults.specs.Laws.{CrookedByMeaning}
use Rattle.stack_faults.proofs.FirstEdges.{no_outline}

told : (ps : List Point) → is_crooked (Some ps) ≡ true → HasNoOutline ps (unclear_edge (Some ps))
told ps h = let p = and_parts (not (is_convex ps)) (not (is_convex (reversed ps))) h in
    no_outline ps (not-true (is_convex ps) p.0) (not-true (is_convex (reversed ps)) p.1)

shown : (ps : List Point) → HasNoOutline ps (unclear_edge (Some ps)) → is_crooked (Some ps) ≡ true
shown ps h =
    let first = false_from_ne_true (is_convex ps) (λ e. h.not_convex (convex_from ps e)) in
    let other = false_from_ne_true (is_convex (reversed ps)) (λ e. h.nor_reversed (convex_from (reversed ps) e)) in
    λ i. not (first i) && not (other i)

pub crooked_by_meaning : CrookedByMeaning
crooked_by_meaning ps = (told ps, shown ps)
