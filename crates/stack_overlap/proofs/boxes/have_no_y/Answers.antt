use Rattle.std.proofs.Common.{rules, ◌≡◌, w64, to_z, of_z}
use Rattle.std.specs.Int.{int_min, int_max}
use Rattle.stack_overlap.proofs.SpanPoints.{tested}
use Rattle.stack_overlap.proofs.boxes.have_no_y.Goals as goal

pub returns : goal.returns
returns c =
    let low : to_z w64 (of_z w64 c.min.result) ≡ int_min c.args.a.y1 c.args.b.y1 = search rules in
    let high : to_z w64 (of_z w64 c.max.result) ≡ int_max c.args.a.y0 c.args.b.y0 = search rules in
    tested low high
