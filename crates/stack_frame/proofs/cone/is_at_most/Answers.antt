use Rattle.std.proofs.Common.{◌*ℤ◌, SFits, w64, rules}
use Rattle.std.proofs.lemmas.Int.{to_z-of_z}
use Rattle.stack_frame.proofs.cone.is_at_most.Goals as goal

pub returns : goal.returns
returns c =
    let ap : SFits w64 c.args.a.p = search rules in
    let aq : SFits w64 c.args.a.q = search rules in
    let bp : SFits w64 c.args.b.p = search rules in
    let bq : SFits w64 c.args.b.q = search rules in
    let left : SFits w64 (c.args.a.p *ℤ c.args.b.q) = search rules in
    let right : SFits w64 (c.args.b.p *ℤ c.args.a.q) = search rules in
    simp to_z-of_z
