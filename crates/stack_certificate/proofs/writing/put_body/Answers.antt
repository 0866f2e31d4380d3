use Rattle.std.proofs.Common.{rules, SFits, to_z-of_z}
use mir.Syntax.{w128}
use Rattle.std.specs.Prelude.{codes}
use Rattle.stack_certificate.specs.Lines.{two_text, three_text}
use Rattle.stack_certificate.proofs.Put.{put_after}
use Rattle.stack_certificate.proofs.writing.put_body.Goals as goal

pub returns-in_ok-extend_from_slice-in-Push : goal.returns-in_ok-extend_from_slice-in-Push
returns-in_ok-extend_from_slice-in-Push c =
    let a : SFits w128 c.in-Push.a = search rules in
    let b : SFits w128 c.in-Push.b = search rules in
    rw c.in-Push.is (put_after c.put_two-in-Push.result c.args.out.now.items (codes "push ")
    (two_text c.in-Push.a c.in-Push.b) _ c.extend_from_slice-in-Push.new.self.items
    c.put_two-in-Push.new.out.items c.in_ok-extend_from_slice-in-Push.ensures.items
    (λ i. two_text (to_z-of_z a i) (to_z-of_z b i)) c.put_two-in-Push.ensures)

pub returns-in_ok-extend_from_slice-in-Move : goal.returns-in_ok-extend_from_slice-in-Move
returns-in_ok-extend_from_slice-in-Move c =
    let u : SFits w128 c.in-Move.u = search rules in
    let v : SFits w128 c.in-Move.v = search rules in
    let r : SFits w128 c.in-Move.r = search rules in
    rw c.in-Move.is (put_after c.put_three.result c.args.out.now.items (codes "move ")
    (three_text c.in-Move.u c.in-Move.v c.in-Move.r) _ c.extend_from_slice-in-Move.new.self.items
    c.put_three.new.out.items c.in_ok-extend_from_slice-in-Move.ensures.items
    (λ i. three_text (to_z-of_z u i) (to_z-of_z v i) (to_z-of_z r i)) c.put_three.ensures)

pub returns-in_ok-extend_from_slice-in-Forces : goal.returns-in_ok-extend_from_slice-in-Forces
returns-in_ok-extend_from_slice-in-Forces c =
    let scale : SFits w128 c.in-Forces.scale = search rules in
    let factor : SFits w128 c.in-Forces.factor = search rules in
    rw c.in-Forces.is (put_after c.put_two.result c.args.out.now.items (codes "forces ")
    (two_text c.in-Forces.scale c.in-Forces.factor) _ c.extend_from_slice-in-Forces.new.self.items
    c.put_two.new.out.items c.in_ok-extend_from_slice-in-Forces.ensures.items
    (λ i. two_text (to_z-of_z scale i) (to_z-of_z factor i)) c.put_two.ensures)
