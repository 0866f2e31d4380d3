use Rattle.std.proofs.Common.{[], ◌∷◌, ◌++◌, refl, ◌∙◌}
use mir.Syntax.{w128}
use Rattle.std.proofs.lemmas.Int.{to_z-of_z}
use Rattle.std.specs.Fmt.{signed_decimal}
use Rattle.stack_certificate.specs.Lines.{two_text}
use Rattle.stack_certificate.proofs.Put.{put_after}
use Rattle.stack_certificate.proofs.writing.put_three.Goals as goal

pub returns : goal.returns
returns c =
    let out = c.args.out.now.items in
    let first = c.in_ok-put_number.ensures
    ∙ (λ i. out ++ signed_decimal (to_z-of_z w128 c.args.a c.ranges.a i)) in
    let two = two_text c.args.b c.args.c in
    put_after c.put_two.result out (signed_decimal c.args.a) (32 ∷ two) _ c.put_number.new.out.items
    c.put_two.new.out.items first refl
    (put_after c.put_two.result c.put_number.new.out.items (32 ∷ []) two _ c.push.new.self.items
    c.put_two.new.out.items c.in_ok-push.ensures.items
    (λ i. two_text (to_z-of_z w128 c.args.b c.ranges.b i) (to_z-of_z w128 c.args.c c.ranges.c i))
    c.put_two.ensures)
