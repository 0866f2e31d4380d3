use Rattle.std.proofs.Common.{◌≡◌, ◌<◌, length, sym, ap, ◌∙◌, subst, arith}
use Rattle.stack_contact.specs.FreeBlocks.{frees_of, free_of, frees_before}
use Rattle.stack_contact.proofs.Frees.{before_is_within, found_again}
use Rattle.stack_contact.proofs.types.Survey.free_number.Goals as goal

pub returns-clause-within : goal.returns-clause-within
returns-clause-within c =
    let bodies = c.args.self.now.structure.bodies in
    let ends : c.loop-j.j ≡ c.args.i = omega (arith, c.loop-j-test.false, c.loop-j.auto.j-end) in
    subst (λ n. n < length (frees_of bodies)) (sym (c.loop-j.invariant.value ∙ ap (frees_before bodies) ends))
    (before_is_within bodies c.args.i c.requires.is_body c.requires.free)

pub returns-clause-back : goal.returns-clause-back
returns-clause-back c =
    let bodies = c.args.self.now.structure.bodies in
    let ends : c.loop-j.j ≡ c.args.i = omega (arith, c.loop-j-test.false, c.loop-j.auto.j-end) in
    ap (free_of bodies) (c.loop-j.invariant.value ∙ ap (frees_before bodies) ends)
    ∙ found_again bodies c.args.i c.requires.is_body c.requires.free
