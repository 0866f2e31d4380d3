use Rattle.std.proofs.Common.{◌≡◌, ◌<◌, ◌+◌, true, false, length, get_or, drop, rules, sym, ap, ◌∙◌, subst, arith}
use Rattle.stack_model.specs.Structure.{body_at}
use Rattle.stack_contact.specs.FreeBlocks.{frees_from, free_of, frees_before}
use Rattle.stack_contact.proofs.Frees.{free_block, first_from, past_fixed, past_free, Remain}
use Rattle.stack_contact.proofs.types.Survey.free.Goals.{then-not-body+else-left-eq0, else-not-body}
use Rattle.stack_contact.proofs.types.Survey.free.Goals as goal

pub returns-then-left-eq0-clause-back : goal.returns-then-left-eq0-clause-back
returns-then-left-eq0-clause-back c =
    let bodies = c.args.self.now.structure.bodies in
    let i = c.loop-i.i in
    let within : i < length bodies = search rules in
    let free : (body_at bodies i).fixed ≡ false = search rules in
    let here : get_or (frees_from i (drop i bodies)) 0 0 ≡ free_of bodies c.args.b = search rules in
    ap (frees_before bodies) (sym (first_from bodies i i within free) ∙ here)
    ∙ (free_block bodies c.args.b c.requires).again

pub loop-i-preserved : goal.loop-i-preserved
loop-i-preserved c =
    let bodies = c.args.self.now.structure.bodies in
    let i = c.loop-i.i in
    let within : i < length bodies = search rules in
    elim c.if-not-body.branch [
      | then-not-body+else-left-eq0 w ↦
          let free : (body_at bodies i).fixed ≡ false = search rules in
          past_free bodies i c.loop-i.left _ within c.loop-i.invariant c.if-not-body.left
          (omega (arith, w.left-is, w.if-left-eq0.false)) free
      | else-not-body w ↦
          let fixed : (body_at bodies i).fixed ≡ true = search rules in
          subst (λ m. Remain m (free_of bodies c.args.b) (frees_from (i + 1) (drop (i + 1) bodies))) (sym w.left-is)
          (past_fixed bodies i c.loop-i.left _ within c.loop-i.invariant fixed)
    ]
