use Rattle.std.proofs.Common.{ℕ, sym, ◌∙◌, ◌+◌, ◌<◌, ◌≤◌, arith}
use Rattle.std.proofs.lemmas.List.{get_or_default}
use Rattle.stack_equilibrium.specs.SurveyScene.{no_bearing}
use Rattle.stack_extract.proofs.WrittenPlaces.{told}
use Rattle.stack_extract.proofs.PartPlaces.{one_part, part_too_wide}
use Rattle.stack_extract.proofs.parts.force_parts.Goals as goal

next : (i n : ℕ) → i < n → i + 1 ≤ n
next i n l = omega (arith, l)

pub returns-in-Err-clause-wide : goal.returns-in-Err-clause-wide
returns-in-Err-clause-wide c = told c.too_wide.result _ _ c.too_wide.ensures
    (part_too_wide c.args.which c.args.bearings.now c.args.numbers.now c.loop-k.k
    c.index-bearings-k.result c.amount.result c.amount-in-loop-k.result
    c.loop-k.parts.items
    (record {
      within = c.loop-k-test.true;
      bearing = c.index-bearings-k.is ∙ get_or_default _ _ _ no_bearing c.loop-k-test.true;
      first = c.amount.ensures;
      second =
          c.amount-in-loop-k.ensures;
    })
    c.loop-k.invariant.0 c.in-Err.field-0 (sym c.part.ensures ∙ c.in-Err.is))

pub loop-k-preserved : goal.loop-k-preserved
loop-k-preserved c = (
  one_part c.args.which c.args.bearings.now c.args.numbers.now c.loop-k.k
      c.index-bearings-k.result c.amount.result c.amount-in-loop-k.result
      c.loop-k.parts.items
      (record {
        within = c.loop-k-test.true;
        bearing = c.index-bearings-k.is ∙ get_or_default _ _ _ no_bearing c.loop-k-test.true;
        first = c.amount.ensures;
        second =
            c.amount-in-loop-k.ensures;
      })
      c.loop-k.invariant.0 c.in_ok-parts-in-Ok.parts.items c.in-Ok.push (sym c.part.ensures ∙ c.in-Ok.is)
      c.in_ok-parts-in-Ok.ensures,
  next c.loop-k.k _ c.loop-k-test.true,
)
