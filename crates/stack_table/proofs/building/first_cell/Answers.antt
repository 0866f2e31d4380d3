use Rattle.std.proofs.Common.{◌≡◌, ap, subst, ◌∙◌, ℤ, true, false, IfOk, IfErr}
use Rattle.stack_rational.proofs.Common.{of, only_if, fraction_fits, is_too_wide}
use Rattle.stack_rational.specs.declared.exact.Op.TheVariants.{Whole}
use Rattle.stack_rational.proofs.Fitting.{whole_answers}
use Rattle.stack_table.specs.declared.problem.BuildError.TheVariants.{Wide}
use Rattle.stack_table.specs.Lent.{problem_of}
use Rattle.stack_table.specs.WrittenTable.{written_number}
use Rattle.stack_table.proofs.Numbers.{number_small, small_back, then_ok, then_err}
use Rattle.stack_table.proofs.building.first_cell.Goals as goal

pub returns-clause-ok : goal.returns-clause-ok
returns-clause-ok g c =
    let n = small_back c.number.result (written_number (problem_of c.args.p.now) c.args.i c.args.j) c.number.ensures
    (number_small c.args.p.now c.requires.problem c.args.i c.args.j) in
    subst (λ (z : ℤ). IfOk c.from_whole.result (λ r. g.S.Exact.exact r ≡ of z)) n c.from_whole.ensures.ok

pub returns-clause-small : goal.returns-clause-small
returns-clause-small g c = then_ok _ _ _ c.from_whole.result
    (λ r e h. ap (fraction_fits g.S.Exact.MAX) e ∙ whole_answers g.S.Exact.MAX g.met.S.Exact.max_law _ h)
    c.from_whole.ensures.ok c.from_whole.ensures.fits

pub returns-clause-fits : goal.returns-clause-fits
returns-clause-fits g c =
    let m = g.S.Exact.MAX in
    let n = small_back c.number.result (written_number (problem_of c.args.p.now) c.args.i c.args.j) c.number.ensures
    (number_small c.args.p.now c.requires.problem c.args.i c.args.j) in
    then_ok _ _ _ c.from_whole.result (λ r e h. ap (λ b. only_if b (Wide c.args.i c.args.j)) h)
    c.from_whole.ensures.ok
    (subst (λ (z : ℤ). IfOk c.from_whole.result (λ r. is_too_wide m Whole (of z) (of z) ≡ false)) n
    c.from_whole.ensures.fits)

pub returns-clause-wide : goal.returns-clause-wide
returns-clause-wide g c =
    let m = g.S.Exact.MAX in
    let n = small_back c.number.result (written_number (problem_of c.args.p.now) c.args.i c.args.j) c.number.ensures
    (number_small c.args.p.now c.requires.problem c.args.i c.args.j) in
    then_err _ _ c.from_whole.result (λ e h. ap (λ b. only_if b (Wide c.args.i c.args.j)) h)
    (subst (λ (z : ℤ). IfErr c.from_whole.result (λ e. is_too_wide m Whole (of z) (of z) ≡ true)) n
    c.from_whole.ensures.wide)
