use Rattle.std.proofs.Common.{◌≡◌, refl, sym, ap, ◌∙◌, ℕ, suc, ◌+◌, ◌*◌, ◌<◌, ◌≤◌, ◌^◌, get_or}
use Rattle.std.proofs.Common.{Option, Some, None, cond, false, length, arith, is_some, pos}
use Rattle.stack_rational.proofs.Common.{length_push, ℕ_discrete}
use Rattle.stack_rational.proofs.Common.{ordered_fractions, first, is_too_wide, first_more, get_or_default}
use Rattle.std.proofs.Math.Nat.{add-mul, suc-mul}
use Rattle.std.proofs.lemmas.Nat.{mul-le}
use Rattle.stack_table.specs.declared.problem.Column.{Column}
use Rattle.stack_table.specs.declared.problem.Problem.{Problem as Lent}
use Rattle.stack_table.specs.Table.{plain, width}
use Rattle.stack_table.specs.Block.{cell_of, shape_of, tabled}
use Rattle.stack_table.specs.Problem.{flipped}
use Rattle.stack_table.specs.Lent.{factor_count, shape_of_problem, problem_of}
use Rattle.stack_table.specs.WrittenTable.{first_row, row_place}
use Rattle.stack_table.proofs.Numbers.{few_columns}
use Rattle.stack_table.proofs.Growing.{pushed_all, earlier_cells, next_cells}
use Rattle.stack_table.proofs.RowByRow.{empty_block, flip_is, flips_are, tells_row, tells_objective, place_is, table_is}
use Rattle.stack_table.proofs.Refusals.{refused, out_of_memory}
use Rattle.stack_table.proofs.table.Table.build.Goals as goal
use Rattle.stack_table.proofs.table.Table.build.Goals.{After-loop-i, After-is_some}

-- the number of factor columns is counted as a test counts it
factor_is : (o : Option Column) → cond (is_some o) 1 0 ≡ factor_count o
factor_is None = refl
factor_is (Some c) = refl

pub loop-i-init : goal.loop-i-init
loop-i-init g c = record {
  block = empty_block g.S.Exact.exact g.S.Exact.MAX g.met.S.Exact.max_law c.in_ok-cells.cells.items
      c.in_ok-marks.marks.items c.in_ok-cells.ensures.items c.in_ok-marks.ensures.items;
  long = omega (arith, ap length c.in_ok-cells.ensures.items);
  cells = λ k j l. absurd (omega (arith, l));
  none = refl;
  basic_long = ap length c.in_ok-basic.ensures.items;
  basics = λ k l. absurd (omega (arith, l));
  flipped_long = ap length c.in_ok-flipped.ensures.items;
  flips_are = λ k l. absurd (omega (arith, l));
}

pub push_row-requires-clause-problem : goal.push_row-requires-clause-problem
push_row-requires-clause-problem g c = c.requires

pub push_row-requires-clause-artificial : goal.push_row-requires-clause-artificial
push_row-requires-clause-artificial g c = c.artificial-artificial.ensures

pub push_row-requires-clause-i_in : goal.push_row-requires-clause-i_in
push_row-requires-clause-i_in g c = c.loop-i-test.true

pub push_row-requires-clause-block : goal.push_row-requires-clause-block
push_row-requires-clause-block g c = c.loop-i.invariant.block

pub returns-in_err-push_row : goal.returns-in_err-push_row
returns-in_err-push_row g c = refused c.args.p.now c.requires c.in_err-push_row.field-0.0
    (tells_row g.S.Exact.MAX (problem_of c.args.p.now) c.loop-i.i c.in_err-push_row.field-0.0
    c.loop-i-test.true c.loop-i.invariant.none c.in_err-push_row.ensures.wide)
    c.from_residual-in_err-push_row.result c.from_residual-in_err-push_row.ensures.1

pub returns-in_err-push : goal.returns-in_err-push
returns-in_err-push g c = out_of_memory c.args.p.now c.requires
    c.from_residual-in_err-push.result c.from_residual-in_err-push.ensures.1

pub returns-in_err-push-2 : goal.returns-in_err-push-2
returns-in_err-push-2 g c = out_of_memory c.args.p.now c.requires
    c.from_residual-in_err-push-2.result c.from_residual-in_err-push-2.ensures.1

pub loop-i-preserved : goal.loop-i-preserved
loop-i-preserved g c =
    let e = g.S.Exact.exact in
    let P = c.args.p.now in
    let S = shape_of_problem P in
    let w = width S in
    let i = c.loop-i.i in
    let v = c.loop-i.invariant in
    let old = c.loop-i.cells.items in
    let new = c.push_row.new.cells.items in
    let row = first_row ordered_fractions (problem_of P) i in
    record {
      block = c.in_ok-push_row.ensures.block;
      long = omega (arith, c.in_ok-push_row.ensures.grown.longer, v.long, add-mul i 1 w);
      cells = λ k j l h. elim (ℕ_discrete k i) [
        | yes d ↦ ap (λ z. cell_of e w new z j) d
            ∙ next_cells e w i row old new v.long c.in_ok-push_row.ensures.grown j h
            ∙ ap (λ z. first_row ordered_fractions (problem_of P) z j) (sym d)
        | no d ↦ earlier_cells e w i w row old new v.long c.in_ok-push_row.ensures.grown k j
            (omega (arith, l, d))
            ∙ v.cells k j (omega (arith, l, d)) h
      ];
      none = first_more i (row_place ordered_fractions (is_too_wide g.S.Exact.MAX) (problem_of P)) v.none
          c.in_ok-push_row.ensures.fits;
      basic_long = ap length c.in_ok-push.ensures.items ∙ length_push c.loop-i.basic.items _
          ∙ ap (λ n. n + 1) v.basic_long;
      basics = λ k l. pushed_all (λ k. plain S + k) c.loop-i.basic.items c.push.new.self.items
          (c.artificial-artificial.result + i) 0 i c.in_ok-push.ensures.items v.basic_long v.basics
          (ap (λ a. a + i) c.artificial-artificial.ensures) k l;
      flipped_long = ap length c.in_ok-push-2.ensures.items ∙ length_push c.loop-i.flipped.items _
          ∙ ap (λ n. n + 1) v.flipped_long;
      flips_are = λ k l. pushed_all
          (flipped (problem_of P)) c.loop-i.flipped.items c.push-in-loop-i.new.self.items _ _ i
          c.in_ok-push-2.ensures.items v.flipped_long v.flips_are
          (flip_is P c.requires i c.index.result.now (c.index.ensures
          ∙ get_or_default P.right.items i c.index.result.now (pos 0)
          (omega (arith, c.loop-i-test.true, c.requires.right_long)))) k l;
    }

-- the loop has ended: all rows are put, and nothing of them is too wide
module _ (g : _) (c : After-loop-i g) where
  abbrev P : Lent
  P = c.args.p.now

  end : c.loop-i.i ≡ P.rows
  end = omega (arith, c.loop-i-test.false, c.loop-i.auto.i-end)

  long : length c.loop-i.cells.items ≡ P.rows * width (shape_of_problem P)
  long = c.loop-i.invariant.long ∙ ap (λ n. n * width (shape_of_problem P)) end

  cells : (i j : ℕ) → i < P.rows → j < width (shape_of_problem P) →
      cell_of g.S.Exact.exact (width (shape_of_problem P)) c.loop-i.cells.items i j
      ≡ first_row ordered_fractions (problem_of P) i j
  cells i j l k = c.loop-i.invariant.cells i j (omega (arith, l, end)) k

  none : first P.rows (row_place ordered_fractions (is_too_wide g.S.Exact.MAX) (problem_of P)) ≡ None
  none = ap (λ n. first n (row_place ordered_fractions (is_too_wide g.S.Exact.MAX) (problem_of P))) (sym end)
      ∙ c.loop-i.invariant.none

  basics : (i : ℕ) → i < P.rows → get_or c.loop-i.basic.items i 0 ≡ plain (shape_of_problem P) + i
  basics i l = c.loop-i.invariant.basics i (omega (arith, l, end))

  flips : (i : ℕ) → get_or c.loop-i.flipped.items i false ≡ flipped (problem_of P) i
  flips = flips_are P c.requires c.loop-i.flipped.items (c.loop-i.invariant.flipped_long ∙ end)
      (λ k l. c.loop-i.invariant.flips_are k (omega (arith, l, end)))

-- the numbers of the table are those of the problem
module _ (g : _) (c : After-is_some g) where
  contacts : c.len.result ≡ length c.args.p.now.contact.items
  contacts = c.len.ensures ∙ c.args.p.now.contact.ok.0

  factors : cond c.is_some.result 1 0 ≡ factor_count c.args.p.now.factor
  factors = ap (λ b. cond b 1 0) c.is_some.ensures ∙ factor_is c.args.p.now.factor

pub push_objective-requires-clause-problem : goal.push_objective-requires-clause-problem
push_objective-requires-clause-problem g c = c.requires

pub push_objective-requires-clause-artificial : goal.push_objective-requires-clause-artificial
push_objective-requires-clause-artificial g c = c.artificial-artificial.ensures

pub push_objective-requires-clause-block : goal.push_objective-requires-clause-block
push_objective-requires-clause-block g c = c.loop-i.invariant.block

pub push_objective-requires-clause-long : goal.push_objective-requires-clause-long
push_objective-requires-clause-long g c = long g (goal.at.push_objective-requires-clause-long g c).After-loop-i

pub returns-in_err-push_objective : goal.returns-in_err-push_objective
returns-in_err-push_objective g c =
    let p = (goal.at.returns-in_err-push_objective g c).After-loop-i in
    refused c.args.p.now c.requires c.in_err-push_objective.field-0.0
    (tells_objective g.S.Exact.exact c.args.p.now c.loop-i.cells.items (long g p) (cells g p)
    g.S.Exact.MAX (none g p) c.in_err-push_objective.field-0.0 c.in_err-push_objective.ensures.wide)
    c.from_residual-in_err-push_objective.result c.from_residual-in_err-push_objective.ensures.1

pub invariant_of-result-clause-wide : goal.invariant_of-result-clause-wide
invariant_of-result-clause-wide g c =
    let p = (goal.at.invariant_of-result-clause-wide g c).After-is_some in
    omega (arith, c.artificial-artificial.ensures, contacts g p, factors g p)

pub invariant_of-result-clause-whole : goal.invariant_of-result-clause-whole
invariant_of-result-clause-whole g c =
    let P = c.args.p.now in
    let w = width (shape_of_problem P) in
    let p = (goal.at.invariant_of-result-clause-whole g c).After-loop-i in
    let w_is : w ≡ c.artificial-artificial.result + P.rows + 1 = omega (arith, c.artificial-artificial.ensures) in
    let whole : length c.push_objective.new.cells.items ≡ suc P.rows * w =
    omega (arith, c.in_ok-push_objective.ensures.grown.longer, long g p, suc-mul P.rows w) in
    whole ∙ ap (λ n. suc P.rows * n) w_is

pub invariant_of-result-clause-block : goal.invariant_of-result-clause-block
invariant_of-result-clause-block g c = c.in_ok-push_objective.ensures.block

pub invariant_of-result-clause-basics : goal.invariant_of-result-clause-basics
invariant_of-result-clause-basics g c = c.loop-i.invariant.basic_long
    ∙ end g (goal.at.invariant_of-result-clause-basics g c).After-loop-i

pub invariant_of-result-clause-basics_in : goal.invariant_of-result-clause-basics_in
invariant_of-result-clause-basics_in g c = λ i l.
    let p = goal.at.invariant_of-result-clause-basics_in g c in
    omega (arith, basics g p.After-loop-i i l, contacts g p.After-is_some, factors g p.After-is_some, l)

pub invariant_of-result-clause-flips : goal.invariant_of-result-clause-flips
invariant_of-result-clause-flips g c = c.loop-i.invariant.flipped_long
    ∙ end g (goal.at.invariant_of-result-clause-flips g c).After-loop-i

pub returns : goal.returns
returns g c =
    let P = c.args.p.now in
    let e = g.S.Exact.exact in
    let v = c.loop-i.invariant in
    let p = (goal.at.returns g c).After-loop-i in
    let q = (goal.at.returns g c).After-is_some in
    let shape : shape_of P.rows c.len.result c.is_some.result ≡ shape_of_problem P =
    λ z. record { rows = P.rows; contacts = contacts g q z; factors = factors g q z } in
    let new = c.push_objective.new.cells.items in
    record {
      shape = shape;
      ok = (λ z. tabled e (shape z) new c.loop-i.basic.items)
          ∙ table_is e P c.loop-i.cells.items (long g p) (cells g p) c.requires new
          c.in_ok-push_objective.ensures.grown c.loop-i.basic.items (v.basic_long ∙ end g p) (basics g p);
      flips = λ z i. flips g p i z;
      fits = place_is e P c.loop-i.cells.items (long g p) (cells g p) g.S.Exact.MAX (none g p)
          ∙ c.in_ok-push_objective.ensures.fits;
      wide = tt;
      never_wide = λ _. tt;
    }

-- a block of so few rows and columns fits
block_fits : (n a : ℕ) → n ≤ 384 → a + n ≤ 2433 → (n + 1) * (a + n + 1) < 2 ^ 64
block_fits n a l k = omega (arith, mul-le (n + 1) (a + n + 1) 385 2434 (omega (arith, l)) (omega (arith, k)))

pub overflow_mul-size : goal.overflow_mul-size
overflow_mul-size g c = record {
  fits = block_fits c.args.p.now.rows c.artificial-artificial.result c.requires.rows_few
      (few_columns c.args.p.now c.requires _ c.artificial-artificial.ensures);
}
