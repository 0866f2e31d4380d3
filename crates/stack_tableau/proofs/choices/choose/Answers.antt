use Rattle.std.proofs.Common.{sym, subst, ◌∙◌, ◌<◌, arith}
use Rattle.stack_table.specs.Table.{Shape, plain}
use Rattle.stack_tableau.proofs.Turns.{entering_below, leaving_below, leaving_nonzero, one_enters}
use Rattle.stack_tableau.proofs.choices.choose.Goals as goal
use Rattle.stack_tableau.proofs.choices.choose.Goals.{In-This, In-Some}

-- the column that enters is one of the first
below : (g : _) (c : In-This g) → c.in-This.column < plain (g.T.Tableau.shape c.args.t.now)
below g c = let b = entering_below (g.T.Tableau.shape c.args.t.now) (g.T.Tableau.table c.args.t.now) c.args.among
    c.in-This.column c.in-This.ensures.value in
    omega (arith, b, c.requires)

below_still : (g : _) (c : In-Some g) → c.in-This.column < plain (g.T.Tableau.shape c.args.t.now) →
    c.in-This.column < plain (g.T.Tableau.shape c.enter.new.self)
below_still g c l = subst (λ (S : Shape). c.in-This.column < plain S) (sym c.in-Some.ensures.shape) l

pub enter-requires : goal.enter-requires
enter-requires g c = below g (goal.at.enter-requires g c).In-This

pub leaving-requires-clause-column_in : goal.leaving-requires-clause-column_in
leaving-requires-clause-column_in g c = let p = goal.at.leaving-requires-clause-column_in g c in
    below_still g p.In-Some (below g p.In-This)

pub returns-in-Ok-Some-clause-ready : goal.returns-in-Ok-Some-clause-ready
returns-in-Ok-Some-clause-ready g c =
    let p = goal.at.returns-in-Ok-Some-clause-ready g c in
    let S = g.T.Tableau.shape c.enter.new.self in
    let T = g.T.Tableau.table c.enter.new.self in
    let e = sym c.in-Ok-Some.field-0-is ∙ c.in-Ok-Some.ensures.ok in record {
      row_in = leaving_below S T c.in-This.column c.in-Ok-Some.row e;
      column_in = below_still g p.In-Some (below g p.In-This);
      cell = leaving_nonzero S T c.in-This.column c.in-Ok-Some.row e;
      at_hand = c.in-Some.ensures.at_hand;
    }

pub returns-in-Ok-Some-clause-tells : goal.returns-in-Ok-Some-clause-tells
returns-in-Ok-Some-clause-tells g c = one_enters g.T.Tableau.MAX c.args.among c.in-Some.ensures.shape
    c.in-Some.ensures.table g.T.Tableau.settles c.in-This.column c.in-Ok-Some.field-0-is
    c.in-This.ensures.value c.in-Ok-Some.ensures.tells

pub returns-in-Ok-None-clause-tells : goal.returns-in-Ok-None-clause-tells
returns-in-Ok-None-clause-tells g c = one_enters g.T.Tableau.MAX c.args.among c.in-Some.ensures.shape
    c.in-Some.ensures.table g.T.Tableau.settles c.in-This.column c.in-Ok-None.field-0-is
    c.in-This.ensures.value c.in-Ok-None.ensures.tells
