use Rattle.std.proofs.Common.{string_bytes}
use Rattle.std.proofs.lemmas.Result.{err_from_is_err_and}
use Rattle.stack_report.specs.ForceTable.{bearing_lines}
use Rattle.stack_report.proofs.Pieces.{bearing_stops, bearing_fits, bearing_added}
use Rattle.stack_report.proofs.forces.with_bearings.Goals as goal

pub returns-in_err-longer : goal.returns-in_err-longer
returns-in_err-longer c =
    let p = err_from_is_err_and c.from_residual.result c.from_residual.ensures.1 in
    rw (p.1, p.2) (bearing_stops c.args.over.value c.args.from c.loop-k.k c.args.bearings.now _
    c.index-bearings-k.is c.args.parts.now c.push_of.result c.push_of.ensures c.loop-k-test.true
    c.loop-k.invariant.fit c.in_err-longer.field-0.0 (string_bytes c.loop-k.longer) (string_bytes c.args.text)
    (bearing_lines c.args.over.value c.args.bearings.now c.args.parts.now) c.in_err-longer.ensures)

pub loop-k-preserved : goal.loop-k-preserved
loop-k-preserved c = record {
  fit = bearing_fits c.args.over.value c.args.from c.loop-k.k c.args.bearings.now _
      c.index-bearings-k.is c.args.parts.now c.push_of.result c.push_of.ensures c.loop-k-test.true
      c.loop-k.invariant.fit c.in_ok-longer.longer (string_bytes c.loop-k.longer) c.in_ok-longer.ensures;
  lines = bearing_added c.args.over.value c.args.from c.loop-k.k c.args.bearings.now _
      c.index-bearings-k.is c.args.parts.now c.push_of.result c.push_of.ensures c.loop-k-test.true
      c.loop-k.invariant.fit c.in_ok-longer.longer (string_bytes c.loop-k.longer) _
      c.in_ok-longer.ensures c.loop-k.invariant.lines;
}
