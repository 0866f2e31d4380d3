use Rattle.std.proofs.Common.{refl, sym, ◌∙◌, arith}
use Rattle.stack_certificate.proofs.Readings.{is_read, faulty}
use Rattle.stack_certificate.proofs.ReadSoFar.{read_on, stopped, closed}
use Rattle.stack_certificate.proofs.reading.read_certificate.Goals as goal

pub loop-rest-preserved : goal.loop-rest-preserved
loop-rest-preserved c =
    let accepted = rw c.in-Some.is at c.in_ok-next.ensures in
    let read = read_on _ _ _ _ _ _ _ c.loop-rest.invariant.0 c.cut_line.ensures.cut accepted in
    (read, omega (arith, c.loop-rest.invariant.1, c.cut_line.ensures.shorter))

pub returns-in-None-clause-gives : goal.returns-in-None-clause-gives
returns-in-None-clause-gives c =
    let barred = rw c.in-None.is at c.in_ok-next.ensures in
    stopped _ _ _ _ _ _ c.loop-rest.invariant.0 c.cut_line.ensures.cut barred

pub returns-in-None-clause-reads : goal.returns-in-None-clause-reads
returns-in-None-clause-reads c = faulty _ _ (returns-in-None-clause-gives c)

pub returns-in-Some-finish-clause-gives : goal.returns-in-Some-finish-clause-gives
returns-in-Some-finish-clause-gives c =
    let whole = closed _ _ _ _ (sym c.is_empty.ensures ∙ c.loop-rest-test.false) c.loop-rest.invariant.0 in
    whole ∙ rw c.in-Some-finish.ensures refl

pub returns-in-Some-finish-clause-reads : goal.returns-in-Some-finish-clause-reads
returns-in-Some-finish-clause-reads c = is_read _ _ (returns-in-Some-finish-clause-gives c)

pub returns-in-None-finish-clause-gives : goal.returns-in-None-finish-clause-gives
returns-in-None-finish-clause-gives c =
    let whole = closed _ _ _ _ (sym c.is_empty.ensures ∙ c.loop-rest-test.false) c.loop-rest.invariant.0 in
    whole ∙ c.in-None-finish.ensures c.loop-rest.number

pub returns-in-None-finish-clause-reads : goal.returns-in-None-finish-clause-reads
returns-in-None-finish-clause-reads c = faulty _ _ (returns-in-None-finish-clause-gives c)
