use Rattle.std.proofs.Common.{subst}
use Rattle.stack_algebra.specs.Fraction.{Fraction}
use Rattle.stack_run.specs.WrittenRun.{End}
use Rattle.stack_extract.proofs.EndedTables.{same_end, is_last, some_last, reads_ray}
use Rattle.stack_judge.specs.Certifying.{GivesChecked}
use Rattle.stack_judge.proofs.certifying.certify.Goals as goal

pub certify_at-requires-clause-end : goal.certify_at-requires-clause-end
certify_at-requires-clause-end g c = some_last c.last_table.ensures c.kind_of.ensures c.requires

pub certify_at-requires-clause-reads : goal.certify_at-requires-clause-reads
certify_at-requires-clause-reads g c =
    reads_ray c.last_table.ensures c.kind_of.ensures c.run_laws.ensures.ends c.requires

pub returns-clause-gives : goal.returns-clause-gives
returns-clause-gives g c q h = subst (λ (x : End Fraction). GivesChecked c.certify_at.result q c.args.s.now x)
    (same_end c.args.e.now c.last_table.ensures c.kind_of.ensures)
    (c.certify_at.ensures.gives q (is_last c.last_table.ensures c.kind_of.ensures q h))

pub returns-clause-judged : goal.returns-clause-judged
returns-clause-judged g c q h =
    c.certify_at.ensures.judged q (is_last c.last_table.ensures c.kind_of.ensures q h)
