use Rattle.stack_judge.proofs.RevisedRuns.{own_ray}
use Rattle.stack_judge.proofs.revised.certify_last.Goals as goal

pub certify_at-requires-clause-reads : goal.certify_at-requires-clause-reads
certify_at-requires-clause-reads c = own_ray c.args.last.now.kind
