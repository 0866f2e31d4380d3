use Rattle.stack_certificate.specs.Certificate.{certificate_view}
use Rattle.stack_report.proofs.Accepted.{accepted_whole}
use Rattle.stack_report.proofs.summary.sample_summary.Goals as goal

pub lines-requires : goal.lines-requires
lines-requires c = accepted_whole c.args.s.now (certificate_view c.args.c.now) c.requires
