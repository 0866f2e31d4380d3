use Rattle.stack_statics.proofs.CertificateLaws.{stands_is_carried, collapse_excludes_balance}
use Rattle.stack_statics.proofs.CertificateLaws.{greatest_is_carried, greatest_bounds_every_factor}
use Rattle.stack_statics.proofs.CertificateLaws.{unbounded_carries_above, unbounded_carries_all}
use Rattle.stack_statics.proofs.laws.certificate_laws.Goals as goal

pub returns : goal.returns
returns c = record {
  stands = stands_is_carried;
  collapse = collapse_excludes_balance;
  greatest = greatest_is_carried;
  bound = greatest_bounds_every_factor;
  above = unbounded_carries_above;
  all = unbounded_carries_all;
}
