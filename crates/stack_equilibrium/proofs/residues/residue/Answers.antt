use Rattle.stack_certificate.specs.Certificate.{forces_view}
use Rattle.stack_equilibrium.proofs.SceneSums.{residue_settles}
use Rattle.stack_equilibrium.proofs.residues.residue.Goals as goal

pub returns : goal.returns
returns c = record {
  written = c.sums_at.ensures;
  sums = residue_settles c.args.s.now (forces_view c.args.f.now) c.args.b c.sums_at.result c.sums_at.ensures;
}
