use Rattle.std.proofs.Common.{refl, sym}
use Rattle.stack_search_tests.proofs.simplex.ends_of.Goals as goal

pub run-found-requires-clause-written : goal.run-found-requires-clause-written
run-found-requires-clause-written g c = record {
  problem = c.args.p.now;
  condition = c.if-not-is_sound.ensures.meaning refl;
  is_its_table = record { shape = sym c.in-Ok.ensures.shape; table = sym c.in-Ok.ensures.ok };
}
