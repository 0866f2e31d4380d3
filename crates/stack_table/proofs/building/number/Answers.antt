use Rattle.stack_table.specs.Lent.{problem_of}
use Rattle.stack_table.proofs.Numbers.{entry_is_small, small_back}
use Rattle.stack_table.proofs.building.number.Goals as goal

pub turned-requires : goal.turned-requires
turned-requires c = let P = c.args.p.now in let s = entry_is_small P c.requires.problem c.args.i c.args.j in
    rw (small_back c.entry.result ((problem_of P).entry c.args.i c.args.j) c.entry.ensures s) s
