use Rattle.std.proofs.Common.{◌≡◌, ◌++◌, drop}
use Rattle.stack_pairs.specs.Directed.{directed_from}
use Rattle.stack_directions.proofs.directing.directed_loads.Given as goal

abbrev pub invariant-loop-k : goal.invariant-loop-k
invariant-loop-k l = directed_from l.t.i l.t.j l.t.m l.t.n 0 l.model.loads
    ≡ l.list.items ++ directed_from l.t.i l.t.j l.t.m l.t.n l.k (drop l.k l.model.loads)
