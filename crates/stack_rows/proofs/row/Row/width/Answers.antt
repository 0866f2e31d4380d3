use Rattle.std.proofs.Common.{arith}
use Rattle.std.proofs.lemmas.List.{length_push}
use Rattle.stack_rows.specs.EntriesSeen.{entries_of}
use Rattle.stack_rows.proofs.row.Row.width.Goals as goal

pub returns : goal.returns
returns c = omega (arith, c.count.ensures.count, length_push (entries_of c.args.self.now.entries) c.args.self.now.right)
