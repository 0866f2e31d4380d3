use Rattle.stack_rows.proofs.Bits.{removed_here, removed_others}
use Rattle.stack_rows.proofs.marks.Marks.remove.Goals as goal

pub returns-clause-here : goal.returns-clause-here
returns-clause-here c = removed_here c.args.self.now.words.items c.args.j c.requires c.index.result.now c.index.ensures

pub returns-clause-others : goal.returns-clause-others
returns-clause-others c = removed_others c.args.self.now.words.items c.args.j c.requires c.index.result.now
    c.index.ensures
