use Rattle.stack_rows.proofs.Bits.{put_here, put_others}
use Rattle.stack_rows.proofs.marks.Marks.put.Goals as goal

pub returns-clause-here : goal.returns-clause-here
returns-clause-here c = put_here c.args.self.now.words.items c.args.j c.requires c.index.result.now c.index.ensures

pub returns-clause-others : goal.returns-clause-others
returns-clause-others c = put_others c.args.self.now.words.items c.args.j c.requires c.index.result.now c.index.ensures
