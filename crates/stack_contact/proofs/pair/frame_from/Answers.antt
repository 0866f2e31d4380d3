use Rattle.stack_polygon.proofs.Stored.{is_step}
use Rattle.stack_contact.proofs.StoredDirections.{stored-apart, frame-stored}
use Rattle.stack_contact.proofs.pair.frame_from.Goals as goal

pub frame_of-requires-clause-dx : goal.frame_of-requires-clause-dx
frame_of-requires-clause-dx c = is_step c.args.b.x c.args.a.x c.requires.b.x c.requires.a.x

pub frame_of-requires-clause-dy : goal.frame_of-requires-clause-dy
frame_of-requires-clause-dy c = is_step c.args.b.y c.args.a.y c.requires.b.y c.requires.a.y

pub frame_of-requires-clause-some : goal.frame_of-requires-clause-some
frame_of-requires-clause-some c = stored-apart c.args.a c.args.b c.requires.a c.requires.b c.requires.apart

pub returns : goal.returns
returns c = frame-stored c.args.a c.args.b c.frame_of.result c.requires.a c.requires.b
    c.frame_of.ensures.direction
