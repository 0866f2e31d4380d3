use Rattle.std.proofs.Common.{refl}
use Rattle.stack_outside.specs.Seen.{seen_stream}
use Rattle.stack_said.proofs.Returned.{kept_same, refusal_told}
use Rattle.stack_said.proofs.Puts.{puts_nothing}
use Rattle.stack_cli.proofs.command.deliver.Goals as goal

pub returns-in-Err-clause-delivers : goal.returns-in-Err-clause-delivers
returns-in-Err-clause-delivers g c =
    refusal_told _ c.in-Err.refusal c.say.result _ _ _ c.in-Err.is c.say.ensures.which
    c.status.ensures (kept_same (g.O.Sink.written c.args.out.now)) refl c.say.ensures.line

pub returns-in-Err-clause-one_put : goal.returns-in-Err-clause-one_put
returns-in-Err-clause-one_put g c = puts_nothing _ c.in-Err.refusal c.say.result _
    (seen_stream g.O.Sink c.args.out.now c.args.out.now) c.in-Err.is
    c.say.ensures.which c.status.ensures refl
