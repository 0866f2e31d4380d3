use Rattle.std.proofs.Common.{rules, ◌+◌, ◌-◌, ◌≤◌, length, take}
use Rattle.std.specs.Io.KnownBytes.{Appends}
use Rattle.stack_outside.proofs.Putting.{more_taken}
use Rattle.stack_outside.proofs.real_sink.RealSinkSink.put.Goals as goal
use Rattle.stack_outside.proofs.real_sink.RealSinkSink.put.Goals.{in_default-via-in-Ok+else-n-gt0}
use Rattle.stack_outside.proofs.real_sink.RealSinkSink.put.Goals.{in_default-via-in_default}

pub loop-done-preserved : goal.loop-done-preserved
loop-done-preserved g c =
    let first = g.S.RawStream.taken c.args.self.now.stream in
    let before = g.S.RawStream.taken c.loop-done.self.stream in
    let after = g.S.RawStream.taken c.write_some.new.self in
    let within : c.in-Ok.n ≤ length c.args.piece.now - c.loop-done.done = search rules in
    let taken : Appends first after (take (c.loop-done.done + c.in-Ok.n) c.args.piece.now) =
    more_taken first before after c.args.piece.now c.loop-done.done c.in-Ok.n c.loop-done.invariant.4
    within (c.in-Ok.ensures.takes) in
    (search rules, search rules, search rules, search rules, taken)

pub returns-in_default-clause-sound : goal.returns-in_default-clause-sound
returns-in_default-clause-sound g c sound =
    let some = c.write_some.ensures.some (c.loop-done.invariant.3 sound) in
    elim c.in_default.branch [
      | in_default-via-in-Ok+else-n-gt0 w ↦ search rules
      | in_default-via-in_default w ↦ search rules
    ]
