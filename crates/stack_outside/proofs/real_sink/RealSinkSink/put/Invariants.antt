-- The stream took the piece up to what is done.
use Rattle.std.proofs.Common.{◌≡◌, ◌≤◌, ◌-◌, length, take}
use Rattle.std.specs.Io.KnownBytes.{Appends}
use Rattle.stack_outside.proofs.real_sink.RealSinkSink.put.Given as goal

abbrev pub invariant-loop-done : goal.invariant-loop-done
invariant-loop-done g l =
    let old = l.initial.self in
    (l.done ≤ length l.piece)
    × (l.self.faults ≡ old.faults)
    × (g.S.RawStream.failed l.self.stream ≡ g.S.RawStream.failed old.stream)
    × (g.S.RawStream.never_fails old.stream → g.S.RawStream.never_fails l.self.stream)
    × Appends (g.S.RawStream.taken old.stream) (g.S.RawStream.taken l.self.stream) (take l.done l.piece)

abbrev pub decreases-loop-done : goal.decreases-loop-done
decreases-loop-done g l = length l.piece - l.done
