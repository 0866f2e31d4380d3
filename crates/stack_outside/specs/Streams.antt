-- Which of the two standard streams a stream is.
use Rattle.stack_outside.specs.declared.stream.EitherStream.{EitherStream}
use Rattle.stack_outside.specs.declared.stream.EitherStream.TheVariants as either
use Rattle.stack_outside.specs.declared.stream.Stream.{Stream}
use Rattle.stack_outside.specs.declared.stream.Stream.TheVariants.{Output, Fault}

-- A stream for the output is standard output, one for the errors standard error.
abbrev pub stream_of : {O E : Type 0} → EitherStream O E → Stream
stream_of (either.Output o) = Output
stream_of (either.Fault e) = Fault
