use Rattle.std.proofs.Common.{refl}
use Rattle.stack_work.proofs.FileRead.{gave, failed, was_long, wanted}
use Rattle.stack_forms.proofs.reading.read_file.Goals as goal

pub returns-in-Ok : goal.returns-in-Ok
returns-in-Ok g c = gave _ _ _ c.in-Ok.ensures.holds c.in-Ok.ensures.later c.in-Ok.bytes c.in-Ok.ensures.gives
    c.in-Ok.ensures.asked c.in-Ok.ensures.count

pub returns-in-Err-Failed : goal.returns-in-Err-Failed
returns-in-Err-Failed g c = failed _ _ _ c.in-Err-Failed.ensures.holds c.in-Err-Failed.ensures.later
    (rw c.in-Err-Failed.field-0-is at c.in-Err-Failed.ensures.asked)
    ((rw c.in-Err-Failed.field-0-is at c.in-Err-Failed.ensures.cause) refl)
    (rw c.in-Err-Failed.field-0-is at c.in-Err-Failed.ensures.count)

pub returns-in-Err-TooLong : goal.returns-in-Err-TooLong
returns-in-Err-TooLong g c = was_long _ _ _ c.in-Err-TooLong.ensures.holds c.in-Err-TooLong.ensures.later
    (rw c.in-Err-TooLong.field-0-is at c.in-Err-TooLong.ensures.gives)
    (rw c.in-Err-TooLong.field-0-is at c.in-Err-TooLong.ensures.asked)
    (rw c.in-Err-TooLong.field-0-is at c.in-Err-TooLong.ensures.count)

pub returns-in-Err-Memory : goal.returns-in-Err-Memory
returns-in-Err-Memory g c = wanted _ _ _ c.in-Err-Memory.ensures.holds c.in-Err-Memory.ensures.later
    (rw c.in-Err-Memory.field-0-is at c.in-Err-Memory.ensures.asked)
    (rw c.in-Err-Memory.field-0-is at c.in-Err-Memory.ensures.count)
