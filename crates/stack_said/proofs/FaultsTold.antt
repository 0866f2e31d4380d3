-- A call of a device that failed is told by the status.
use Rattle.std.proofs.Common.{◌≡◌, ℕ, ◌<◌, ◌⊎◌, inl, inr, Result, Ok, Err, ap, ◌∙◌, arith}
use Rattle.stack_work.proofs.Common.{Answer, Input, ShelfSeen, StreamSeen, faulty, file, memory, status_of}
use Rattle.stack_lines.specs.declared.refusal.Refusal.{Refusal as CodeRefusal}
use Rattle.stack_lines.specs.declared.refusal.Refusal.TheVariants as code
use Rattle.stack_work.specs.Progress.{CountsUnread}
use Rattle.stack_said.specs.Delivery.{TakesMemory, TellsRefusal, Delivers}

-- the output is called for an answer alone, and its failure has a status of its own
pub told_write : (worked : Result Answer CodeRefusal) (status : ℕ) (out err : StreamSeen)
    → Delivers worked status out err → out.faults < out.faults_after → status ≡ 10
told_write (Ok a) status out err (inl w) rose = let h = w.stays in absurd (omega (arith, h, rose))
told_write (Ok a) status out err (inr f) rose = f.is_status
told_write (Err r) status out err t rose = let h = t.stays in absurd (omega (arith, h, rose))

told_file : (input : Input) (status : ℕ) (out err : StreamSeen) (t : TellsRefusal (file input) status out err)
    → (t.told ≡ file input) ⊎ (TakesMemory (file input) × (t.told ≡ faulty memory)) → (status ≡ 3) ⊎ (status ≡ 11)
told_file input status out err t (inl same) = inl (t.is_status ∙ ap status_of same)
told_file input status out err t (inr want) = inr (t.is_status ∙ ap status_of want.1)

-- the shelf's count rose only where work ended at a file that isn't read
pub told_read : (shelf : ShelfSeen) (worked : Result Answer CodeRefusal) (status : ℕ) (out err : StreamSeen)
    → CountsUnread worked shelf → Delivers worked status out err → shelf.faults < shelf.faults_after
    → (status ≡ 3) ⊎ (status ≡ 11)
told_read shelf (Ok a) status out err counts d rose = absurd (omega (arith, counts, rose))
told_read shelf (Err (code.File input)) status out err counts t rose = told_file input status out err t t.which
told_read shelf (Err _) status out err counts t rose = absurd (omega (arith, counts, rose))
