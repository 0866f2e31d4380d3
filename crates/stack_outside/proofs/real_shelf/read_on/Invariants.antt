-- What was read is a front of what the file had, it has the rest, and no more bytes were read than these.
use Rattle.std.proofs.Common.{◌≡◌, ◌≤◌, ◌+◌, ◌-◌, ℕ, List, vec_len}
use Rattle.std.specs.Io.KnownBytes.{Consumes}
use Rattle.stack_outside.specs.Shelves.{TakesAtMost}
use Rattle.stack_outside.proofs.real_shelf.read_on.Given as goal

abbrev pub invariant-loop-block : goal.invariant-loop-block
invariant-loop-block g l =
    let old = l.fn.files in
    let file = l.fn.file in
    (vec_len l.bytes ≤ l.most + 1)
    × (g.F.RawFiles.holds l.files ≡ g.F.RawFiles.holds old)
    × (g.F.RawFiles.asked l.files ≡ g.F.RawFiles.asked old)
    × TakesAtMost (vec_len l.bytes) (g.F.RawFiles.taken old) (g.F.RawFiles.taken l.files)
    × (g.F.RawFiles.failed l.files ≡ g.F.RawFiles.failed old)
    × ((other : List ℕ) → g.F.RawFiles.never_fails old other → g.F.RawFiles.never_fails l.files other)
    × Consumes (g.F.File.RawFile.left file) (g.F.File.RawFile.left l.file) l.bytes.items
    × (g.F.File.RawFile.never_fails file → g.F.File.RawFile.never_fails l.file)

abbrev pub decreases-loop-block : goal.decreases-loop-block
decreases-loop-block g l = l.most + 1 - vec_len l.bytes
