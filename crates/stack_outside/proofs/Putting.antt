-- What a stream took of a piece, call by call.
use Rattle.std.proofs.Common.{◌+◌, ◌-◌, ◌≤◌, sym, subst, ℕ, List, Option, length, take, drop}
use Rattle.std.proofs.KnownBytes.{Appends-trans}
use Rattle.std.proofs.Math.Seq.{take-add}
use Rattle.std.proofs.lemmas.List.{take-take}
use Rattle.std.specs.Io.KnownBytes.{Appends}

-- A front of the piece was taken, and then a front of the rest.
pub more_taken : (first before after : Option (List ℕ)) (piece : List ℕ) (done n : ℕ)
    → Appends first before (take done piece) → n ≤ length piece - done
    → Appends before after (take n (take (length piece - done) (drop done piece)))
    → Appends first after (take (done + n) piece)
more_taken first before after piece done n old within new =
    let rest = take-take n (length piece - done) (drop done piece) within in
    subst (Appends first after) (sym (take-add done n piece))
    (Appends-trans first before after _ _ old (subst (Appends before after) rest new))
