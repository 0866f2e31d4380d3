-- What a check answers, as text: accepted, or why the certificate is rejected. And where a number of it is too wide.
use Rattle.std.specs.Prelude.{ℕ, ◌+◌, List, [], ◌∷◌, ◌++◌, codes, decimal, slice_index, length, nat_lt, if◌then◌else◌}
use Rattle.stack_model.specs.Structure.{Structure, body_of}
use Rattle.stack_contact.specs.FreeBlocks.{frees_of}
use Rattle.stack_checker.specs.declared.types.Part.{Part}
use Rattle.stack_checker.specs.declared.types.Reason.{Reason}
use Rattle.stack_checker.specs.declared.types.Reason.TheVariants as reasons
use Rattle.stack_checker.specs.declared.types.CheckAt.{CheckAt}
use Rattle.stack_checker.specs.declared.types.CheckAt.TheVariants as spots
use Rattle.stack_lines.specs.Refusals.{part_word, axis_word, Place, cone_at, balance_of, resisted_at, work, apart}

-- The name of the free block with this number, counted from 0 among the free blocks; empty if there is none.
abbrev pub block_name : Structure → ℕ → List ℕ
block_name s block =
    let frees = frees_of s.bodies in
    if nat_lt block (length frees) then (body_of s (slice_index frees block)).name else []

-- Why a certificate is rejected. A bearing goes by its number from 1, a block by its name.
abbrev pub reason_text : Structure → Reason → List ℕ
reason_text s reasons.Count = codes "count"
reason_text s reasons.Scale = codes "scale"
reason_text s reasons.Factor = codes "factor"
reason_text s (reasons.Push k) = codes "push " ++ decimal (k + 1)
reason_text s (reasons.Cone k) = codes "cone " ++ decimal (k + 1)
reason_text s (reasons.Balance block axis) = codes "balance " ++ block_name s block ++ codes " " ++ axis_word axis
reason_text s (reasons.Resisted k) = codes "resisted " ++ decimal (k + 1)
reason_text s reasons.NoWork = codes "no work"
reason_text s reasons.Apart = codes "apart"

-- The line of a certificate that is accepted.
abbrev pub accepted_text : List ℕ
accepted_text = codes "accepted" ++ 10 ∷ []

-- A rejection: the part of the certificate, and which of its tests fails first.
abbrev pub rejected_text : Structure → Part → Reason → List ℕ
rejected_text s part reason =
    codes "rejected " ++ part_word part ++ codes " " ++ reason_text s reason ++ 10 ∷ []

-- The place of a number of the check that is too wide. A block goes by its name.
abbrev pub place_of : Structure → CheckAt → Place
place_of s (spots.Cone k) = cone_at k
place_of s (spots.Balance block axis) = balance_of (block_name s block) axis
place_of s (spots.Resisted k) = resisted_at k
place_of s spots.Work = work
place_of s spots.Apart = apart
