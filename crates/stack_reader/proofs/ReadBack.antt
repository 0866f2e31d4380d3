-- The text of a sound structure gives the structure.
use Rattle.std.proofs.Common.{◌≡◌, ℕ, ◌≤◌, List, Some, Ok, sym, ap, ◌∙◌, subst, arith}
use Rattle.std.specs.Str.{IsUtf8}
use Rattle.toml.specs.Data.{Members, members_depth}
use Rattle.toml.specs.Parse.{parse_document}
use Rattle.stack_algebra.specs.Steps.{◌>>=◌}
use Rattle.stack_model.specs.Structure.{Structure}
use Rattle.stack_model.specs.Content.{content_of}
use Rattle.stack_model.specs.Relisted.{relisted}
use Rattle.stack_model.specs.Sound.{IsSound}
use Rattle.stack_model.proofs.Heads.{relisted_of_version}
use Rattle.stack_model.proofs.Taken.{taken}
use Rattle.stack_reader.specs.Reading.{within_file, document_table, model_of, structure_of}
use Rattle.stack_reader.specs.Writing.{parts_data}
use Rattle.stack_reader.proofs.Documents.{table_read}
use Rattle.stack_reader.proofs.Written.{parts_back, parts_depth}

model_back : (s : Structure) → IsSound s → model_of (parts_data (relisted s)) ≡ Ok s
unfolding model_of
model_back s sound =
    ap (λ r. r >>= λ parts. within_file (content_of parts))
    (parts_back (relisted s) sound.version.known (relisted_of_version s sound.version))
    ∙ ap within_file (taken s sound)

-- the table of a structure is as shallow as a reader takes
shallow : (ms : Members) (s : Structure) → ms ≡ parts_data (relisted s) → members_depth ms ≤ 80
shallow ms s same =
    let few = parts_depth (relisted s) in
    subst (λ t. members_depth t ≤ 80) (sym same) (omega arith)

-- the table that such bytes write is the structure's, listed as a file lists it
pub table_back : (bytes : List ℕ) (s : Structure) (ms : Members) → IsUtf8 bytes
    → (members_depth ms ≤ 80 → parse_document bytes ≡ Some ms)
    → ms ≡ parts_data (relisted s) → document_table bytes ≡ Ok (parts_data (relisted s))
table_back bytes s ms u h same = table_read bytes ms (u, h (shallow ms s same)) ∙ ap Ok same

-- the structure that such bytes describe is that structure
pub read_back : (bytes : List ℕ) (s : Structure) (ms : Members) → IsUtf8 bytes
    → (members_depth ms ≤ 80 → parse_document bytes ≡ Some ms)
    → ms ≡ parts_data (relisted s) → IsSound s → structure_of bytes ≡ Ok s
unfolding structure_of
read_back bytes s ms u h same sound =
    ap (λ r. r >>= model_of) (table_read bytes ms (u, h (shallow ms s same)))
    ∙ (ap model_of same ∙ model_back s sound)
