use Rattle.std.proofs.Common.{ℕ, Vec, Global, ap, ◌∙◌}
use Rattle.std.proofs.lemmas.Str.{IsUtf8-string_bytes}
use Rattle.stack_reader.specs.Reading.{document_table, structure_of}
use Rattle.stack_reader.proofs.ReadBack.{read_back, table_back}
use Rattle.stack_reader.proofs.writing.write_model.Goals as goal

pub returns-in-Ok-clause-read : goal.returns-in-Ok-clause-read
returns-in-Ok-clause-read c =
    ap (λ (v : Vec ℕ Global). structure_of v.items) c.into_bytes.ensures.value
    ∙ read_back _ c.args.model.now _ (IsUtf8-string_bytes c.in-Ok.text) c.in-Ok.ensures.reads_back
    c.in_ok-table.ensures.value c.model_table.ensures.sound

pub returns-in-Ok-clause-table : goal.returns-in-Ok-clause-table
returns-in-Ok-clause-table c =
    ap (λ (v : Vec ℕ Global). document_table v.items) c.into_bytes.ensures.value
    ∙ table_back _ c.args.model.now _ (IsUtf8-string_bytes c.in-Ok.text) c.in-Ok.ensures.reads_back
    c.in_ok-table.ensures.value
