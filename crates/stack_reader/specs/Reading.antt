-- The structure that a file's bytes describe, or their first fault: `toml` decides what a document is, then
-- come the faults of shape, and then those of content.
use Rattle.std.specs.Prelude.{ℕ, List, Option, Some, None, Result, Ok, Err, if◌then◌else◌}
use Rattle.std.specs.Str.{is_utf8}
use Rattle.toml.specs.Data.{Members}
use Rattle.toml.specs.Parse.{parse_document}
use Rattle.stack_algebra.specs.Steps.{◌>>=◌}
use Rattle.stack_model.specs.declared.errors.ModelError.{ModelError}
use Rattle.stack_model.specs.declared.errors.ModelError.TheVariants as faults
use Rattle.stack_model.specs.Structure.{Structure}
use Rattle.stack_model.specs.Content.{content_of}
use Rattle.stack_reader.specs.declared.errors.ReadError.{ReadError}
use Rattle.stack_reader.specs.declared.errors.ReadError.TheVariants.{NotToml, Model, Memory}
use Rattle.stack_reader.specs.Shape.{parts_of_document}

-- the table of a document
abbrev pub parsed : Option Members → Result Members ReadError
parsed None = Err NotToml
parsed (Some ms) = Ok ms

-- the table that a file's bytes write; bytes that aren't UTF-8 write none
unfoldable pub document_table : List ℕ → Result Members ReadError
document_table bytes = if is_utf8 bytes then parsed (parse_document bytes) else Err NotToml

-- a fault of content, as a fault of a file
abbrev pub from_content : ModelError → ReadError
from_content faults.Memory = Memory
from_content e = Model e

-- the structure, or its fault of content as one of a file
abbrev pub within_file : Result Structure ModelError → Result Structure ReadError
within_file (Ok s) = Ok s
within_file (Err e) = Err (from_content e)

-- the structure of a table
unfoldable pub model_of : Members → Result Structure ReadError
model_of ms = do
  parts ← parts_of_document ms
  within_file (content_of parts)

-- the structure of a file's bytes
unfoldable pub structure_of : List ℕ → Result Structure ReadError
structure_of bytes = do
  ms ← document_table bytes
  model_of ms
