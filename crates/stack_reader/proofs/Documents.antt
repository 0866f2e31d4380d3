-- From bytes to a table.
use Rattle.std.proofs.Common.{◌≡◌, ℕ, Bool, true, false, List, Some, None, Ok, Err, refl}
use Rattle.std.specs.Str.{IsUtf8, is_utf8}
use Rattle.std.proofs.lemmas.Str.{IsUtf8-from_is_utf8, is_utf8-from_IsUtf8}
use Rattle.toml.specs.Data.{Members}
use Rattle.toml.specs.Parse.{parse_document}
use Rattle.stack_reader.specs.declared.errors.ReadError.TheVariants.{NotToml}
use Rattle.stack_reader.specs.Reading.{document_table}

pub table_read : (bytes : List ℕ) (ms : Members) → IsUtf8 bytes × (parse_document bytes ≡ Some ms)
    → document_table bytes ≡ Ok ms
unfolding document_table
table_read bytes ms h = rw (is_utf8-from_IsUtf8 bytes h.0, h.1) refl

pub no_table : (bytes : List ℕ) → (IsUtf8 bytes → parse_document bytes ≡ None) → document_table bytes ≡ Err NotToml
unfolding document_table
no_table bytes h = go (is_utf8 bytes) refl
  where
    go : (u : Bool) → is_utf8 bytes ≡ u → document_table bytes ≡ Err NotToml
    go true e = rw (e, h (IsUtf8-from_is_utf8 bytes e)) refl
    go false e = rw e refl
