-- What lists of files and of failing calls say, where a name or a number may stand twice: the first counts.
use Rattle.std.specs.Prelude.{ℕ, List, [], ◌∷◌, map, Option, Some, None, String, Vec, string_bytes, if◌then◌else◌, ◌==◌}
use Rattle.std.specs.Str.{bytes_eq}
use Rattle.std.specs.declared.alloc.Global.{Global}

-- The bytes of the first file with the name.
abbrev pub held_of : List (String Global × Vec ℕ Global) → List ℕ → Option (List ℕ)
held_of [] name = None
held_of (file ∷ files) name = if bytes_eq (string_bytes file.0) name then Some file.1.items else held_of files name

-- The names, as bytes.
abbrev pub names_of : List (String Global) → List (List ℕ)
names_of names = map string_bytes names

-- The count of the first pair with the number of the call.
abbrev pub kept_of : List (ℕ × ℕ) → ℕ → Option ℕ
kept_of [] call = None
kept_of (pair ∷ pairs) call = if pair.0 == call then Some pair.1 else kept_of pairs call
