-- The names of a structure's bodies, one after the other.
use Rattle.std.proofs.Common.{◌≡◌, ℕ, ◌+◌, ◌<◌, true, List, [], ◌∷◌, ◌++◌, map, take, length, get_or, subst, sym, ap}
use Rattle.std.proofs.Common.{◌∙◌, String, string_bytes}
use Rattle.std.specs.declared.alloc.Global.{Global}
use Rattle.std.proofs.lemmas.List.{take_more, get_or-map, length-map, map-append}
use Rattle.stack_model.specs.Structure.{NamedBody, Structure, body_of}
use Rattle.stack_work.specs.Surveying.{structure_names}

abbrev name_in : NamedBody → List ℕ
name_in b = b.name

-- The name of a body, by its number.
pub name_is : (s : Structure) (i : ℕ) → i < length s.bodies → get_or (structure_names s) i [] ≡ (body_of s i).name
name_is s i lt = get_or-map name_in s.bodies i (record { name = []; material = 0; fixed = true; corners = [] }) [] lt

below : (s : Structure) (i : ℕ) → i < length s.bodies → i < length (structure_names s)
below s i lt = subst (λ n. i < n) (sym (length-map s.bodies name_in)) lt

pub one_more_name : (s : Structure) (i : ℕ) (names longer : List (String Global)) (name : String Global)
    → i < length s.bodies → string_bytes name ≡ (body_of s i).name → longer ≡ names ++ name ∷ []
    → map string_bytes names ≡ take i (structure_names s) → map string_bytes longer ≡ take (i + 1) (structure_names s)
one_more_name s i names longer name lt is added so_far =
    ap (map string_bytes) added
    ∙ map-append string_bytes names (name ∷ [])
    ∙ ap (λ xs. xs ++ string_bytes name ∷ []) so_far
    ∙ ap (λ x. take i (structure_names s) ++ x ∷ []) (is ∙ sym (name_is s i lt))
    ∙ sym (take_more (structure_names s) i [] (below s i lt))
