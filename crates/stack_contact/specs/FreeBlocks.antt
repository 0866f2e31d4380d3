-- The free blocks of a structure: the bodies that aren't fixed, in order. Blocks are counted among them, from
-- 0.
use Rattle.std.specs.Prelude.{ℕ, zero, suc, ◌+◌, List, [], ◌∷◌, get_or, not, cond, if◌then◌else◌}
use Rattle.stack_model.specs.Structure.{NamedBody, body_at}

-- the numbers of the free ones among bodies that are numbered from i on
abbrev pub frees_from : ℕ → List NamedBody → List ℕ
frees_from i [] = []
frees_from i (b ∷ bs) = if b.fixed then frees_from (i + 1) bs else i ∷ frees_from (i + 1) bs

-- the numbers of the free ones among all bodies
abbrev pub frees_of : List NamedBody → List ℕ
frees_of bodies = frees_from 0 bodies

-- the body that is free block number b
abbrev pub free_of : List NamedBody → ℕ → ℕ
free_of bodies b = get_or (frees_of bodies) b 0

-- how many of the first i bodies are free. Where body i is free, this is its number among the free blocks
abbrev pub frees_before : List NamedBody → ℕ → ℕ
frees_before bodies zero = 0
frees_before bodies (suc i) = frees_before bodies i + cond (not (body_at bodies i).fixed) 1 0
