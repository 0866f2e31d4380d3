-- Two numbers of a file's loads, counted from 1, and what they name.
use Rattle.std.specs.Prelude.{◌≡◌, ◌↔◌, ℕ, zero, suc, ◌+◌, ◌⊎◌, pos, negsuc, Bool, true, IsTrue, Result, Ok, Err}
use Rattle.std.specs.Prelude.{◌&&◌, nat_eq, if◌then◌else◌, Option, Some, None}
use Rattle.stack_model.specs.Limits.{is_between}
use Rattle.stack_algebra.specs.IntegerOrder.{◌≼◌}
use Rattle.stack_model.specs.declared.types.Load.{Load}
use Rattle.stack_model.specs.Structure.{Structure, load_of}
use Rattle.stack_pairs.specs.Directed.{IsSlightLive, ArePair}
use Rattle.stack_directions.specs.declared.errors.NoPair.{NoPair}
use Rattle.stack_directions.specs.declared.naming.LoadPair.{LoadPair}

-- a live load with no component of more than 1,000,000 in size
pub record IsSlightLoad (l : Load) : Type 0 where
  pub live : l.live ≡ true
  pub least_fx : negsuc 999999 ≼ l.fx
  pub most_fx : l.fx ≼ pos 1000000
  pub least_fy : negsuc 999999 ≼ l.fy
  pub most_fy : l.fy ≼ pos 1000000

-- whether it is one, by a test
abbrev pub IsSlight : Bool → Load → Type 0
IsSlight t l = IsTrue t ↔ IsSlightLoad l

-- the number n, from 1, is that of load k, from 0, and it is such a load
pub record Names (s : Structure) (n k : ℕ) : Type 0 where
  pub number : n ≡ k + 1
  pub load : IsSlightLive s k

-- the first number that names no such load: the first of the two; or the second, which names none or is the first again
abbrev pub IsInTheWay : Structure → (i j n : ℕ) → Type 0
IsInTheWay s i j n = ((n ≡ i) × ((k : ℕ) → ¬ Names s i k))
    ⊎ ((n ≡ j) × (((k : ℕ) × Names s i k) × (((k : ℕ) → ¬ Names s j k) ⊎ (i ≡ j))))

-- what two numbers name: two loads, from 0, or the first number at fault
abbrev pub Pairs : Structure → (i j : ℕ) → Result (ℕ × ℕ) NoPair → Type 0
Pairs s i j (Ok r) = (i ≡ r.0 + 1) × ((j ≡ r.1 + 1) × ArePair s r.0 r.1)
Pairs s i j (Err e) = IsInTheWay s i j e.load

-- whether a load is live, with no component of more than 1,000,000 in size
abbrev pub is_slight_load : Load → Bool
is_slight_load l = l.live && (is_between (negsuc 999999) (pos 1000000) l.fx
    && is_between (negsuc 999999) (pos 1000000) l.fy)

-- the number from 0 of the load with a number from 1, if it is such a load. Past the end stands no live load
abbrev pub slight_number : Structure → ℕ → Option ℕ
slight_number s zero = None
slight_number s (suc k) = if is_slight_load (load_of s k) then Some k else None

-- both numbers, or the first one at fault
abbrev pub paired : (i j : ℕ) → Option ℕ → Option ℕ → Result LoadPair ℕ
paired i j None b = Err i
paired i j (Some a) None = Err j
paired i j (Some a) (Some b) = if nat_eq i j then Err j else Ok (record { i = a; j = b })

-- the pair of two numbers of a file's loads, as a function of the structure
abbrev pub pair_of : Structure → (i j : ℕ) → Result LoadPair ℕ
pair_of s i j = paired i j (slight_number s i) (slight_number s j)

-- what is returned are the two loads, or the number at fault
abbrev pub GivesPair : Result (ℕ × ℕ) NoPair → Result LoadPair ℕ → Type 0
GivesPair (Ok r) p = p ≡ Ok (record { i = r.0; j = r.1 })
GivesPair (Err e) p = p ≡ Err e.load
