-- The first bearing whose parts are too wide, as a loop finds it.
use Rattle.std.proofs.Common.{◌≡◌, refl, sym, ap, ◌∙◌, ℕ, ◌+◌, ◌*◌, ◌<◌, Bool, true, false, not, ◌&&◌, List, ◌∷◌, ◌++◌}
use Rattle.std.proofs.Common.{[], length, get_or, Some, None, Result, Ok, Err, if◌then◌else◌, ℤ, ◌+ℤ◌, ◌-ℤ◌, ◌*ℤ◌}
use Rattle.stack_rational.proofs.Common.{first, only_if, first_found, first_more, listed}
use Rattle.stack_equilibrium.proofs.Common.{Bearing, Cone, Wide, fits, made, no_bearing, whole, ◌>>=◌}
use Rattle.stack_equilibrium.specs.declared.block.Push.{Push}
use Rattle.stack_whole.specs.declared.whole.Whole.{Whole as Number}
use Rattle.stack_equilibrium.proofs.InOrder.{bind_ok}
use Rattle.stack_extract.specs.WholeLists.{amount}
use Rattle.stack_extract.specs.Certified.{pair_between, pair_at}
use Rattle.stack_extract.specs.declared.types.Numbers.{Numbers}
use Rattle.stack_extract.specs.declared.types.EndStep.TheVariants.{Part}
use Rattle.stack_extract.specs.Places.{extract_place, part_fits, part_spot, part_place}
use Rattle.stack_extract.specs.WrittenPart.{written_part}
use Rattle.stack_extract.proofs.TableReads.{grown}

abbrev pub chosen : Bool → ℤ → Result Number Wide
chosen b z = if b then Ok (record { value = z }) else Err (record {})

-- what is made fits
made_fits : (z : ℤ) (w : Number) → made z ≡ Ok w → (fits z ≡ true) × (w.value ≡ z)
made_fits z w e = go (fits z) refl e
  where
    go : (b : Bool) → fits z ≡ b → chosen b z ≡ Ok w → (fits z ≡ true) × (w.value ≡ z)
    go true f e = (f, cc)
    go false f e = absurd cc

is_made : (z : ℤ) → fits z ≡ true → made z ≡ Ok (whole z)
is_made z h = λ i. chosen (h i) z

pub record IsPart (z : Bearing) (w v : ℤ) (r : Push) : Type 0 where
  pub fits : part_fits z w v ≡ true
  pub pair : (r.a.value, r.b.value) ≡ pair_between z w v

all_true : (a b c : Bool) → a ≡ true → b ≡ true → c ≡ true → (a && (b && c)) ≡ true
all_true a b c p q r = λ i. p i && (q i && r i)

each_true : (a b c : Bool) → (a && (b && c)) ≡ true → (a ≡ true) × (b ≡ true) × (c ≡ true)
each_true true true true h = (refl, refl, refl)
each_true true true false h = absurd cc
each_true true false c h = absurd cc
each_true false b c h = absurd cc

-- the parts that are made of a bearing
pub part_ok : (z : Bearing) (w v : Number) (r : Push) → written_part z.cone w v ≡ Ok r →
    IsPart z w.value v.value r
unfolding written_part
part_ok z w v r h =
    let c = z.cone in
    let one = bind_ok (made (w.value +ℤ v.value)) (λ sum. made (c.q *ℤ sum.value) >>= λ a.
    made (c.p *ℤ (w.value -ℤ v.value)) >>= λ b. Ok (record { a = a; b = b })) r h in
    let two = bind_ok (made (c.q *ℤ one.value.value)) (λ a.
    made (c.p *ℤ (w.value -ℤ v.value)) >>= λ b. Ok (record { a = a; b = b })) r one.after in
    let three = bind_ok (made (c.p *ℤ (w.value -ℤ v.value)))
    (λ b. Ok (record { a = two.value; b = b })) r two.after in
    told z w.value v.value one.value two.value three.value r
    (made_fits (w.value +ℤ v.value) one.value one.before)
    (made_fits (c.q *ℤ one.value.value) two.value two.before)
    (made_fits (c.p *ℤ (w.value -ℤ v.value)) three.value three.before) three.after
  where
    told : (z : Bearing) (w v : ℤ) (sum a b : Number) (r : Push) → (fits (w +ℤ v) ≡ true) ×
        (sum.value ≡ w +ℤ v) →
        (fits (z.cone.q *ℤ sum.value) ≡ true) × (a.value ≡ z.cone.q *ℤ sum.value) →
        (fits (z.cone.p *ℤ (w -ℤ v)) ≡ true) × (b.value ≡ z.cone.p *ℤ (w -ℤ v)) →
        ◌≡◌ {A = Result Push Wide} (Ok (record { a = a; b = b })) (Ok r) → IsPart z w v r
    told z w v sum a b r p q t e = record {
      fits = all_true _ _ _ p.0 (ap (λ y. fits (z.cone.q *ℤ y)) (sym p.1) ∙ q.0) t.0;
      pair = sym (λ i. ((same i).a.value, (same i).b.value)) ∙
          (λ i. ((q.1 ∙ ap (λ y. z.cone.q *ℤ y) p.1) i, t.1 i));
    }
      where
        same : ◌≡◌ {A = Push} (record { a = a; b = b }) r
        same = cc

all_made : (c : Cone) (w v : Number) → fits (w.value +ℤ v.value) ≡ true → fits
    (c.q *ℤ (w.value +ℤ v.value)) ≡ true →
    fits (c.p *ℤ (w.value -ℤ v.value)) ≡ true →
    written_part c w v ≡ Ok (record {
      a = whole (c.q *ℤ (w.value +ℤ v.value));
      b = whole
          (c.p *ℤ (w.value -ℤ v.value));
    })
unfolding written_part
all_made c w v p q t =
    (λ i. is_made (w.value +ℤ v.value) p i >>= λ sum. made (c.q *ℤ sum.value) >>= λ a.
    made (c.p *ℤ (w.value -ℤ v.value)) >>= λ b. Ok (record { a = a; b = b }))
    ∙ (λ i. is_made (c.q *ℤ (w.value +ℤ v.value)) q i >>= λ a.
    made (c.p *ℤ (w.value -ℤ v.value)) >>= λ b. Ok (record { a = a; b = b }))
    ∙ (λ i. is_made (c.p *ℤ (w.value -ℤ v.value)) t i >>= λ b.
    Ok (record { a = whole (c.q *ℤ (w.value +ℤ v.value)); b = b }))

-- where a number of a bearing's parts isn't made, it is too wide
pub part_wide : (z : Bearing) (w v : Number) (x : Wide) → written_part z.cone w v ≡ Err x →
    part_fits z w.value v.value ≡ false
part_wide z w v x h = go (part_fits z w.value v.value) refl
  where
    go : (b : Bool) → part_fits z w.value v.value ≡ b → part_fits z w.value v.value ≡ false
    go false e = e
    go true e = absurd (let t = each_true _ _ _ e in let k = sym h ∙ all_made z.cone w v t.0 t.1 t.2 in cc)

-- bearing k with its two amounts
pub record IsBearingAt (bs : List Bearing) (zs : List ℤ) (k : ℕ) (z : Bearing) (w v : Number) : Type 0 where
  pub within : k < length bs
  pub bearing : z ≡ get_or bs k no_bearing
  pub first : w ≡ whole (amount zs (2 * k))
  pub second : v ≡ whole (amount zs (2 * k + 1))

-- the parts of the first k bearings, and none of them is too wide
module _ (l : Numbers) (bs : List Bearing) (zs : List ℤ) where
  pub record PartsSoFar (k : ℕ) (ps : List (ℤ × ℤ)) : Type 0 where
    pub parts : ps ≡ listed k (pair_at bs zs)
    pub fit : first k (part_spot l bs zs) ≡ None

  module _ (k : ℕ) (z : Bearing) (w v : Number) (ps : List (ℤ × ℤ)) (h : IsBearingAt bs zs k z w v)
      (f : PartsSoFar k ps) where
    spot_is : (b : Bool) → part_fits z w.value v.value ≡ b →
        part_spot l bs zs k ≡ only_if (not b) (extract_place l Part k)
    spot_is b e = ap (λ b. only_if (not b) (extract_place l Part k))
        (sym (λ i. part_fits (h.bearing i) (h.first i).value (h.second i).value) ∙ e)

    pub one_part : (us : List (ℤ × ℤ)) (r : Push) → written_part z.cone w v ≡ Ok r →
        us ≡ ps ++ (r.a.value, r.b.value) ∷ [] → PartsSoFar (k + 1) us
    one_part us r e u = let t = part_ok z w v r e in record {
      parts = grown (pair_at bs zs) k (r.a.value, r.b.value) ps us
          (t.pair ∙ (λ i. pair_between (h.bearing i) (h.first i).value (h.second i).value)) f.parts u;
      fit = first_more k (part_spot l bs zs) f.fit (spot_is true t.fits);
    }

    pub part_too_wide : (x : Wide) → written_part z.cone w v ≡ Err x → part_place l bs zs
        ≡ Some (extract_place l Part k)
    part_too_wide x e = first_found (length bs) k (part_spot l bs zs) (extract_place l Part k) h.within f.fit
        (spot_is false (part_wide z w v x e))
