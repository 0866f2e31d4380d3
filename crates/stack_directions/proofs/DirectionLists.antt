-- The directions of a text, line after line.
use Rattle.std.proofs.Common.{◌≡◌, ℕ, zero, suc, ◌+◌, ◌<◌, ◌≤◌, ℤ, List, [], ◌∷◌, ◌++◌, Bool, true, false, length, cond}
use Rattle.std.proofs.Common.{refl, sym, ap, ◌∙◌, subst, arith, Option, Some, None, Result, Ok, Err, append_assoc, map}
use Rattle.std.proofs.Common.{◌⊎◌, inl, inr, ltb-false, ltb-true, nat_lt, if◌then◌else◌, ◌==◌, add-one}
use Rattle.std.specs.List.{All}
use Rattle.std.proofs.lemmas.List.Elements.{All-nil, All-cons}
use Rattle.std.proofs.lemmas.Bool.{lt-ltb, le-ltb, eqb-true}
use Rattle.std.proofs.lemmas.List.{append-nil}
use Rattle.stack_certificate.specs.FaultLine.{onto_first, cut}
use Rattle.stack_directions.specs.Directions.{direction_text, IsDirectionLine, direction_of, with_direction}
use Rattle.stack_directions.specs.Directions.{directions_from}
use Rattle.stack_directions.specs.Directions.{directions_of_lines, directions_of, IsDirection, AreDirections, IsGood}
use Rattle.stack_directions.specs.Directions.{IsFaultyFrom, IsFaulty}
use Rattle.stack_directions.proofs.DirectionLines.{direction_found, no_direction_found, found_direction}

-- what was read, in front of what comes
abbrev pub onto : List (ℤ × ℤ) → Result (List (ℤ × ℤ)) ℕ → Result (List (ℤ × ℤ)) ℕ
onto ds (Ok es) = Ok (ds ++ es)
onto ds (Err n) = Err n

onto_more : (k : ℕ) (ds : List (ℤ × ℤ)) (d : ℤ × ℤ) (r : Result (List (ℤ × ℤ)) ℕ) →
    onto ds (with_direction k (Some d) r) ≡ onto (ds ++ d ∷ []) r
onto_more k ds d (Ok es) = ap Ok (sym (append_assoc ds (d ∷ []) es))
onto_more k ds d (Err n) = refl

onto_nothing : (r : Result (List (ℤ × ℤ)) ℕ) → onto [] r ≡ r
onto_nothing (Ok es) = refl
onto_nothing (Err n) = refl

some_lines : (t : Bool) (b : ℕ) (ls : List (List ℕ)) →
    directions_of_lines (cond t ((10 ∷ []) ∷ ls) (onto_first b ls))
    ≡ onto [] (directions_from 1 (cond t ((10 ∷ []) ∷ ls) (onto_first b ls)))
some_lines true b ls = sym (onto_nothing (directions_from 1 ((10 ∷ []) ∷ ls)))
some_lines false b [] = sym (onto_nothing (directions_from 1 ((b ∷ []) ∷ [])))
some_lines false b (l ∷ ls) = sym (onto_nothing (directions_from 1 ((b ∷ l) ∷ ls)))

-- at the first line of a text that isn't empty
pub begun : (text : List ℕ) (ds : List (ℤ × ℤ)) → ds ≡ [] → (length text == 0) ≡ false →
    directions_of text ≡ onto ds (directions_from 1 (cut text))
unfolding directions_of cut
begun [] ds none h = cc
begun (b ∷ bs) ds none h = some_lines (b == 10) b (cut bs)
    ∙ ap (λ es. onto es (directions_from 1 (cond (b == 10) ((10 ∷ []) ∷ cut bs) (onto_first b (cut bs))))) (sym none)

-- a line that is one more direction
pub read_on : (text rest line after : List ℕ) (k : ℕ) (ds : List (ℤ × ℤ)) (d : ℤ × ℤ) → k ≤ 64 →
    cut rest ≡ line ∷ cut after → IsDirectionLine d line →
    directions_of text ≡ onto ds (directions_from k (cut rest)) →
    directions_of text ≡ onto (ds ++ d ∷ []) (directions_from (k + 1) (cut after))
read_on text rest line after k ds d few is found so_far =
    let here : nat_lt 64 k ≡ false = le-ltb 64 k few in
    so_far ∙ ap (λ ls. onto ds (directions_from k ls)) is
    ∙ (λ i. onto ds (if here i then Err k else with_direction k (direction_found d line found i)
    (directions_from (suc k) (cut after))))
    ∙ onto_more k ds d (directions_from (suc k) (cut after))
    ∙ ap (λ n. onto (ds ++ d ∷ []) (directions_from n (cut after))) (sym (add-one k))

many_lines : (k : ℕ) → nat_lt 64 k ≡ true → (t : Bool) (b : ℕ) (ls : List (List ℕ)) →
    directions_from k (cond t ((10 ∷ []) ∷ ls) (onto_first b ls)) ≡ Err k
many_lines k here true b ls =
    λ i. if here i then Err k else with_direction k (direction_of (10 ∷ [])) (directions_from (suc k) ls)
many_lines k here false b [] =
    λ i. if here i then Err k else with_direction k (direction_of (b ∷ [])) (directions_from (suc k) [])
many_lines k here false b (l ∷ ls) =
    λ i. if here i then Err k else with_direction k (direction_of (b ∷ l)) (directions_from (suc k) ls)

-- a line too many
pub too_many : (text rest : List ℕ) (k : ℕ) (ds : List (ℤ × ℤ)) → 64 < k → (length rest == 0) ≡ false →
    directions_of text ≡ onto ds (directions_from k (cut rest)) → directions_of text ≡ Err k
unfolding cut
too_many text [] k ds many some so_far = cc
too_many text (b ∷ bs) k ds many some so_far =
    so_far ∙ ap (onto ds) (many_lines k (lt-ltb 64 k many) (b == 10) b (cut bs))

-- a line that is no direction
pub stopped : (text rest line after : List ℕ) (k : ℕ) (ds : List (ℤ × ℤ)) → k ≤ 64 → cut rest ≡ line ∷ cut after →
    ((d : ℤ × ℤ) → ¬ IsDirectionLine d line) →
    directions_of text ≡ onto ds (directions_from k (cut rest)) → directions_of text ≡ Err k
stopped text rest line after k ds few is none so_far =
    let here : nat_lt 64 k ≡ false = le-ltb 64 k few in
    so_far ∙ ap (λ ls. onto ds (directions_from k ls)) is
    ∙ (λ i. onto ds (if here i then Err k else with_direction k (no_direction_found line none i)
    (directions_from (suc k) (cut after))))

-- the end of the text
pub closed : (text rest : List ℕ) (k : ℕ) (ds : List (ℤ × ℤ)) → (length rest == 0) ≡ true →
    directions_of text ≡ onto ds (directions_from k (cut rest)) → directions_of text ≡ Ok ds
unfolding cut
closed text [] k ds e so_far = so_far ∙ ap Ok (append-nil ds)
closed text (b ∷ bs) k ds e so_far = absurd (omega (arith, eqb-true (length (b ∷ bs)) 0 e))

-- a text without a byte
pub empty : (text : List ℕ) → (length text == 0) ≡ true → directions_of text ≡ Err 1
unfolding directions_of cut
empty [] e = refl
empty (b ∷ bs) e = absurd (omega (arith, eqb-true (length (b ∷ bs)) 0 e))

-- what lines tell, by meaning
record Reads (k : ℕ) (ls : List (List ℕ)) (ds : List (ℤ × ℤ)) : Type 0 where
  pub lines : ls ≡ map direction_text ds
  pub each : All (λ d. IsDirection d.0 d.1) ds
  pub few : k + length ds ≤ 65

test_few : (k : ℕ) → nat_lt 64 k ≡ false → k ≤ 64
test_few k h = omega (arith, ltb-false 64 k h)

reads : (k : ℕ) (ls : List (List ℕ)) (ds : List (ℤ × ℤ)) → k ≤ 65 → directions_from k ls ≡ Ok ds → Reads k ls ds
reads k [] ds h e = let same : [] ≡ ds = cc in
    subst (Reads k []) same (record {
      lines = refl;
      each = All-nil (λ (d : ℤ × ℤ). IsDirection d.0 d.1);
      few = omega arith;
    })
reads k (l ∷ ls) ds h e =
    go (λ es few. reads (suc k) ls es (omega (arith, few))) (nat_lt 64 k) refl (direction_of l) refl
    (directions_from (suc k) ls) refl e
  where
    go : ((es : List (ℤ × ℤ)) → k ≤ 64 → directions_from (suc k) ls ≡ Ok es → Reads (suc k) ls es) →
        (t : Bool) → nat_lt 64 k ≡ t → (o : Option (ℤ × ℤ)) → direction_of l ≡ o → (r : Result (List (ℤ × ℤ)) ℕ) →
        directions_from (suc k) ls ≡ r → (if t then Err k else with_direction k o r) ≡ Ok ds → Reads k (l ∷ ls) ds
    go more true et o eo r er h = cc
    go more false et None eo r er h = cc
    go more false et (Some d) eo (Err n) er h = cc
    go more false et (Some d) eo (Ok es) er h =
        let few = test_few k et in
        let rest = more es few er in
        let line = found_direction d l eo in
        let same : d ∷ es ≡ ds = cc in
        subst (Reads k (l ∷ ls)) same (record {
          lines = λ i. line.1 i ∷ rest.lines i;
          each = All-cons (λ (d : ℤ × ℤ). IsDirection d.0 d.1) d es line.0 rest.each;
          few = omega (arith, rest.few);
        })

-- no line before the first
none_before : (k : ℕ) (ls : List (List ℕ)) (i : ℕ) → k + i < k → IsGood ls i
none_before k ls i h = absurd (omega arith)

later_good : (l : List ℕ) (ls : List (List ℕ)) (i : ℕ) → IsGood ls i → IsGood (l ∷ ls) (suc i)
later_good l ls i g = record { direction = g.direction; bytes = g.bytes; at = g.at; is = g.is }

before_good : (l : List ℕ) (ls : List (List ℕ)) (k n : ℕ) → IsGood (l ∷ ls) 0 →
    ((i : ℕ) → suc k + i < n → IsGood ls i) → (i : ℕ) → k + i < n → IsGood (l ∷ ls) i
before_good l ls k n first rest zero lt = first
before_good l ls k n first rest (suc i) lt = later_good l ls i (rest i (omega (arith, lt)))

faults : (k : ℕ) (ls : List (List ℕ)) (n : ℕ) → k ≤ 65 → directions_from k ls ≡ Err n → IsFaultyFrom k n ls
faults k [] n h e = cc
faults k (l ∷ ls) n h e =
    go (λ few. faults (suc k) ls n (omega (arith, few))) (nat_lt 64 k) refl (direction_of l) refl
    (directions_from (suc k) ls) refl h e
  where
    here_at : k ≡ n → (n ≡ 65) ⊎ ((d : ℤ × ℤ) → ¬ IsDirectionLine d l) → IsFaultyFrom k n (l ∷ ls)
    here_at e w = record {
      before = λ i lt. none_before k (l ∷ ls) i (omega (arith, lt, e));
      place = 0;
      number = omega (arith, e);
      bytes = l;
      at = refl;
      here = w;
    }

    go : (k ≤ 64 → directions_from (suc k) ls ≡ Err n → IsFaultyFrom (suc k) n ls) →
        (t : Bool) → nat_lt 64 k ≡ t → (o : Option (ℤ × ℤ)) → direction_of l ≡ o → (r : Result (List (ℤ × ℤ)) ℕ) →
        directions_from (suc k) ls ≡ r → k ≤ 65 → (if t then Err k else with_direction k o r) ≡ Err n →
        IsFaultyFrom k n (l ∷ ls)
    go more true et o eo r er few h = let same : k ≡ n = cc in
        here_at same (inl (omega (arith, ltb-true 64 k et, few, same)))
    go more false et None eo r er few h = let same : k ≡ n = cc in here_at same (inr (λ d is. none_found d is eo))
      where
        none_found : (d : ℤ × ℤ) → IsDirectionLine d l → direction_of l ≡ None → ⊥
        none_found d is e = let f = sym (direction_found d l is) ∙ e in cc
    go more false et (Some d) eo (Ok es) er few h = cc
    go more false et (Some d) eo (Err m) er few h =
        let same : m ≡ n = cc in
        let rest = more (test_few k et) (er ∙ ap Err same) in
        record {
          before = before_good l ls k n (record { direction = d; bytes = l; at = refl; is = found_direction d l eo })
              rest.before;
          place = suc rest.place;
          number = omega (arith, rest.number);
          bytes = rest.bytes;
          at = rest.at;
          here = rest.here;
        }

pub is_read : (text : List ℕ) (ds : List (ℤ × ℤ)) → directions_of text ≡ Ok ds → AreDirections ds text
unfolding directions_of
is_read text ds e = go (cut text) refl e
  where
    go : (ls : List (List ℕ)) → cut text ≡ ls → directions_of_lines ls ≡ Ok ds → AreDirections ds text
    go [] is h = cc
    go (l ∷ ls) is h = let r = reads 1 (l ∷ ls) ds (omega arith) h in record {
      lines = is ∙ r.lines;
      each = r.each;
      some = least ds r.lines;
      few = omega (arith, r.few);
    }
      where
        least : (ds : List (ℤ × ℤ)) → l ∷ ls ≡ map direction_text ds → 1 ≤ length ds
        least [] e = cc
        least (d ∷ ds) e = omega arith

pub faulty : (text : List ℕ) (n : ℕ) → directions_of text ≡ Err n → IsFaulty n (cut text)
unfolding directions_of
faulty text n e = go (cut text) e
  where
    go : (ls : List (List ℕ)) → directions_of_lines ls ≡ Err n → IsFaulty n ls
    go [] h = inl (refl, cc)
    go (l ∷ ls) h = inr (faults 1 (l ∷ ls) n (omega arith) h)
