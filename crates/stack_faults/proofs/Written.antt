-- Values within their limits, as they were written.
use Rattle.std.proofs.Common.{◌≡◌, refl, sym, ap, ◌∙◌, subst, ℕ, ◌+◌, ◌<◌, ℤ, Bool, true, false, ◌&&◌}
use Rattle.std.proofs.Common.{List, [], ◌∷◌, ◌++◌, map, length, get_or, take, codes, Some, None, Ok, Err}
use Rattle.std.proofs.Common.{Result, if◌then◌else◌, MatchResult}
use Rattle.std.specs.Str.{bytes_eq}
use Rattle.std.proofs.lemmas.Slice.Eq.{bytes_eq-Decides}
use Rattle.std.proofs.lemmas.List.{map-append, take_more}
use Rattle.stack_polygon.specs.declared.point.Point.{Point}
use Rattle.stack_polygon.specs.Limits.{is_near}
use Rattle.stack_polygon.specs.Outlines.{outline_of}
use Rattle.stack_model.specs.Limits.{friction_of, sway_of, point_of, live_of, force_of}
use Rattle.stack_model.proofs.Limited.{friction_pair, sway_pair, force_pair}
use Rattle.stack_model.specs.Convex.{at_block, convex}
use Rattle.stack_model.specs.Relisted.{coordinates, kind_word}
use Rattle.stack_faults.specs.Outline.{IsOutlineOf, HasNoOutline}
use Rattle.stack_faults.proofs.FirstEdges.{by_meaning}

-- one more collected, which is listed as it is written
pub one_more_same : {X Y : Type 0} (f : X → Y) (xs : List X) (x : X) (ys : List Y) (i : ℕ) (d : Y) → i < length ys
    → f x ≡ get_or ys i d → map f xs ≡ take i ys → map f (xs ++ x ∷ []) ≡ take (i + 1) ys
one_more_same f xs x ys i d l same h = map-append f xs (x ∷ []) ∙ (λ k. h k ++ same k ∷ [])
    ∙ sym (take_more ys i d l)

pub friction_back : (zs : List ℤ) (f : ℤ × ℤ) → friction_of zs ≡ Some f → f.0 ∷ f.1 ∷ [] ≡ zs
friction_back zs f h = (friction_pair zs f h).same

pub sway_back : (zs : List ℤ) (f : ℤ × ℤ) → sway_of zs ≡ Some f → f.0 ∷ f.1 ∷ [] ≡ zs
sway_back zs f h = (sway_pair zs f h).same

pub force_back : (zs : List ℤ) (f : ℤ × ℤ) → force_of zs ≡ Some f → f.0 ∷ f.1 ∷ [] ≡ zs
force_back zs f h = (force_pair zs f h).same

pub point_back : (zs : List ℤ) (c : Point) → point_of zs ≡ Some c → coordinates c ≡ zs
point_back (x ∷ y ∷ []) c h = go (is_near x && is_near y) h
  where
    go : (b : Bool) → (if b then Some (record { x = x; y = y }) else None) ≡ Some c → coordinates c ≡ x ∷ y ∷ []
    go true e = let q : Point = record { x = x; y = y } in
        let same : q ≡ c = cc in ap coordinates (sym same)
    go false e = absurd cc
point_back [] c h = absurd cc
point_back (x ∷ []) c h = absurd cc
point_back (x ∷ y ∷ z ∷ zs) c h = absurd cc

pub kind_back : (kind : List ℕ) (live : Bool) → live_of kind ≡ Some live → kind_word live ≡ kind
kind_back kind live h = go (bytes_eq kind (codes "live")) (bytes_eq kind (codes "dead")) refl refl h
  where
    go : (a b : Bool) → bytes_eq kind (codes "live") ≡ a → bytes_eq kind (codes "dead") ≡ b
        → (if a then Some true else (if b then Some false else None)) ≡ Some live → kind_word live ≡ kind
    go true b ea eb e = let same : true ≡ live = cc in
        ap kind_word (sym same) ∙ sym ((bytes_eq-Decides kind (codes "live")).0 ea)
    go false true ea eb e = let same : false ≡ live = cc in
        ap kind_word (sym same) ∙ sym ((bytes_eq-Decides kind (codes "dead")).0 eb)
    go false false ea eb e = absurd cc

-- the outline of a block
pub outlined : (i : ℕ) (ps qs : List Point) → convex i ps ≡ Ok qs → IsOutlineOf ps qs
outlined i ps qs h = go (outline_of ps) (by_meaning ps) h
  where
    go : (r : Result (List Point) ℕ) → MatchResult r (λ qs. IsOutlineOf ps qs) (λ e. HasNoOutline ps e)
        → at_block i r ≡ Ok qs → IsOutlineOf ps qs
    go (Ok rs) m e = let same : rs ≡ qs = cc in subst (IsOutlineOf ps) same m
    go (Err x) m e = absurd cc
