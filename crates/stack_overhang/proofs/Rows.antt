-- Rows within the limits: what their tests say, and where their bricks lie.
use Rattle.std.proofs.Common.{◌≡◌, ℕ, ◌<◌, ◌^◌, ℤ, pos, negsuc, ◌+ℤ◌, ◌*ℤ◌, Bool, true, false, ◌&&◌, List, length}
use Rattle.std.proofs.Common.{get_or, refl, ap, sym, ◌∙◌, subst, arith, FitsSigned, to_z, of_z, w64, int_lt}
use Rattle.std.proofs.lemmas.Int.{ints, to_z_pos}
use Rattle.std.proofs.lemmas.List.Folds.{list_all_at}
use Rattle.stack_algebra.proofs.Integers.{expand, sums}
use Rattle.stack_algebra.proofs.Order.{◌≼◌, ◌≺◌, mul_nonneg, mul_le_left}
use Rattle.stack_polygon.specs.Limits.{is_near, IsNear}
use Rattle.stack_overhang.specs.declared.types.BrickRow.{BrickRow}
use Rattle.stack_overhang.specs.Bricks.{brick_of}
use Rattle.stack_overhang.specs.Limits.{is_placed, is_row, are_rows}
use Rattle.stack_algebra.proofs.Conjunctions.{both_true}
use Rattle.stack_overhang.proofs.Rectangles.{less}

near : (z : ℤ) → is_near z ≡ true → IsNear z
near z h = record { low = grind (arith, ints); high = grind (arith, ints) }

-- what the test of a row says of its brick j
pub record IsWithin (r : BrickRow) (j : ℕ) : Type 0 where
  pub long : pos 0 ≺ r.long
  pub high : pos 0 ≺ r.high
  pub left : IsNear r.left
  pub bottom : IsNear r.bottom
  pub top : IsNear (r.bottom +ℤ r.high)
  -- how far right it begins, and how far it ends before the row's end
  pub on : pos 0 ≼ r.long *ℤ pos j
  pub end : r.left +ℤ r.long *ℤ pos j +ℤ r.long ≼ pos 1000000

within_row : (long left : ℤ) (j n : ℕ) → pos 0 ≺ long → j < n → left +ℤ long *ℤ pos n ≼ pos 1000000
    → left +ℤ long *ℤ pos j +ℤ long ≼ pos 1000000
within_row long left j n h lt e =
    let further : pos j +ℤ pos 1 ≼ pos n = omega (arith, ints) in
    let m = mul_le_left long (pos j +ℤ pos 1) (pos n) (omega (arith, sums)) further in
    let split : long *ℤ (pos j +ℤ pos 1) ≡ long *ℤ pos j +ℤ long = simp expand (omega (arith, sums)) in
    omega (arith, sums, split, m, e)

pub within_it : (r : BrickRow) (j : ℕ) → is_row r ≡ true → j < r.count → IsWithin r j
within_it r j h lt =
    let parts = both_true _ _ h in
    let sizes = both_true (int_lt (pos 0) r.long) _ parts.0 in
    let ends = both_true (is_near r.left && is_near (r.left +ℤ r.long *ℤ pos r.count)) _ parts.1 in
    let x = both_true (is_near r.left) _ ends.0 in
    let y = both_true (is_near r.bottom) _ ends.1 in
    let long = less (pos 0) r.long sizes.0 in
    let last = near _ x.1 in
    record {
      long = long;
      high = less (pos 0) r.high sizes.1;
      left = near r.left x.0;
      bottom = near r.bottom y.0;
      top = near _ y.1;
      on = mul_nonneg r.long (pos j) (omega (arith, sums)) (omega (arith, ints));
      end = within_row r.long r.left j r.count long lt last.high;
    }

-- a number of 64 bits as a sum holds it
abbrev stored : ℤ → ℤ
stored z = to_z w64 (of_z w64 z)

-- what the sums of a brick's ends are
pub record Begins (r : BrickRow) (j : ℕ) : Type 0 where
  pub on_fits : FitsSigned w64 (stored r.long *ℤ to_z w64 j)
  pub top_fits : FitsSigned w64 (stored r.bottom +ℤ stored r.high)
  pub fits : FitsSigned w64 (stored r.left +ℤ stored (stored r.long *ℤ to_z w64 j))
  pub end_fits : FitsSigned w64 (stored (stored r.left +ℤ stored (stored r.long *ℤ to_z w64 j)) +ℤ stored r.long)
  pub left : stored (stored r.left +ℤ stored (stored r.long *ℤ to_z w64 j)) ≡ r.left +ℤ r.long *ℤ pos j
  pub right : stored (stored (stored r.left +ℤ stored (stored r.long *ℤ to_z w64 j)) +ℤ stored r.long)
      ≡ r.left +ℤ r.long *ℤ pos j +ℤ r.long
  pub bottom : stored r.bottom ≡ r.bottom
  pub top : stored (stored r.bottom +ℤ stored r.high) ≡ r.bottom +ℤ r.high

-- what the sums of a brick's ends are, over plain numbers
record SumsOf (l g n : ℤ) : Type 0 where
  pub on_fits : FitsSigned w64 g
  pub fits : FitsSigned w64 (stored l +ℤ stored g)
  pub end_fits : FitsSigned w64 (stored (stored l +ℤ stored g) +ℤ stored n)
  pub left : stored (stored l +ℤ stored g) ≡ l +ℤ g
  pub right : stored (stored (stored l +ℤ stored g) +ℤ stored n) ≡ l +ℤ g +ℤ n

sums_of : (l g n : ℤ) → negsuc 999999 ≼ l → l ≼ pos 1000000 → pos 0 ≼ g → l +ℤ g +ℤ n ≼ pos 1000000 → pos 0 ≺ n
    → SumsOf l g n
sums_of l g n a b c d e = record {
  on_fits = omega (arith, ints);
  fits = omega (arith, ints);
  end_fits = omega (arith, ints);
  left = omega (arith, ints);
  right = omega (arith, ints);
}

pub begins : (r : BrickRow) (j : ℕ) → j < 2 ^ 32 → is_row r ≡ true → j < r.count → Begins r j
begins r j small laid lt =
    let w = within_it r j laid lt in
    let g = r.long *ℤ pos j in
    let low = w.left.low in let high = w.left.high in let on = w.on in let end = w.end in let some = w.long in
    let under = w.bottom.low in let over = w.bottom.high in let crown = w.top.high in let tall = w.high in
    let cl : stored r.long ≡ r.long = spread_long r.left g r.long low on end some in
    let cj : to_z w64 j ≡ pos j = to_z_pos w64 j (omega (arith, small)) in
    let inner : r.long *ℤ pos j ≡ stored r.long *ℤ to_z w64 j = λ i. sym cl i *ℤ sym cj i in
    let s = sums_of r.left g r.long low high on end some in
    record {
      on_fits = subst (λ z. FitsSigned w64 z) inner s.on_fits;
      top_fits = omega (arith, ints);
      fits = subst (λ z. FitsSigned w64 (stored r.left +ℤ stored z)) inner s.fits;
      end_fits = subst (λ z. FitsSigned w64 (stored (stored r.left +ℤ stored z) +ℤ stored r.long)) inner
          s.end_fits;
      left = ap (λ z. stored (stored r.left +ℤ stored z)) (sym inner) ∙ s.left;
      right = ap (λ z. stored (stored (stored r.left +ℤ stored z) +ℤ stored r.long)) (sym inner) ∙ s.right;
      bottom = omega (arith, ints);
      top = omega (arith, ints);
    }
  where
    spread_long : (l g n : ℤ) → negsuc 999999 ≼ l → pos 0 ≼ g → l +ℤ g +ℤ n ≼ pos 1000000 → pos 0 ≺ n
        → stored n ≡ n
    spread_long l g n a b c d = omega (arith, ints)

-- brick j of a row within the limits lies where the row says
pub is_placed_brick : (r : BrickRow) (j : ℕ) → is_row r ≡ true → j < r.count → is_placed (brick_of r j) ≡ true
is_placed_brick r j h lt =
    let w = within_it r j h lt in
    let g = r.long *ℤ pos j in
    let low = w.left.low in let on = w.on in let end = w.end in let some = w.long in let tall = w.high in
    let under = w.bottom.low in let over = w.bottom.high in let foot = w.top.low in let crown = w.top.high in
    let wide : int_lt (r.left +ℤ g) (r.left +ℤ g +ℤ r.long) ≡ true =
    is_less (r.left +ℤ g) (r.left +ℤ g +ℤ r.long) (omega (arith, ints)) in
    let high : int_lt r.bottom (r.bottom +ℤ r.high) ≡ true =
    is_less r.bottom (r.bottom +ℤ r.high) (omega (arith, ints)) in
    let left : is_near (r.left +ℤ g) ≡ true = to_near (r.left +ℤ g) (omega (arith, ints)) (omega (arith, ints)) in
    let right : is_near (r.left +ℤ g +ℤ r.long) ≡ true = to_near (r.left +ℤ g +ℤ r.long) (omega (arith, ints))
    (omega (arith, ints)) in
    let bottom : is_near r.bottom ≡ true = to_near r.bottom under over in
    let top : is_near (r.bottom +ℤ r.high) ≡ true = to_near (r.bottom +ℤ r.high) foot crown in
    λ i. (wide i && high i) && ((left i && right i) && (bottom i && top i))
  where
    is_less : (x y : ℤ) → x ≺ y → int_lt x y ≡ true
    is_less x y h = grind (arith, ints)

    to_near : (z : ℤ) → negsuc 999999 ≼ z → z ≼ pos 1000000 → is_near z ≡ true
    to_near z a b = grind (arith, ints)

-- each row passes the test that all pass
pub row_at : (rows : List BrickRow) (i : ℕ) (r : BrickRow) → are_rows rows ≡ true → i < length rows → r
    ≡ get_or rows i r
    → is_row r ≡ true
row_at rows i r h lt is = go (is_row r) refl
  where
    go : (b : Bool) → is_row r ≡ b → b ≡ true
    go true e = refl
    go false e =
        let f = list_all_at is_row rows i r lt (ap is_row (sym is) ∙ e) in
        absurd (cc)
