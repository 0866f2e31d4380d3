-- Lines that tell an order of building.
use Rattle.std.proofs.Common.{◌≡◌, refl, sym, ap, subst, ◌∙◌, ℕ, suc, ◌<◌, ◌≤◌, Bool, true, false, not, ◌&&◌, List, []}
use Rattle.std.proofs.Common.{◌∷◌, ◌++◌, length, get_or, Option, Some, None, Result, Ok, Err, arith, append_assoc}
use Rattle.std.proofs.Common.{length-append, inl, inr, slice_get, nat_eq, if◌then◌else◌}
use Rattle.std.specs.Str.{bytes_eq}
use Rattle.std.specs.List.{list_any}
use Rattle.std.proofs.lemmas.Bool.{cases_lt, eq-eqb}
use Rattle.std.proofs.lemmas.Bool.Decides.{Decides-eqb}
use Rattle.std.proofs.lemmas.List.{append_cancel_left, append_cancel_right, append-nil, map-append, get_or_append_left}
use Rattle.std.proofs.lemmas.List.{length-map, get_or-map}
use Rattle.std.proofs.lemmas.List.Folds.{list_any_at, Any-from_list_any}
use Rattle.std.proofs.lemmas.List.Quantifiers.{position-Some}
use Rattle.std.proofs.lemmas.Option.{slice_get-get_or, same_Some}
use Rattle.std.proofs.lemmas.Slice.Eq.{bytes_eq-Decides}
use Rattle.std.proofs.Math.Seq.{get_or-append_seam}
use Rattle.stack_algebra.proofs.Conjunctions.{both_true}
use Rattle.stack_model.specs.Structure.{NamedBody, Structure, body_of}
use Rattle.stack_model.specs.Content.{body_names}
use Rattle.stack_model.specs.Sound.{AreDifferent}
use Rattle.stack_orders.specs.Order.{IsOrder}
use Rattle.stack_orders.specs.OrderRead.{block_line, is_free_line, block_named, unless_among, next_block, with_next}
use Rattle.stack_orders.specs.OrderRead.{order_over, told_order, order_lines, AreRead}
use Rattle.stack_certificate.specs.FaultLine.{cut}
use Rattle.stack_orders.proofs.Positions.{none_passes}

-- two tests that hold together are the same
pub same_test : (a b : Bool) → (a ≡ true → b ≡ true) → (b ≡ true → a ≡ true) → a ≡ b
same_test true b f g = sym (f refl)
same_test false true f g = g refl
same_test false false f g = refl

-- what is left of a line behind a name is a line feed
pub tail_told : (line name rest : List ℕ) → line ≡ name ++ rest
    → bytes_eq rest (10 ∷ []) ≡ bytes_eq line (name ++ 10 ∷ [])
tail_told line name rest e = same_test _ _
    (λ h. (bytes_eq-Decides line (name ++ 10 ∷ [])).1 (e ∙ ap (λ ys. name ++ ys)
    ((bytes_eq-Decides rest (10 ∷ [])).0 h)))
    (λ h. (bytes_eq-Decides rest (10 ∷ [])).1 (append_cancel_left name rest (10 ∷ [])
    (sym e ∙ (bytes_eq-Decides line (name ++ 10 ∷ [])).0 h)))

-- a line that doesn't begin with a name isn't its line
pub no_tail : (line name : List ℕ) → ((rest : List ℕ) → ¬ (line ≡ name ++ rest))
    → false ≡ bytes_eq line (name ++ 10 ∷ [])
no_tail line name h = same_test _ _ (λ e. absurd (cc))
    (λ e. absurd (h (10 ∷ []) ((bytes_eq-Decides line (name ++ 10 ∷ [])).0 e)))

module _ (s : Structure) (different : AreDifferent (body_names s.bodies)) where
  -- a number of a free block whose line this is
  record IsNamed (line : List ℕ) (n : ℕ) : Type 0 where
    pub within : n < length s.bodies
    pub free : (body_of s n).fixed ≡ false
    pub is : line ≡ block_line (body_of s n)

  -- what is free isn't fixed
  not_fixed : (b : Bool) → not b ≡ true → b ≡ false
  not_fixed true h = absurd (cc)
  not_fixed false h = refl

  -- a body that passes has this line
  named_so : (line : List ℕ) (n : ℕ) → n < length s.bodies → is_free_line line (body_of s n) ≡ true → IsNamed line n
  named_so line n l h =
      let t = both_true (not (body_of s n).fixed) (bytes_eq line (block_line (body_of s n))) h in
      record {
        within = l;
        free = not_fixed _ t.0;
        is = (bytes_eq-Decides line (block_line (body_of s n))).0 t.1;
      }

  -- a body that has this line passes
  passes : (line : List ℕ) (n : ℕ) → IsNamed line n → is_free_line line (body_of s n) ≡ true
  passes line n h = λ i. not (h.free i) && (bytes_eq-Decides line (block_line (body_of s n))).1 h.is i

  -- the name of a body in the list of names
  name_at : (i : ℕ) → i < length s.bodies → get_or (body_names s.bodies) i [] ≡ (body_of s i).name
  name_at i l = get_or-map (λ (b : NamedBody). b.name) s.bodies i _ [] l

  -- no two blocks have one line
  one_block : (line : List ℕ) (m n : ℕ) → IsNamed line m → IsNamed line n → m ≡ n
  one_block line m n h g =
      let e = append_cancel_right _ _ (10 ∷ []) (sym h.is ∙ g.is) in
      let f = name_at m h.within ∙ (e ∙ sym (name_at n g.within)) in
      elim (cases_lt m n) [
        | inl lt ↦ absurd (different m n lt (subst (λ k. n < k) (sym (length-map s.bodies
            (λ (b : NamedBody). b.name))) g.within) f)
        | inr le ↦ elim (cases_lt n m) [
          | inl lt ↦ absurd (different n m lt (subst (λ k. m < k) (sym (length-map s.bodies
              (λ (b : NamedBody). b.name))) h.within) (sym f))
          | inr ge ↦ omega (arith, le, ge)
        ]
      ]

  -- the body that is found has this line
  found : (line : List ℕ) (n : ℕ) → block_named s line ≡ Some n → IsNamed line n
  found line n e = let p = position-Some (is_free_line line) s.bodies n _ e in named_so line n p.0 p.1

  -- a line that names no further block: if it is a block's, that one comes before
  faulty : (ns : List ℕ) (line : List ℕ) → next_block s ns line ≡ None → (n : ℕ) → IsNamed line n
      → (k : ℕ) × (slice_get ns k ≡ Some n)
  faulty ns line e n h = go (block_named s line) refl e
    where
      among : (m : ℕ) → block_named s line ≡ Some m → (t : Bool) → list_any (λ k. nat_eq k m) ns ≡ t
          → (if t then None else Some m) ≡ None → (k : ℕ) × (slice_get ns k ≡ Some n)
      among m f true g x =
          let a = Any-from_list_any (λ k. nat_eq k m) ns g in
          let same = (Decides-eqb a.1 m).0 a.4 ∙ one_block line m n (found line m f) h in
          (a.0, slice_get-get_or ns a.0 a.1 a.2 ∙ ap Some (a.3 ∙ same))
      among m f false g x = absurd (cc)

      go : (o : Option ℕ) → block_named s line ≡ o → unless_among ns o ≡ None → (k : ℕ) × (slice_get ns k ≡ Some n)
      go None f x =
          let p : is_free_line line (body_of s n) ≡ false = none_passes (is_free_line line) s.bodies _ f n h.within in
          let q : true ≡ false = sym (passes line n h) ∙ p in
          absurd (cc)
      go (Some m) f x = among m f (list_any (λ k. nat_eq k m) ns) refl x

  -- a further block that isn't in the order yet
  one_more : (ns : List ℕ) (n : ℕ) (line : List ℕ) → IsOrder s ns → IsNamed line n
      → list_any (λ k. nat_eq k n) ns ≡ false → IsOrder s (ns ++ n ∷ [])
  one_more ns n line h named new = record {
    bodies = λ i l. elim (cases_lt i (length ns)) [
      | inl lt ↦ subst (λ m. m < length s.bodies) (sym (left i lt)) (h.bodies i lt)
      | inr le ↦ subst (λ m. m < length s.bodies) (sym (at_end i (last i l le))) named.within
    ];
    free = λ i l. elim (cases_lt i (length ns)) [
      | inl lt ↦ subst (λ m. (body_of s m).fixed ≡ false) (sym (left i lt)) (h.free i lt)
      | inr le ↦ subst (λ m. (body_of s m).fixed ≡ false) (sym (at_end i (last i l le))) named.free
    ];
    different = λ i j lt l same. elim (cases_lt j (length ns)) [
      | inl earlier ↦ h.different i j lt earlier (sym (left i (omega (arith, lt, earlier))) ∙ same
          ∙ left j earlier)
      | inr le ↦ other i (omega (arith, lt, last j l le)) (sym (left i (omega (arith, lt, last j l le))) ∙ same
          ∙ at_end j (last j l le))
    ];
  }
    where
      left : (i : ℕ) → i < length ns → get_or (ns ++ n ∷ []) i 0 ≡ get_or ns i 0
      left i l = get_or_append_left ns (n ∷ []) 0 i l

      at_end : (i : ℕ) → i ≡ length ns → get_or (ns ++ n ∷ []) i 0 ≡ n
      at_end i e = subst (λ i. get_or (ns ++ n ∷ []) i 0 ≡ n) (sym e) (get_or-append_seam ns n [] 0)

      last : (i : ℕ) → i < length (ns ++ n ∷ []) → length ns ≤ i → i ≡ length ns
      last i l le = omega (arith, l, le, length-append ns (n ∷ []))

      other : (i : ℕ) → i < length ns → get_or ns i 0 ≡ n → ⊥
      other i l e =
          let t : list_any (λ k. nat_eq k n) ns ≡ true =
          list_any_at (λ k. nat_eq k n) ns i 0 l (eq-eqb (get_or ns i 0) n e) in
          let f : true ≡ false = sym t ∙ new in
          absurd (cc)

  -- one further block of an order
  further : (ns : List ℕ) (n : ℕ) (line : List ℕ) → IsOrder s ns → next_block s ns line ≡ Some n
      → IsOrder s (ns ++ n ∷ []) × (line ≡ block_line (body_of s n))
  further ns n line h e = go (block_named s line) refl e
    where
      among : (m : ℕ) → block_named s line ≡ Some m → (t : Bool) → list_any (λ k. nat_eq k m) ns ≡ t
          → (if t then None else Some m) ≡ Some n → IsNamed line n × (list_any (λ k. nat_eq k n) ns ≡ false)
      among m f true g x = absurd (cc)
      among m f false g x = let same = same_Some m n x in
          (subst (IsNamed line) same (found line m f), subst (λ n. list_any (λ k. nat_eq k n) ns ≡ false) same g)

      go : (o : Option ℕ) → block_named s line ≡ o → unless_among ns o ≡ Some n
          → IsOrder s (ns ++ n ∷ []) × (line ≡ block_line (body_of s n))
      go None f x = absurd (cc)
      go (Some m) f x = let r = among m f (list_any (λ k. nat_eq k m) ns) refl x in
          (one_more ns n line h r.0 r.1, (r.0).is)

  -- the lines behind those of an order are read so
  pub read_so : (ns : List ℕ) (lines all : List (List ℕ)) → IsOrder s ns → all ≡ order_lines s ns ++ lines
      → AreRead s (order_over s ns lines) all
  read_so ns [] all h e = (h, e ∙ append-nil (order_lines s ns))
  read_so ns (line ∷ lines) all h e = go (next_block s ns line) refl (λ ms. read_so ms lines all)
    where
      grouped : (n : ℕ) → order_lines s ns ++ block_line (body_of s n) ∷ lines
          ≡ order_lines s (ns ++ n ∷ []) ++ lines
      grouped n =
          let one : List (List ℕ) = block_line (body_of s n) ∷ [] in
          let g : order_lines s ns ++ block_line (body_of s n) ∷ lines ≡ (order_lines s ns ++ one) ++ lines =
          simp append_assoc in
          g ∙ ap (λ ls. ls ++ lines) (sym (map-append (λ n. block_line (body_of s n)) ns (n ∷ [])))

      go : (o : Option ℕ) → next_block s ns line ≡ o
          → ((ms : List ℕ) → IsOrder s ms → all ≡ order_lines s ms ++ lines → AreRead s (order_over s ms lines) all)
          → AreRead s (with_next (λ ms. order_over s ms lines) ns o) all
      go None f more = record {
        before = ns;
        are_order = h;
        line = line;
        rest = lines;
        are = e;
        is_number = refl;
        fault = λ n l free is. faulty ns line f n (record { within = l; free = free; is = is });
      }
      go (Some n) f more =
          let r = further ns n line h f in
          more (ns ++ n ∷ []) r.0 (e ∙ (ap (λ l. order_lines s ns ++ l ∷ lines) r.1 ∙ grouped n))

  -- no blocks are an order
  no_order : IsOrder s []
  no_order = record {
    bodies = λ i l. absurd (omega (arith, l));
    free = λ i l. absurd (omega (arith, l));
    different = λ i j lt l. absurd (omega (arith, l));
  }

  -- what a text is read as
  pub answered : (text : List ℕ) (r : Result (List ℕ) ℕ) → told_order s text ≡ r
      → (told_order s text ≡ r) × AreRead s r (cut text)
  answered text r e = (e, subst (λ r. AreRead s r (cut text)) e (read_so [] (cut text) (cut text) no_order refl))

  -- reading stops at a line that names no further block
  pub stopped : (ns text rest line after : List ℕ) (m : ℕ) → order_over s ns (cut rest) ≡ told_order s text
      → cut rest ≡ line ∷ cut after → next_block s ns line ≡ None → m ≡ suc (length ns)
      → told_order s text ≡ Err m
  stopped ns text rest line after m e c n k =
      sym e ∙ (ap (order_over s ns) c ∙ (ap (with_next (λ ms. order_over s ms (cut after)) ns) n ∙ ap Err (sym k)))

  -- reading is done where no line is left
  pub closed : (ns text rest : List ℕ) → order_over s ns (cut rest) ≡ told_order s text → length rest ≡ 0
      → told_order s text ≡ Ok ns
  unfolding cut
  closed ns text [] e l = sym e
  closed ns text (b ∷ bs) e l = absurd (omega (arith, l))
