use Rattle.std.proofs.Common.{◌≡◌, ◌<◌, refl, sym, ap, subst, ◌∙◌, ℕ, List, length, length-set, get_or, max}
use Rattle.std.proofs.Common.{arith}
use Rattle.std.proofs.lemmas.List.{get_or_default}
use Rattle.stack_rational.proofs.Common.{ℕ_discrete}
use Rattle.stack_rows.specs.declared.marks.Marks.{Marks}
use Rattle.stack_inverse.specs.declared.to_visit.ToVisit.{ToVisit}
use Rattle.stack_rows.specs.Marks.{mark_in}
use Rattle.stack_inverse.specs.Marks.{list_at, mark_at, HaveWords}
use Rattle.stack_inverse.proofs.Marked.{list_read, list_put, wide_put, listed_in, each_listed}
use Rattle.stack_inverse.proofs.PutRow.{written, written_long}
use Rattle.stack_inverse.proofs.marking.Marking.mark_on.Goals as goal
use Rattle.stack_inverse.proofs.marking.Marking.mark_on.Goals.{After-from-r}

-- the place of a turn, and that it is one of the lists
place : (c : After-from-r) → c.from-r.result ≡ get_or c.args.pivot.now.list.items c.loop-i.i 0
place c =
    let p = c.args.pivot.now in
    c.from-r.ensures ∙ c.index.ensures ∙ get_or_default p.list.items c.loop-i.i c.index.result.now 0
    (omega (arith, c.loop-i-test.true, p.places.room))

below : (c : After-from-r) → c.from-r.result < length c.loop-i.self.places.items
below c = omega (
  arith,
  place c,
  listed_in c.args.pivot.now (length c.args.self.now.places.items) c.requires c.loop-i.i c.loop-i-test.true,
  c.loop-i.invariant.places_long,
)

used : (c : After-from-r) → c.from-r.result < length c.loop-i.self.uses.items
used c = omega (arith, below c, c.loop-i.self.uses_long)

pub index_mut-requires : goal.index_mut-requires
index_mut-requires c = omega (arith, below (goal.at.index_mut-requires c).After-from-r, c.loop-i.self.places.ok.0)

pub index-requires-in-loop-i : goal.index-requires-in-loop-i
index-requires-in-loop-i c = omega (
  arith,
  used (goal.at.index-requires-in-loop-i c).After-from-r,
  c.loop-i.self.uses.ok.0,
)

pub join-requires : goal.join-requires
join-requires c =
    let k = c.loop-i.self in
    let lt = below (goal.at.join-requires c).After-from-r in
    sym (ap length (list_read k.places.items c.from-r.result c.index_mut.result.now lt c.index_mut.ensures.value)
    ∙ k.places_wide c.from-r.result lt)

pub join-requires-in-loop-i : goal.join-requires-in-loop-i
join-requires-in-loop-i c =
    let k = c.loop-i.self in
    let lu = used (goal.at.join-requires-in-loop-i c).After-from-r in
    ap length (list_read k.uses.items c.from-r.result c.index-in-loop-i.result.now lu c.index-in-loop-i.ensures)
    ∙ k.uses_wide c.from-r.result lu

pub invariant_of-self-clause-places_wide : goal.invariant_of-self-clause-places_wide
invariant_of-self-clause-places_wide c =
    let s = c.args.self.now in
    let w = length s.to_visit.touched.words.items in
    subst (λ (ls : List Marks). HaveWords ls w) (sym (written s.places c.fill_lists.new.lists
    c.as_mut_slice.ensures.value c.fill_lists.auto.lists)) (c.fill_lists.ensures.wide w
    (subst (λ (ls : List Marks). HaveWords ls w) (sym c.as_mut_slice.ensures.value) s.places_wide))

pub invariant_of-self-clause-uses_long : goal.invariant_of-self-clause-uses_long
invariant_of-self-clause-uses_long c =
    let s = c.args.self.now in
    s.uses_long ∙ sym (written_long s.places c.fill_lists.new.lists c.as_mut_slice.ensures.value
    c.fill_lists.auto.lists)

pub invariant_of-self-clause-uses_wide : goal.invariant_of-self-clause-uses_wide
invariant_of-self-clause-uses_wide c = λ r l. c.args.self.now.uses_wide r l ∙ sym c.fill.ensures.long

pub invariant_of-self-in-loop-i-clause-places_wide : goal.invariant_of-self-in-loop-i-clause-places_wide
invariant_of-self-in-loop-i-clause-places_wide c =
    let k = c.loop-i.self in
    let lt = below (goal.at.invariant_of-self-in-loop-i-clause-places_wide c).After-from-r in
    wide_put k.places.items c.from-r.result c.index_mut.result.now c.join.new.self lt
    (c.join.ensures.long ∙ ap (λ (m : Marks). length m.words.items) c.index_mut.ensures.value) refl _ k.places_wide

pub invariant_of-self-in-loop-i-clause-uses_long : goal.invariant_of-self-in-loop-i-clause-uses_long
invariant_of-self-in-loop-i-clause-uses_long c =
    c.loop-i.self.uses_long ∙ sym (length-set c.loop-i.self.places.items c.from-r.result c.join.new.self)

pub invariant_of-self-in-loop-i-clause-uses_wide : goal.invariant_of-self-in-loop-i-clause-uses_wide
invariant_of-self-in-loop-i-clause-uses_wide c = λ r l. c.loop-i.self.uses_wide r l ∙ sym c.join-in-loop-i.ensures.long

pub loop-i-preserved : goal.loop-i-preserved
loop-i-preserved c =
    let s = c.args.self.now in
    let list = c.args.pivot.now.list.items in
    let i = c.loop-i.invariant in
    let k = c.loop-i.self in
    let r = c.from-r.result in
    let at = (goal.at.loop-i-preserved c).After-from-r in
    let is = place at in
    let lists = k.places.items in
    let d = c.index_mut.result.now in
    let new = c.join.new.self in
    let lt = below at in
    let put = list_put lists r d new lt
    (c.join.ensures.long ∙ ap (λ (m : Marks). length m.words.items) c.index_mut.ensures.value) refl in
    let both : (j : ℕ) → mark_in new.words.items j
    ≡ max (mark_in d.words.items j) (mark_in s.to_visit.touched.words.items j) =
    λ j. c.join.ensures.joined j ∙ ap (λ (v : ToVisit). max (mark_in d.words.items j)
    (mark_in v.touched.words.items j)) i.to_visit in
    let opened : (j : ℕ) → mark_in c.join-in-loop-i.new.self.words.items j
    ≡ max (mark_in k.«open».words.items j) (mark_at s.uses.items r j) =
    λ j. c.join-in-loop-i.ensures.joined j
    ∙ ap (λ (ws : List ℕ). max (mark_in k.«open».words.items j) (mark_in ws j))
    (list_read k.uses.items r c.index-in-loop-i.result.now (used at) c.index-in-loop-i.ensures
    ∙ ap (λ (ls : List Marks). list_at ls r) i.uses) in
    record {
      places_long = length-set lists r new ∙ i.places_long;
      open_long = c.join-in-loop-i.ensures.long ∙ i.open_long;
      uses = i.uses;
      to_visit = i.to_visit;
      places_kept = λ q j. put (λ q m. mark_in m j ≡ 0 → mark_at s.places.items q j ≡ 0) q
          (λ n. i.places_kept q j) (λ z. i.places_kept r j (ap (λ (ws : List ℕ). mark_in ws j)
          (sym (list_read lists r d lt c.index_mut.ensures.value)) ∙ omega (arith, z, both j)));
      joined = λ a j l. put (λ q m. mark_in m j ≡ 0 → mark_in s.to_visit.touched.words.items j ≡ 0) (get_or list a 0)
          (λ n. elim (ℕ_discrete a c.loop-i.i) [
            | yes e ↦ absurd (n (ap (λ m. get_or list m 0) e ∙ sym is))
            | no o ↦ i.joined a j (omega (arith, l, o))
          ]) (λ z. omega (arith, z, both j));
      marks_kept = λ j z. i.marks_kept j (omega (arith, z, opened j));
      unused = λ a j l z. elim (ℕ_discrete a c.loop-i.i) [
        | yes e ↦ ap (λ n. mark_at s.uses.items n j) (ap (λ m. get_or list m 0) e ∙ sym is)
            ∙ omega (arith, z, opened j)
        | no o ↦ i.unused a j (omega (arith, l, o)) (omega (arith, z, opened j))
      ];
    }

pub returns : goal.returns
returns c =
    let i = c.loop-i.invariant in
    let s = c.args.self.now in
    let p = c.args.pivot.now in
    record {
      places_long = i.places_long;
      open_long = i.open_long;
      uses = i.uses;
      to_visit = i.to_visit;
      done = λ _. record {
        places_kept = i.places_kept;
        joined = λ r j l h z. each_listed p (length s.places.items) c.requires r l h
            (ℕ_discrete (mark_in s.to_visit.touched.words.items j) 0) (λ a b e. i.joined a j
            (omega (arith, b, c.loop-i-test.false)) (ap (λ n. mark_at c.loop-i.self.places.items n j) e ∙ z));
        marks_kept = i.marks_kept;
        unused = λ r j l h z. each_listed p (length s.places.items) c.requires r (omega (arith, l, s.uses_long)) h
            (ℕ_discrete (mark_at s.uses.items r j) 0) (λ a b e. sym (ap (λ n. mark_at s.uses.items n j) e)
            ∙ i.unused a j (omega (arith, b, c.loop-i-test.false)) z);
      };
      full = λ e. let t = c.if-not-done.false in absurd cc;
    }

pub returns-then-not-done : goal.returns-then-not-done
returns-then-not-done c =
    let s = c.args.self.now in
    let w = length s.to_visit.touched.words.items in
    let kept = c.as_mut_slice.ensures.value in
    let new = c.fill_lists.new.lists in
    let is = written s.places new kept c.fill_lists.auto.lists in
    record {
      places_long = written_long s.places new kept c.fill_lists.auto.lists;
      open_long = c.fill.ensures.long;
      uses = refl;
      to_visit = refl;
      full = λ _. record {
        each_place = λ r i l b. ap (λ (ls : List Marks). mark_at ls r i) is
            ∙ c.fill_lists.ensures.each w r i (subst (λ (ls : List Marks). HaveWords ls w) (sym kept) s.places_wide)
            (omega (arith, l, ap length is, c.fill_lists.auto.lists)) b;
        each_mark = λ j l. c.fill.ensures.each j (omega (arith, l, c.fill.ensures.long));
      };
      done = λ e. let t = c.if-not-done.true in absurd cc;
    }
