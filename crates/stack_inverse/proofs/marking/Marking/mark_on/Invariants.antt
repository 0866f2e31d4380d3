use Rattle.std.proofs.Common.{◌≡◌, ℕ, ◌<◌, length, get_or}
use Rattle.stack_rows.specs.Marks.{mark_in}
use Rattle.stack_inverse.specs.Marks.{mark_at}
use Rattle.stack_inverse.proofs.marking.Marking.mark_on.Given as goal

abbrev pub invariant-loop-i : goal.invariant-loop-i
invariant-loop-i l = record {
  places_long : length l.self.places.items ≡ length l.fn.self.places.items;
  open_long : length l.self.«open».words.items ≡ length l.fn.self.«open».words.items;
  uses : l.self.uses.items ≡ l.fn.self.uses.items;
  to_visit : l.self.to_visit ≡ record l.fn.self.to_visit { all_fit = l.done };
  places_kept : (r j : ℕ) → mark_at l.self.places.items r j ≡ 0 → mark_at l.fn.self.places.items r j ≡ 0;
  joined : (a j : ℕ) → a < l.i → mark_at l.self.places.items (get_or l.pivot.list.items a 0) j ≡ 0 →
      mark_in l.fn.self.to_visit.touched.words.items j ≡ 0;
  marks_kept : (j : ℕ) → mark_in l.self.«open».words.items j ≡ 0 → mark_in l.fn.self.«open».words.items j ≡ 0;
  unused : (a j : ℕ) → a < l.i → mark_in l.self.«open».words.items j ≡ 0 →
      mark_at l.fn.self.uses.items (get_or l.pivot.list.items a 0) j ≡ 0;
}
