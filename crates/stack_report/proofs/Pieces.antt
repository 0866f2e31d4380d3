-- Lines that are added to a table, and the first number of them that is too wide.
use Rattle.std.proofs.Common.{◌≡◌, sym, ap, subst, ◌∙◌, ℕ, ◌+◌, ◌<◌, not, List, [], ◌∷◌, ◌++◌, length, get_or, drop}
use Rattle.std.proofs.Common.{Option, Some, None, Result, Ok, Err, String, string_bytes}
use Rattle.std.specs.declared.alloc.Global.{Global}
use lib.IntN.{ℤ, pos}
use Rattle.stack_algebra.specs.Search.{first, only_if}
use Rattle.stack_algebra.proofs.Search.{first_found, first_more}
use Rattle.std.proofs.lemmas.List.{get_or_default}
use Rattle.stack_equilibrium.proofs.Common.{Bearing, MotionValue, Structure, Wide, no_bearing, push_at}
use Rattle.stack_equilibrium.specs.declared.block.Push.{Push}
use Rattle.stack_equilibrium.specs.declared.force.Force.{Force}
use Rattle.stack_report.specs.declared.errors.ReportError.{ReportError}
use Rattle.stack_report.specs.declared.errors.ReportError.TheVariants.{TooWide, Memory}
use Rattle.stack_equilibrium.specs.WrittenSums.{written_bearing_force}
use Rattle.stack_report.specs.ContactTable.{name_of, lines_from}
use Rattle.stack_report.specs.ForceNumbers.{one_spot, force_spot}
use Rattle.stack_report.specs.ForceTable.{lowest_ratio, force_text, force_line, move_text, body_move_line}
use Rattle.stack_report.specs.Tabling.{Adds}
use Rattle.stack_report.proofs.ForcesMade.{force_ok, force_err}
use Rattle.stack_report.proofs.LineByLine.{one_more}

-- the line of a bearing whose numbers fit, and none where one is too wide
pub one_line : (i : ℕ) (z : Bearing) (f : Push) (r : Force) (d : ℤ) (k : ℕ) (text : List ℕ) (t : String Global) →
    written_bearing_force z f ≡ Ok r →
    string_bytes t ≡ text ++ (force_text k (lowest_ratio r.x.value d) (lowest_ratio r.y.value d) ++ 10 ∷ []) →
    Adds (Ok t) text (one_spot i z f) (force_line d k z f)
one_line i z f r d k text t h e = let m = force_ok z f r h in (
  ap (λ b. only_if (not b) i) m.fits,
  e ∙ (λ j. text ++ (force_text k (lowest_ratio (m.x j) d) (lowest_ratio (m.y j) d) ++ 10 ∷ [])),
)

pub none_made : (i : ℕ) (z : Bearing) (f : Push) (w : Wide) → written_bearing_force z f ≡ Err w →
    one_spot i z f ≡ Some i
none_made i z f w h = ap (λ b. only_if (not b) i) (force_err z f w h)

-- what stops the lines of a list at an item stops them all
pub stops : (e : ReportError) (n k : ℕ) (spot : ℕ → Option ℕ) (text more before after : List ℕ) → k < n →
    first k spot ≡ None → Adds (Err e) text (spot k) more → Adds (Err e) before (first n spot) after
stops (TooWide i) n k spot text more before after l none h = first_found n k spot i l none h
stops Memory n k spot text more before after l none h = tt

-- the lines of the bearings of a list, up to one that stops them
module _ (d : ℤ) (i k : ℕ) (bs : List Bearing) (z : Bearing) (found : z ≡ get_or bs k z) (parts : List (ℤ × ℤ))
    (f : Push) (is : f ≡ push_at parts k) (l : k < length bs) (none : first k (force_spot i bs parts) ≡ None) where
  own : z ≡ get_or bs k no_bearing
  own = found ∙ get_or_default bs k z no_bearing l

  abbrev Line : Result (String Global) ReportError → List ℕ → Type 0
  Line r text = Adds r text (one_spot (i + k) z f) (force_line d k z f)

  pub bearing_stops : (e : ReportError) (text before after : List ℕ) → Line (Err e) text →
      Adds (Err e) before (first (length bs) (force_spot i bs parts)) after
  bearing_stops e text before after h = stops e (length bs) k (force_spot i bs parts) text
      (force_line d k z (push_at parts k)) before after l none
      (subst (λ t. t) (λ j. Adds (Err e) text (one_spot (i + k) (own j) (is j)) (force_line d k z (is j))) h)

  abbrev line : ℕ → Bearing → List ℕ
  line k z = force_line d k z (push_at parts k)

  pub bearing_fits : (t : String Global) (text : List ℕ) → Line (Ok t) text →
      first (k + 1) (force_spot i bs parts) ≡ None
  bearing_fits t text h = first_more k (force_spot i bs parts) none
      ((λ j. one_spot (i + k) (sym own j) (sym is j)) ∙ h.0)

  pub bearing_added : (t : String Global) (text whole : List ℕ) → Line (Ok t) text →
      text ++ lines_from line k (drop k bs) ≡ whole →
      string_bytes t ++ lines_from line (k + 1) (drop (k + 1) bs) ≡ whole
  bearing_added t text whole h so_far = one_more line bs k z text (string_bytes t) whole l found
      (h.1 ∙ ap (λ f. text ++ force_line d k z f) is) so_far

-- the line of free block number b, which is body i
pub move_added : (s : Structure) (y : MotionValue) (b : ℕ) (frees : List ℕ) (i : ℕ) (name : List ℕ)
    (t : String Global) (text whole : List ℕ) → b < length frees → i ≡ get_or frees b 0 → name ≡ name_of s i →
    string_bytes t ≡ text ++ (move_text name (get_or y b (pos 0, pos 0, pos 0)) ++ 10 ∷ []) →
    text ++ lines_from (body_move_line s y) b (drop b frees) ≡ whole →
    string_bytes t ++ lines_from (body_move_line s y) (b + 1) (drop (b + 1) frees) ≡ whole
move_added s y b frees i name t text whole l number named e so_far =
    one_more (body_move_line s y) frees b (get_or frees b 0) text (string_bytes t) whole l
    (get_or_default frees b 0 (get_or frees b 0) l)
    (e ∙ (λ j. text ++ (move_text ((named ∙ ap (name_of s) number) j) (get_or y b (pos 0, pos 0, pos 0))
    ++ 10 ∷ [])))
    so_far
