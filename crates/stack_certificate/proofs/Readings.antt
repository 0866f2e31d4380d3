-- The function of the bytes gives what the grammar says: the certificate of a text, or the faulty line.
use Rattle.std.proofs.Common.{◌≡◌, ℕ, zero, suc, ◌+◌, ◌<◌, ◌≤◌, ◌⊎◌, inl, inr, List, [], ◌∷◌, ◌++◌, length, take, map}
use Rattle.std.proofs.Common.{refl, sym, ap, ◌∙◌, append_assoc, pos, arith, Option, Some, None, Result, Ok, Err}
use Rattle.std.specs.List.{AllByRecursion}
use Rattle.std.specs.Option.{option_map, option_and_then}
use Rattle.std.proofs.lemmas.List.{append-nil, map-append, take_all}
use Rattle.stack_certificate.specs.declared.line.CertificateForm.TheVariants.{Stands, Collapses, Greatest, Unbounded}
use Rattle.stack_certificate.specs.declared.line.Line.{Line}
use Rattle.stack_certificate.specs.declared.line.Line.TheVariants as lines
use Rattle.stack_certificate.specs.Certificate.{ForcesValue, CertificateValue, stands, collapses, greatest, unbounded}
use Rattle.stack_certificate.specs.Lines.{line_text, LineFits}
use Rattle.stack_certificate.specs.CertificateText.{forces_lines, lines_of, certificate_text, IsCertificateText}
use Rattle.stack_certificate.specs.FaultLine.{cut, Begins, IsFaultLine}
use Rattle.stack_certificate.specs.CertificateOf.{Progress, start, formed, before_motion, before_ray, unended, ended}
use Rattle.stack_certificate.specs.CertificateOf.{no_parts, step, progress_over, lines_counted, accepted, finished}
use Rattle.stack_certificate.specs.CertificateOf.{certificate_of}
use Rattle.stack_certificate.proofs.TextLines.{text_from, cut_text}
use Rattle.stack_certificate.proofs.FittingLines.{both_fit, lines_fit, certificate_fits}
use Rattle.stack_certificate.proofs.LineSteps.{so_far, Reached, run_reaches, run_append, whole_run}

-- the lines of a text
text_cut : (c : CertificateValue) (bytes : List ℕ) → IsCertificateText c bytes
    → cut bytes ≡ map line_text (lines_of c)
text_cut c bytes is = ap cut is.is ∙ cut_text (lines_of c) (lines_fit c is.fits)

text_runs : (c : CertificateValue) (bytes : List ℕ) → IsCertificateText c bytes
    → progress_over start (cut bytes) ≡ Some (ended c)
text_runs c bytes is = ap (progress_over start) (text_cut c bytes is) ∙ whole_run c is.fits

reached_from_start : (p : Progress) (texts : List (List ℕ)) → progress_over start texts ≡ Some p → Reached p texts
reached_from_start p texts e = run_reaches start p [] texts (record { are = refl; fit = tt }) e

runs_text : (c : CertificateValue) (bytes : List ℕ) → progress_over start (cut bytes) ≡ Some (ended c)
    → IsCertificateText c bytes
runs_text c bytes e =
    let reached = reached_from_start (ended c) (cut bytes) e in
    record { fits = certificate_fits c reached.fit; is = text_from bytes (lines_of c) reached.are }

-- what was read can be completed to the lines of a certificate
record Completed (p : Progress) : Type 0 where
  certificate : CertificateValue
  more : List Line
  fit : AllByRecursion LineFits more
  are : lines_of certificate ≡ so_far p ++ more

abbrev some_forces : ForcesValue
some_forces = no_parts (pos 0) (pos 0)

completed : (p : Progress) → Completed p
completed start =
    record {
      certificate = collapses [];
      more = lines_of (collapses []);
      fit = (tt, (tt, (tt, tt)));
      are = refl;
    }
completed (formed Stands) =
    record {
      certificate = stands some_forces;
      more = forces_lines some_forces ++ lines.End ∷ [];
      fit = ((omega arith, omega arith), (tt, tt));
      are = refl;
    }
completed (formed Collapses) =
    record {
      certificate = collapses [];
      more = lines.Motion ∷ lines.End ∷ [];
      fit = (tt, (tt, tt));
      are = refl;
    }
completed (formed Greatest) =
    record {
      certificate = greatest some_forces [];
      more = forces_lines some_forces ++ lines.Motion ∷ lines.End ∷ [];
      fit = ((omega arith, omega arith), (tt, (tt, tt)));
      are = refl;
    }
completed (formed Unbounded) =
    record {
      certificate = unbounded some_forces some_forces;
      more = forces_lines some_forces ++ (forces_lines some_forces ++ lines.End ∷ []);
      fit = ((omega arith, omega arith), ((omega arith, omega arith), (tt, tt)));
      are = refl;
    }
completed (before_motion f) =
    record {
      certificate = greatest f [];
      more = lines.Motion ∷ lines.End ∷ [];
      fit = (tt, (tt, tt));
      are =
          ap (λ ls. lines.Form Greatest ∷ ls)
          (append_assoc (forces_lines f) (lines.Motion ∷ []) (lines.End ∷ []));
    }
completed (before_ray f) =
    record {
      certificate = unbounded f some_forces;
      more = forces_lines some_forces ++ lines.End ∷ [];
      fit = ((omega arith, omega arith), (tt, tt));
      are =
          ap (λ ls. lines.Form Unbounded ∷ ls)
          (append_assoc (forces_lines f) (forces_lines some_forces) (lines.End ∷ []));
    }
completed (unended c) = record { certificate = c; more = lines.End ∷ []; fit = (tt, tt); are = refl }
completed (ended c) = record { certificate = c; more = []; fit = tt; are = sym (append-nil (lines_of c)) }

-- lines begin a text exactly where each of them may come
run_begins : (p : Progress) (front : List (List ℕ)) → progress_over start front ≡ Some p → Begins front
run_begins p front e =
    let reached = reached_from_start p front e in
    let whole = completed p in
    let c = whole.certificate in
    let fits : AllByRecursion LineFits (lines_of c) =
    rw whole.are (both_fit (so_far p) whole.more reached.fit whole.fit) in
    record {
      certificate = c;
      text = certificate_text c;
      is = record { fits = certificate_fits c fits; is = refl };
      rest = map line_text whole.more;
      starts =
          cut_text (lines_of c) fits
          ∙ (ap (map line_text) whole.are
          ∙ (map-append line_text (so_far p) whole.more
          ∙ ap (λ ls. ls ++ map line_text whole.more) (sym reached.are)));
    }

begins_run : (front : List (List ℕ)) → Begins front → progress_over start front ≡ None → ⊥
begins_run front begins e =
    let whole : progress_over start (front ++ begins.rest) ≡ Some (ended begins.certificate) =
    ap (progress_over start) (sym begins.starts) ∙ text_runs begins.certificate begins.text begins.is in
    let none : progress_over start (front ++ begins.rest) ≡ None = run_append start front begins.rest ∙ rw e refl in
    cc

-- as many lines as are accepted may come one after the other
accepts : (p : Progress) (texts : List (List ℕ)) (k : ℕ) → k ≤ accepted p texts
    → (q : Progress) × (progress_over p (take k texts) ≡ Some q)
accepts p texts zero le = (p, refl)
accepts p [] (suc k) le = absurd (omega arith)
accepts p (bytes ∷ more) (suc k) le = by_step (λ q. accepts q more k) (step p bytes) le
  where
    by_step : ((q : Progress) → k ≤ accepted q more → (r : Progress) × (progress_over q (take k more) ≡ Some r))
        → (s : Option Progress) → suc k ≤ lines_counted (option_map (λ q. accepted q more) s)
        → (r : Progress) × (option_and_then (λ q. progress_over q (take k more)) s ≡ Some r)
    by_step rest None h = absurd (omega arith)
    by_step rest (Some q) h = rest q (omega arith)

-- the next line may not come, where there is one
abbrev Stops : Progress → List (List ℕ) → Type 0
Stops p texts = (progress_over p (take (suc (accepted p texts)) texts) ≡ None) ⊎ (accepted p texts ≡ length texts)

stops : (p : Progress) (texts : List (List ℕ)) → Stops p texts
stops p [] = inr refl
stops p (bytes ∷ more) = by_step (λ q. stops q more) (step p bytes)
  where
    by_step : ((q : Progress) → Stops q more) → (s : Option Progress)
        → (option_and_then (λ q. progress_over q (take (lines_counted
        (option_map (λ q. accepted q more) s)) more)) s ≡ None)
        ⊎ (lines_counted (option_map (λ q. accepted q more) s) ≡ length (bytes ∷ more))
    by_step rest None = inl refl
    by_step rest (Some q) = elim (rest q) [ inl none ↦ inl none | inr all ↦ inr (omega (arith, all)) ]

not_whole : (r : Option Progress) (n m : ℕ) → finished r m ≡ Err n
    → (m ≡ n) × ((c : CertificateValue) → r ≡ Some (ended c) → ⊥)
not_whole (Some (ended c)) n m e = cc
not_whole _ n m e = (cc, λ c h. cc)

is_whole : (r : Option Progress) (c : CertificateValue) (m : ℕ) → finished r m ≡ Ok c → r ≡ Some (ended c)
is_whole (Some (ended d)) c m e = let same : d ≡ c = cc in ap (λ x. Some (ended x)) same
is_whole _ c m e = cc

-- the certificate of a text, and the text of a certificate
pub reads : (c : CertificateValue) (bytes : List ℕ) → IsCertificateText c bytes → certificate_of bytes ≡ Ok c
unfolding certificate_of
reads c bytes is = rw (text_runs c bytes is) refl

pub is_read : (c : CertificateValue) (bytes : List ℕ) → certificate_of bytes ≡ Ok c → IsCertificateText c bytes
unfolding certificate_of
is_read c bytes e = runs_text c bytes (is_whole (progress_over start (cut bytes)) c _ e)

-- where no certificate is found, the number is that of the faulty line
pub faulty : (n : ℕ) (bytes : List ℕ) → certificate_of bytes ≡ Err n → IsFaultLine n bytes
unfolding certificate_of
faulty n bytes e =
    let open_text = not_whole (progress_over start (cut bytes)) n _ e in
    let count : suc (accepted start (cut bytes)) ≡ n = open_text.0 in
    record {
      none = λ c is. open_text.1 c (text_runs c bytes is);
      before = λ k lt. let some = accepts start (cut bytes) k (omega arith) in run_begins some.0 _ some.1;
      here =
          elim (stops start (cut bytes)) [
            | inl none ↦ inl (λ begins. begins_run _ begins (rw count at none))
            | inr all ↦ inr (omega (arith, all))
          ];
    }

later : (m n : ℕ) (bytes : List ℕ) → IsFaultLine m bytes → IsFaultLine n bytes → m < n → ⊥
later m n bytes f g lt = elim f.here [ inl none ↦ none (g.before m lt) | inr e ↦ beyond e ]
  where
    beyond : m ≡ length (cut bytes) + 1 → ⊥
    beyond e =
        let front = g.before (length (cut bytes)) (omega arith) in
        let all : Begins (cut bytes) = rw (take_all (length (cut bytes)) (cut bytes) (omega arith)) at front in
        elim g.here [
          | inl none ↦ none (rw (take_all n (cut bytes) (omega arith)) all)
          | inr same ↦ absurd (omega (arith, same))
        ]

one_fault : (m n : ℕ) (bytes : List ℕ) → IsFaultLine m bytes → IsFaultLine n bytes → m ≡ n
one_fault m n bytes f g = by_order (later m n bytes f g) (later n m bytes g f)
  where
    by_order : (m < n → ⊥) → (n < m → ⊥) → m ≡ n
    by_order below above = omega arith

pub refuses : (n : ℕ) (bytes : List ℕ) → IsFaultLine n bytes → certificate_of bytes ≡ Err n
refuses n bytes fault = by_answer (certificate_of bytes) refl
  where
    by_answer : (r : Result CertificateValue ℕ) → certificate_of bytes ≡ r → certificate_of bytes ≡ Err n
    by_answer (Ok c) is = absurd (fault.none c (is_read c bytes is))
    by_answer (Err m) is = is ∙ ap (λ k. Err k) (one_fault m n bytes (faulty m bytes is) fault)
