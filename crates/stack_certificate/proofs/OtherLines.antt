-- Bytes that begin as a line with numbers does, and are no line.
use Rattle.std.proofs.Common.{◌≡◌, ◌≢◌, ℕ, ℤ, List, ◌++◌, codes, get_or, drop, sym, ap, ◌∙◌, nat_eq}
use Rattle.std.proofs.lemmas.Bool.{false≢true}
use Rattle.stack_certificate.specs.declared.line.CertificateForm.{CertificateForm}
use Rattle.stack_certificate.specs.declared.line.Line.{Line}
use Rattle.stack_certificate.specs.declared.line.Line.TheVariants as lines
use Rattle.stack_certificate.specs.Lines.{form_text, IsTwo, IsThreeNumbers, IsBody}

-- The third bytes of lines that are no form differ.
module _ (bytes rest : List ℕ) (form : (form : CertificateForm) → bytes ≢ form_text form) where
  pub no_forces : bytes ≡ codes "forces " ++ rest → ((a b : ℤ) → ¬ IsTwo a b rest) → (l : Line) → ¬ IsBody l bytes
  no_forces starts none (lines.Form f) is = form f is.1
  no_forces starts none (lines.Forces a b) is = none a b (is.0.0, is.0.1, ap (drop 7) (sym starts ∙ is.1))
  no_forces starts none _ is = false≢true (sym (ap (λ bs. nat_eq (get_or bs 2 0) 114) (sym starts ∙ is.1)))

  pub no_part : bytes ≡ codes "push " ++ rest → ((a b : ℤ) → ¬ IsTwo a b rest) → (l : Line) → ¬ IsBody l bytes
  no_part starts none (lines.Form f) is = form f is.1
  no_part starts none (lines.Push a b) is = none a b (is.0.0, is.0.1, ap (drop 5) (sym starts ∙ is.1))
  no_part starts none _ is = false≢true (sym (ap (λ bs. nat_eq (get_or bs 2 0) 115) (sym starts ∙ is.1)))

  pub no_moves : bytes ≡ codes "move " ++ rest → ((u v r : ℤ) → ¬ IsThreeNumbers u v r rest) → (l : Line)
      → ¬ IsBody l bytes
  no_moves starts none (lines.Form f) is = form f is.1
  no_moves starts none (lines.Move u v r) is =
      none u v r (is.0.0, is.0.1, is.0.2, ap (drop 5) (sym starts ∙ is.1))
  no_moves starts none _ is = false≢true (sym (ap (λ bs. nat_eq (get_or bs 2 0) 118) (sym starts ∙ is.1)))
