-- A loop that adds one line after the other to a text.
use Rattle.std.proofs.Common.{◌≡◌, ℕ, ◌+◌, ◌<◌, List, ◌∷◌, ◌++◌, length, get_or, drop, refl, sym, ap, ◌∙◌}
use Rattle.std.proofs.Common.{add-one, drop-cons, append_assoc}
use Rattle.stack_report.specs.ContactTable.{lines_from}

module _ {A : Type 0} (line : ℕ → A → List ℕ) (zs : List A) (k : ℕ) where
  pub one_more : (z : A) (text longer whole : List ℕ) → k < length zs → z ≡ get_or zs k z
      → longer ≡ text ++ line k z → text ++ lines_from line k (drop k zs) ≡ whole
      → longer ++ lines_from line (k + 1) (drop (k + 1) zs) ≡ whole
  one_more z text longer whole lt is added so_far =
      let rest : drop k zs ≡ get_or zs k z ∷ drop (k + 1) zs = rw (add-one, drop-cons zs k z) refl in
      let one : lines_from line k (drop k zs) ≡ line k z ++ lines_from line (k + 1) (drop (k + 1) zs)
      = rw rest (ap (λ x. line k x ++ lines_from line (k + 1) (drop (k + 1) zs)) (sym is)) in
      ap (λ t. t ++ lines_from line (k + 1) (drop (k + 1) zs)) added
      ∙ append_assoc text (line k z) (lines_from line (k + 1) (drop (k + 1) zs))
      ∙ ap (λ t. text ++ t) (sym one) ∙ so_far
