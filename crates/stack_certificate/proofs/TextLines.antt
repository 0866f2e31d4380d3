-- Bytes cut into lines, and lines joined into a text.
use Rattle.std.proofs.Common.{◌≡◌, ℕ, ◌+◌, ◌<◌, List, [], ◌∷◌, ◌++◌, length, take, map, Bool, true, false, cond, ◌==◌}
use Rattle.std.proofs.Common.{refl, sym, ap, ◌∙◌, append_assoc, arith}
use Rattle.std.specs.List.{AllByRecursion}
use Rattle.std.proofs.Math.Seq.{take-append-add}
use Rattle.std.proofs.lemmas.Bool.{and_parts}
use Rattle.std.proofs.lemmas.Bool.Decides.{nat_tests}
use Rattle.stack_certificate.specs.declared.line.Line.{Line}
use Rattle.stack_certificate.specs.Lines.{lacks, body_text, line_text, LineFits}
use Rattle.stack_certificate.specs.CertificateText.{text_of}
use Rattle.stack_certificate.specs.FaultLine.{onto_first, cut}
use Rattle.stack_certificate.proofs.ReadLines.{body_free}

-- the first line of some bytes
cut_first : (line rest : List ℕ) → lacks 10 line ≡ true → cut (line ++ 10 ∷ rest) ≡ (line ++ 10 ∷ []) ∷ cut rest
unfolding cut
cut_first [] rest free = refl
cut_first (b ∷ bs) rest free =
    let p = and_parts _ (lacks 10 bs) free in
    let h : (b == 10) ≡ false = grind (arith, nat_tests) in
    rw (h, cut_first bs rest p.1) refl

pub cut_last : (bytes : List ℕ) → 0 < length bytes → lacks 10 bytes ≡ true → cut bytes ≡ bytes ∷ []
unfolding cut
cut_last [] some free = absurd (omega arith)
cut_last (b ∷ []) some free = let h : (b == 10) ≡ false = grind (arith, nat_tests) in rw h refl
cut_last (b ∷ c ∷ bs) some free =
    let p = and_parts _ (lacks 10 (c ∷ bs)) free in
    let h : (b == 10) ≡ false = grind (arith, nat_tests) in
    rw (h, cut_last (c ∷ bs) (omega arith) p.1) refl

pub cut_some : (bytes line rest : List ℕ) → bytes ≡ line ++ 10 ∷ rest → lacks 10 line ≡ true
    → cut bytes ≡ take (length line + 1) bytes ∷ cut rest
cut_some bytes line rest is free =
    let t : take (length line + 1) bytes ≡ line ++ 10 ∷ [] = rw is (take-append-add line (10 ∷ rest) 1) in
    rw t (ap cut is ∙ cut_first line rest free)

-- the bytes are their lines, joined
abbrev pub glued : List (List ℕ) → List ℕ
glued [] = []
glued (l ∷ ls) = l ++ glued ls

glued_first : (b : ℕ) (ls : List (List ℕ)) → glued (onto_first b ls) ≡ b ∷ glued ls
glued_first b [] = refl
glued_first b (l ∷ ls) = refl

by_test : (t : Bool) (b : ℕ) (bs : List ℕ) (ls : List (List ℕ)) → (t ≡ true → 10 ≡ b) → glued ls ≡ bs
    → glued (cond t ((10 ∷ []) ∷ ls) (onto_first b ls)) ≡ b ∷ bs
by_test true b bs ls is h = let e = is refl in cc
by_test false b bs ls is h = glued_first b ls ∙ ap (λ xs. b ∷ xs) h

glued_cut : (bytes : List ℕ) → glued (cut bytes) ≡ bytes
unfolding cut
glued_cut [] = refl
glued_cut (b ∷ bs) = by_test (b == 10) b bs (cut bs) (λ h. grind (arith, nat_tests)) (glued_cut bs)

glued_texts : (ls : List Line) → glued (map line_text ls) ≡ text_of ls
glued_texts [] = refl
glued_texts (l ∷ ls) = ap (λ bs. line_text l ++ bs) (glued_texts ls)

-- bytes that are cut into the texts of lines are the text of these lines
pub text_from : (bytes : List ℕ) (ls : List Line) → cut bytes ≡ map line_text ls → bytes ≡ text_of ls
text_from bytes ls are = sym (glued_cut bytes) ∙ (ap glued are ∙ glued_texts ls)

-- a text is cut into the lines that it was joined from
pub cut_text : (ls : List Line) → AllByRecursion LineFits ls → cut (text_of ls) ≡ map line_text ls
unfolding cut
cut_text [] fit = refl
cut_text (l ∷ ls) fit =
    ap cut (append_assoc (body_text l) (10 ∷ []) (text_of ls))
    ∙ (cut_first (body_text l) (text_of ls) (body_free l fit.0)
    ∙ ap (λ xs. line_text l ∷ xs) (cut_text ls fit.1))
