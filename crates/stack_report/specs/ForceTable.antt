-- The table of the forces and the moves of a certificate as text: the line of its form; for its forces the factor, and
-- for each bearing the force on its later body; for a motion the move of each free block; for further forces the line
-- `ray`, and for each bearing the force. Forces are parts in sixths divided by the scale, and by the factor if they are
-- further ones. Fractions are in lowest terms, with a positive denominator.
use Rattle.std.specs.Prelude.{ℕ, ◌+◌, ℤ, pos, ◌*ℤ◌, List, [], ◌∷◌, ◌++◌, get_or, codes, decimal}
use Rattle.std.specs.Fmt.{signed_decimal}
use Rattle.stack_algebra.proofs.Over.{over}
use Rattle.stack_model.specs.Structure.{Structure}
use Rattle.stack_contact.specs.declared.types.Bearing.{Bearing}
use Rattle.stack_contact.specs.Surveyed.{Surveyed}
use Rattle.stack_contact.specs.FreeBlocks.{frees_of}
use Rattle.stack_certificate.specs.Certificate.{ForcesValue, MotionValue, CertificateValue, stands, collapses}
use Rattle.stack_certificate.specs.Certificate.{greatest, unbounded}
use Rattle.stack_statics.specs.Balance.{force_x_of, force_y_of}
use Rattle.stack_equilibrium.specs.SurveyScene.{scene_bearing_of}
use Rattle.stack_equilibrium.specs.declared.block.Push.{Push}
use Rattle.stack_equilibrium.specs.WrittenSums.{push_at}
use Rattle.stack_report.specs.declared.ratio.Ratio.{Ratio}
use Rattle.stack_report.specs.ContactTable.{name_of, lines_from}

-- n over d, which is positive, in lowest terms
abbrev pub lowest_ratio : (n d : ℤ) → Ratio
lowest_ratio n d = record { num = (over n d).num; den = pos (over n d).den }

-- the numerator, a slash and the denominator
unfoldable pub ratio_text : Ratio → List ℕ
ratio_text r = signed_decimal r.num ++ codes "/" ++ signed_decimal r.den

-- the factor of the live loads
abbrev pub factor_line : ForcesValue → List ℕ
factor_line f = codes "factor " ++ ratio_text (lowest_ratio f.factor f.scale) ++ 10 ∷ []

-- the force of bearing number k, from 0, to the right and upwards
abbrev pub force_text : ℕ → (x y : Ratio) → List ℕ
force_text k x y = codes "force " ++ decimal (k + 1) ++ codes " " ++ ratio_text x ++ codes " " ++ ratio_text y

-- what a bearing exerts on its later body with a push, over d, to the right
abbrev pub exerted_x : Bearing → Push → (d : ℤ) → Ratio
exerted_x z f d = lowest_ratio (force_x_of (scene_bearing_of z) (record { a = f.a.value; b = f.b.value })) d

-- what a bearing exerts on its later body with a push, over d, upwards
abbrev pub exerted_y : Bearing → Push → (d : ℤ) → Ratio
exerted_y z f d = lowest_ratio (force_y_of (scene_bearing_of z) (record { a = f.a.value; b = f.b.value })) d

-- the line of bearing number k, with its force in both directions
abbrev pub force_line : (d : ℤ) → ℕ → Bearing → Push → List ℕ
force_line d k z f = force_text k (exerted_x z f d) (exerted_y z f d) ++ 10 ∷ []

-- the lines of all bearings, each with its force over d
abbrev pub bearing_lines : (d : ℤ) → List Bearing → List (ℤ × ℤ) → List ℕ
bearing_lines d bs parts = lines_from (λ k z. force_line d k z (push_at parts k)) 0 bs

-- the lines of all bearings, each force a sixth of its part over this number
abbrev pub forces_part : Surveyed → (over : ℤ) → List (ℤ × ℤ) → List ℕ
forces_part s over parts = bearing_lines (pos 6 *ℤ over) s.bearings parts

-- the velocity of a block's first stored corner and its turning rate
unfoldable pub velocity_text : (u v r : ℤ) → List ℕ
velocity_text u v r = signed_decimal u ++ codes " " ++ signed_decimal v ++ codes " " ++ signed_decimal r

-- the move of a block with this name
abbrev pub move_text : List ℕ → ℤ × ℤ × ℤ → List ℕ
move_text name m = codes "move " ++ name ++ codes " " ++ velocity_text m.0 m.1 m.2

-- the line of free block number b, which is body i, with its move
abbrev pub body_move_line : Structure → MotionValue → (b i : ℕ) → List ℕ
body_move_line s y b i = move_text (name_of s i) (get_or y b (pos 0, pos 0, pos 0)) ++ 10 ∷ []

-- the moves of all free blocks, in their order
abbrev pub moves_part : Surveyed → MotionValue → List ℕ
moves_part s y = lines_from (body_move_line s.structure y) 0 (frees_of s.structure.bodies)

-- the forces that carry the loads, behind the line of their factor
abbrev pub carried_part : Surveyed → ForcesValue → List ℕ
carried_part s f = factor_line f ++ forces_part s f.scale f.parts

-- the line `ray`, and then the further forces, which are over their factor
abbrev pub rising_part : Surveyed → ForcesValue → List ℕ
rising_part s r = codes "ray\n" ++ forces_part s r.factor r.parts

-- the whole table: the word of the form first, and then what the certificate has
abbrev pub forces_text : Surveyed → CertificateValue → List ℕ
forces_text s (stands f) = codes "stands\n" ++ carried_part s f
forces_text s (collapses y) = codes "collapses\n" ++ moves_part s y
forces_text s (greatest f y) = codes "greatest\n" ++ (carried_part s f ++ moves_part s y)
forces_text s (unbounded f r) = codes "unbounded\n" ++ (carried_part s f ++ rising_part s r)
