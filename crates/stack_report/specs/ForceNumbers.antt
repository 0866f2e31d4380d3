-- The numbers of which a table of forces is made, in their order, and the index of the first that is too wide.
-- Six times the scale has the index of its list; the numbers of its bearings, from the first one, have the indices
-- that follow. The second list of a certificate follows the first, with its factor in place of its scale.
use Rattle.std.specs.Prelude.{ℕ, ◌+◌, ℤ, pos, ◌+ℤ◌, ◌-ℤ◌, ◌*ℤ◌, List, length, get_or, Bool, not, ◌&&◌, Option, None}
use Rattle.stack_algebra.specs.Search.{or_else, first, only_if}
use Rattle.stack_whole.specs.Whole.{fits}
use Rattle.stack_frame.specs.declared.frame.Frame.{Frame}
use Rattle.stack_contact.specs.declared.types.Bearing.{Bearing}
use Rattle.stack_contact.specs.Surveyed.{Surveyed}
use Rattle.stack_certificate.specs.Certificate.{CertificateValue, stands, collapses, greatest, unbounded}
use Rattle.stack_equilibrium.specs.declared.block.Push.{Push}
use Rattle.stack_equilibrium.specs.SurveyScene.{no_bearing}
use Rattle.stack_equilibrium.specs.WrittenSums.{push_at}

-- b*tx, a*ty and their difference aren't too wide: the force along x, of the parts a and b
abbrev pub x_fits : Frame → (a b : ℤ) → Bool
x_fits t a b = fits (b *ℤ t.tx) && (fits (a *ℤ t.ty) && fits (b *ℤ t.tx -ℤ a *ℤ t.ty))

-- a*tx, b*ty and their sum aren't too wide: the force along y
abbrev pub y_fits : Frame → (a b : ℤ) → Bool
y_fits t a b = fits (a *ℤ t.tx) && (fits (b *ℤ t.ty) && fits (a *ℤ t.tx +ℤ b *ℤ t.ty))

-- none of a force's six numbers is too wide
abbrev pub force_fits : Bearing → Push → Bool
force_fits z f = x_fits z.frame f.a.value f.b.value && y_fits z.frame f.a.value f.b.value

-- the index i, if one of the six numbers of a force is too wide
abbrev pub one_spot : (i : ℕ) → Bearing → Push → Option ℕ
one_spot i z f = only_if (not (force_fits z f)) i

-- the index of bearing k of a list whose first one has the index i, if a number of its force is too wide
abbrev pub force_spot : (i : ℕ) → List Bearing → List (ℤ × ℤ) → (k : ℕ) → Option ℕ
force_spot i bs parts k = one_spot (i + k) (get_or bs k no_bearing) (push_at parts k)

-- the first index of a list that is too wide: i for six times what its forces are divided by, and then its bearings'
abbrev pub list_spot : (i : ℕ) → (over : ℤ) → List Bearing → List (ℤ × ℤ) → Option ℕ
list_spot i over bs parts = or_else (only_if (not (fits (pos 6 *ℤ over))) i)
    (first (length bs) (force_spot (i + 1) bs parts))

-- the first index of a certificate that is too wide, if there is one
abbrev pub wide_index : Surveyed → CertificateValue → Option ℕ
wide_index s (stands f) = list_spot 0 f.scale s.bearings f.parts
wide_index s (collapses y) = None
wide_index s (greatest f y) = list_spot 0 f.scale s.bearings f.parts
wide_index s (unbounded f r) = or_else (list_spot 0 f.scale s.bearings f.parts)
    (list_spot (length s.bearings + 1) r.factor s.bearings r.parts)
