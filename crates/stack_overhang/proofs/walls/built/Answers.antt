use Rattle.std.proofs.Common.{◌≡◌, ℕ, ◌<◌, ◌≤◌, pos, [], ◌∷◌, map, length, refl, ap, sym, ◌∙◌, subst, arith, w64, to_z}
use Rattle.std.proofs.lemmas.Int.{to_z_pos}
use Rattle.stack_whole.specs.Limits.{most_free}
use Rattle.stack_model.specs.Raw.{raw_material, raw_block, raw_load}
use Rattle.stack_model.specs.Content.{content_of}
use Rattle.stack_model.specs.Relisted.{material_listed}
use Rattle.stack_overhang.specs.Bricks.{bricks_of, brick_of}
use Rattle.stack_overhang.specs.Built.{brick_material}
use Rattle.stack_overhang.specs.Wall.{courses_of, wall_structure}
use Rattle.stack_overhang.specs.Limits.{are_rows, is_row}
use Rattle.stack_algebra.proofs.Conjunctions.{both_true}
use Rattle.stack_overhang.proofs.Laid.{wall_laid, course_row}
use Rattle.stack_overhang.proofs.Made.{has_none, made, wall_taken, first_of_version}
use Rattle.stack_overhang.proofs.walls.built.Goals as goal

pub bricks-requires : goal.bricks-requires
bricks-requires c = ap are_rows (c.deref.ensures.value ∙ c.in_ok-rows.ensures)
    ∙ (both_true (are_rows (courses_of c.args.w)) _ (wall_laid c.args.w c.requires).rows).0

pub blocks-requires : goal.blocks-requires
blocks-requires c =
    let bricks : c.deref-2.result.now ≡ bricks_of (courses_of c.args.w) = c.deref-2.ensures.value
    ∙ c.in_ok-bricks.ensures ∙ ap bricks_of (c.deref.ensures.value ∙ c.in_ok-rows.ensures) in
    subst (λ bricks. length bricks ≤ most_free) (sym bricks) (wall_laid c.args.w c.requires).few

pub brick-requires-clause-laid : goal.brick-requires-clause-laid
brick-requires-clause-laid c = ap is_row c.course.ensures ∙ course_row c.args.w c.args.w.courses
    (omega (arith, c.requires.least_courses)) c.requires.most_courses c.requires.most_bricks c.requires.most_shift

pub brick-requires-clause-below : goal.brick-requires-clause-below
brick-requires-clause-below c = subst (λ r. 0 < r.count) (sym c.course.ensures)
    (omega (arith, c.requires.least_bricks))

-- the first brick of the top course is one of the bricks
pub push_right-requires : goal.push_right-requires
push_right-requires c = let h = wall_laid c.args.w c.requires in omega (arith, h.top, h.few)

-- the friction as it is passed
friction : (t : ℕ) → t ≤ 7 → material_listed (brick_material (to_z w64 t) (pos 10)) ∷ []
    ≡ material_listed (brick_material (pos t) (pos 10)) ∷ []
friction t h = ap (λ p. material_listed (brick_material p (pos 10)) ∷ []) (to_z_pos w64 t (omega (arith, h)))

pub model-requires-clause-none : goal.model-requires-clause-none
model-requires-clause-none c = has_none _ (wall_structure c.args.w)
    (ap content_of c.first.ensures ∙ wall_taken c.args.w c.deref-2.result.now _ c.brick.result
    (map raw_material c.in_ok-materials.materials.items) (map raw_block c.in_ok-blocks.blocks.items)
    (map raw_load c.in_ok-loads.loads.items) c.requires (c.deref-2.ensures.value ∙ c.in_ok-bricks.ensures
    ∙ ap bricks_of (c.deref.ensures.value ∙ c.in_ok-rows.ensures)) refl
    (c.brick.ensures ∙ ap (λ r. brick_of r 0) c.course.ensures)
    (c.in_ok-materials.ensures ∙ friction c.args.w.tenths c.requires.most_tenths) c.in_ok-blocks.ensures
    c.in_ok-loads.ensures)

pub model-requires-clause-version : goal.model-requires-clause-version
model-requires-clause-version c = first_of_version _ _ _ _ c.first.ensures

pub returns-clause-ok : goal.returns-clause-ok
returns-clause-ok c = made c.model.result _ (wall_structure c.args.w)
    (ap content_of c.first.ensures ∙ wall_taken c.args.w c.deref-2.result.now _ c.brick.result
    (map raw_material c.in_ok-materials.materials.items) (map raw_block c.in_ok-blocks.blocks.items)
    (map raw_load c.in_ok-loads.loads.items) c.requires (c.deref-2.ensures.value ∙ c.in_ok-bricks.ensures
    ∙ ap bricks_of (c.deref.ensures.value ∙ c.in_ok-rows.ensures)) refl
    (c.brick.ensures ∙ ap (λ r. brick_of r 0) c.course.ensures)
    (c.in_ok-materials.ensures ∙ friction c.args.w.tenths c.requires.most_tenths) c.in_ok-blocks.ensures
    c.in_ok-loads.ensures) c.model.ensures.ok
