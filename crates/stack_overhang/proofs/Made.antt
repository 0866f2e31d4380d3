-- The model that is made of parts without a fault is the built-in one.
use Rattle.std.proofs.Common.{◌≡◌, ℕ, ◌≤◌, pos, true, ◌&&◌, List, [], ◌∷◌, length, Some}
use Rattle.std.proofs.Common.{inl, None, Result, Ok, Err, IfOk, refl, sym, ap, ◌∙◌, subst, arith}
use Rattle.std.specs.Prelude.{codes, if◌then◌else◌, IsOk, is_ok}
use Rattle.stack_algebra.specs.Steps.{steps}
use Rattle.stack_polygon.proofs.Tested.{each_below}
use Rattle.stack_model.specs.declared.places.What.TheVariants as whats
use Rattle.stack_model.specs.declared.errors.ModelError.{ModelError}
use Rattle.stack_model.specs.Structure.{Structure, HasLive}
use Rattle.stack_model.specs.Parts.{MaterialPart, BlockPart, LoadPart, PartLists, first_parts, IsOfVersion}
use Rattle.stack_model.specs.Limits.{is_between, friction_of}
use Rattle.stack_model.specs.Content.{at_most, add_load, content_of}
use Rattle.stack_model.specs.Relisted.{material_listed}
use Rattle.stack_overhang.specs.declared.error.StackError.{StackError}
use Rattle.stack_overhang.specs.declared.types.Rectangle.{Rectangle}
use Rattle.stack_overhang.specs.declared.types.BrickRow.{BrickRow}
use Rattle.stack_overhang.specs.declared.types.Wall.{Wall}
use Rattle.stack_overhang.specs.Bricks.{bricks_of}
use Rattle.stack_overhang.specs.Built.{brick_material, built_bodies}
use Rattle.stack_overhang.specs.Listing.{blocks_of, push_listed}
use Rattle.stack_overhang.specs.Stacks.{stack_on}
use Rattle.stack_overhang.specs.Wall.{courses_of, top_brick, top_number, ground_rectangle, wall_structure}
use Rattle.stack_overhang.specs.Limits.{is_placed, are_laid, IsWall}
use Rattle.stack_overhang.proofs.Laid.{laid, wall_laid}
use Rattle.stack_overhang.proofs.Taken.{all_taken, push_taken}

-- parts that make a structure have no fault
pub has_none : (read : Result Structure ModelError) (s : Structure) → read ≡ Ok s → IsOk read
has_none read s h = ap is_ok h

abbrev taken_as : Structure → Result Structure ModelError
taken_as s = Ok s

same_structure : (a b : Structure) → taken_as a ≡ taken_as b → a ≡ b
same_structure a b e = cc

-- the model that is made of such parts has the structure
pub made : (r : Result Structure StackError) (read : Result Structure ModelError) (s : Structure) → read ≡ Ok s
    → IfOk r (λ m. read ≡ Ok m) → IfOk r (λ m. m ≡ s)
made (Ok m) read s h e = same_structure m s (sym e ∙ h)
made (Err e) read s h k = tt

pub stack_taken : (table : Rectangle) (rows : List BrickRow) (bricks : List Rectangle) (mats : List MaterialPart)
    (blocks : List BlockPart) (loads : List LoadPart)
    → is_placed table ≡ true → are_laid rows ≡ true → bricks ≡ bricks_of rows
    → mats ≡ material_listed (brick_material (pos 0) (pos 1)) ∷ []
    → blocks ≡ blocks_of (codes "table") table bricks
    → loads ≡ [] → content_of (first_parts mats blocks loads) ≡ Ok (stack_on table rows)
stack_taken table rows bricks mats blocks loads under h same ms bs ls =
    all_taken (pos 0) (pos 1) (codes "table") table (bricks_of rows) mats blocks loads [] refl
    (laid (codes "table") table rows refl (λ k. refl) under h) ms
    (bs ∙ ap (blocks_of (codes "table") table) same)
    (ap (λ ls. at_most 256 (length ls) whats.Loads) ls)
    (ap (steps (add_load (built_bodies (codes "table") table (bricks_of rows))) 0 []) ls)

-- at most 7 tenths
tenths : (t : ℕ) → t ≤ 7 → friction_of (pos t ∷ pos 10 ∷ []) ≡ Some (pos t, pos 10)
tenths t h =
    let within = each_below (λ t. is_between (pos 0) (pos 1000) (pos t)) 8 refl t (omega (arith, h)) in
    λ i. if within i && true then Some (pos t, pos 10) else None

pub wall_taken : (w : Wall) (bricks : List Rectangle) (k : ℕ) (top : Rectangle) (mats : List MaterialPart)
    (blocks : List BlockPart) (loads : List LoadPart)
    → IsWall w → bricks ≡ bricks_of (courses_of w) → k ≡ top_number w → top ≡ top_brick w
    → mats ≡ material_listed (brick_material (pos w.tenths) (pos 10)) ∷ []
    → blocks ≡ blocks_of (codes "ground") ground_rectangle bricks
    → loads ≡ push_listed k top ∷ [] → content_of (first_parts mats blocks loads) ≡ Ok (wall_structure w)
wall_taken w bricks k top mats blocks loads h same first corner ms bs ls =
    let rows = courses_of w in
    let l = wall_laid w h in
    let push : loads ≡ push_listed (top_number w) (top_brick w) ∷ [] =
    ls ∙ (λ i. push_listed (first i) (corner i) ∷ []) in
    all_taken (pos w.tenths) (pos 10) (codes "ground") ground_rectangle (bricks_of rows) mats blocks loads _
    (tenths w.tenths h.most_tenths)
    (laid (codes "ground") ground_rectangle rows refl (λ k. refl) refl l.rows) ms
    (bs ∙ ap (blocks_of (codes "ground") ground_rectangle) same)
    (ap (λ ls. at_most 256 (length ls) whats.Loads) push)
    (ap (steps (add_load (built_bodies (codes "ground") ground_rectangle (bricks_of rows))) 0 []) push
    ∙ push_taken (codes "ground") ground_rectangle (bricks_of rows) (top_number w) (top_brick w) (λ k. refl) l.top l.few
    l.corner)

-- a wall has its live load
pub wall_has_live : (r : Result Structure StackError) (w : Wall) → IfOk r (λ m. m ≡ wall_structure w)
    → IfOk r (λ m. HasLive m)
wall_has_live (Ok m) w e = subst HasLive (sym e) (inl (0, (omega arith, refl)))
wall_has_live (Err e) w h = tt

-- parts of version 1 have neither joints nor a sway
pub first_of_version : (p : PartLists) (mats : List MaterialPart) (blocks : List BlockPart) (loads : List LoadPart)
    → p ≡ first_parts mats blocks loads → IsOfVersion p
first_of_version p mats blocks loads e = subst IsOfVersion (sym e)
    (record { joints = λ ne. refl; sway = λ ne. refl })
