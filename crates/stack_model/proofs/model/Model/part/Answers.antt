use Rattle.std.proofs.Common.{◌≡◌, refl, sym, ap, subst, ◌∙◌, map, List}
use Rattle.std.specs.Result.{IfOk}
use Rattle.stack_model.specs.declared.types.Load.{Load}
use Rattle.stack_model.specs.declared.kept.KeptBody.{KeptBody}
use Rattle.stack_model.specs.Structure.{Structure}
use Rattle.stack_model.specs.ModelView.{model_view}
use Rattle.stack_model.specs.Sound.{IsSound}
use Rattle.stack_model.specs.Kept.{body_view}
use Rattle.stack_model.specs.Keeping.{flag_at, kept, picked}
use Rattle.stack_model.specs.Part.{load_among}
use Rattle.stack_model.proofs.PartSound.{part_sound, of_lists}
use Rattle.stack_model.proofs.model.Model.part.Goals as goal

pub over-requires : goal.over-requires
over-requires c =
    let keeps = flag_at c.args.keeps.now in
    subst IsSound (sym (of_lists refl (ap (λ (s : Structure). s.sway) c.self.view_is) refl refl
    (c.in_ok-bodies.ensures ∙ ap (λ (bs : List KeptBody). kept keeps (map body_view bs)) c.as_slice.ensures.value
    ∙ ap (λ (s : Structure). kept keeps s.bodies) c.self.view_is)
    (c.in_ok-loads.ensures ∙ ap (picked (λ (l : Load). keeps l.body) (load_among keeps)) c.as_slice-2.ensures.value
    ∙ ap (λ (s : Structure). picked (λ (l : Load). keeps l.body) (load_among keeps) s.loads) c.self.view_is)))
    (part_sound keeps c.args.self.now (subst IsSound c.self.view_is c.self.invariant))

pub returns : goal.returns
returns c =
    let keeps = flag_at c.args.keeps.now in
    subst (λ (s : Structure). IfOk c.over.result (λ m. model_view m ≡ s))
    (of_lists refl (ap (λ (s : Structure). s.sway) c.self.view_is) refl refl
    (c.in_ok-bodies.ensures ∙ ap (λ (bs : List KeptBody). kept keeps (map body_view bs)) c.as_slice.ensures.value
    ∙ ap (λ (s : Structure). kept keeps s.bodies) c.self.view_is)
    (c.in_ok-loads.ensures ∙ ap (picked (λ (l : Load). keeps l.body) (load_among keeps)) c.as_slice-2.ensures.value
    ∙ ap (λ (s : Structure). picked (λ (l : Load). keeps l.body) (load_among keeps) s.loads) c.self.view_is))
    c.over.ensures
