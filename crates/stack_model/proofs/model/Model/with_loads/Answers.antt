use Rattle.std.proofs.Common.{◌≡◌, refl, sym, ap, subst, ◌∙◌, map}
use Rattle.std.specs.Result.{IfOk}
use Rattle.stack_model.specs.Structure.{Structure}
use Rattle.stack_model.specs.ModelView.{model_view}
use Rattle.stack_model.specs.Sound.{IsSound}
use Rattle.stack_model.specs.Kept.{body_view}
use Rattle.stack_model.proofs.Borne.{sound_bearing}
use Rattle.stack_model.proofs.PartSound.{of_lists}
use Rattle.stack_model.proofs.model.Model.with_loads.Goals as goal

pub over-requires : goal.over-requires
over-requires c = subst IsSound (sym (of_lists refl refl refl refl
    (c.in_ok-bodies.ensures ∙ ap (map body_view) c.as_slice.ensures.value
    ∙ ap (λ (s : Structure). s.bodies) c.self.view_is) c.in_ok-loads.ensures.items))
    (sound_bearing c.args.self.now c.args.loads.now c.args.sway (subst IsSound c.self.view_is c.self.invariant)
    c.requires)

pub returns : goal.returns
returns c = subst (λ (s : Structure). IfOk c.over.result (λ m. model_view m ≡ s))
    (of_lists refl refl refl refl
    (c.in_ok-bodies.ensures ∙ ap (map body_view) c.as_slice.ensures.value
    ∙ ap (λ (s : Structure). s.bodies) c.self.view_is) c.in_ok-loads.ensures.items) c.over.ensures
