use Rattle.std.proofs.Common.{refl, sym, ap, subst, ◌∙◌, map, SFits, w64, to_z-of_z, rules}
use Rattle.stack_model.specs.Structure.{Structure}
use Rattle.stack_model.specs.Sound.{IsSound}
use Rattle.stack_model.specs.Kept.{material_view}
use Rattle.stack_model.proofs.PartSound.{of_lists}
use Rattle.stack_model.proofs.model.Model.over.Goals as goal

pub of-requires : goal.of-requires
of-requires c =
    let fits : SFits w64 c.self.inside.head.version = search rules in
    subst IsSound (sym (of_lists (to_z-of_z fits ∙ ap (λ (s : Structure). s.version) c.self.view_is) refl
    (c.in_ok-materials.ensures ∙ ap (map material_view) c.as_slice.ensures.value
    ∙ ap (λ (s : Structure). s.materials) c.self.view_is)
    (c.in_ok-joints.ensures.items ∙ c.as_slice-2.ensures.value
    ∙ ap (λ (s : Structure). s.joints) c.self.view_is) refl refl)) c.requires

pub returns : goal.returns
returns c =
    let fits : SFits w64 c.self.inside.head.version = search rules in
    c.of.ensures ∙ of_lists (to_z-of_z fits ∙ ap (λ (s : Structure). s.version) c.self.view_is) refl
    (c.in_ok-materials.ensures ∙ ap (map material_view) c.as_slice.ensures.value
    ∙ ap (λ (s : Structure). s.materials) c.self.view_is)
    (c.in_ok-joints.ensures.items ∙ c.as_slice-2.ensures.value
    ∙ ap (λ (s : Structure). s.joints) c.self.view_is) refl refl
