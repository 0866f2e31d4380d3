use Rattle.std.proofs.Common.{rules, sym, ap, ◌∙◌, SFits, to_z-of_z, int_le, Err}
use mir.Syntax.{w128}
use lib.IntN.{pos}
use Rattle.std.proofs.lemmas.Result.{err_from_is_err_and}
use Rattle.stack_checker.proofs.ConeTests.{told, passed, refused, cone_pulls, cone_told}
use Rattle.stack_checker.proofs.cones.check_cone.Goals as goal

pub returns-in_err-unless : goal.returns-in_err-unless
returns-in_err-unless c = let fits : SFits w128 c.args.push.a.value = search rules in
    let p = err_from_is_err_and c.from_residual.result c.from_residual.ensures.1 in
    let r = refused _ _ _ _ c.unless.ensures c.in_err-unless.was in
    rw (p.1, p.2) (ap Err r.1 ∙ cone_pulls c.args.k c.args.cone c.args.push
    (ap (int_le (pos 0)) (sym (to_z-of_z fits)) ∙ r.0))

pub returns-in-Ok : goal.returns-in-Ok
returns-in-Ok c = let fits : SFits w128 c.args.push.a.value = search rules in
    c.unless-in-Ok.ensures ∙ ap (told c.args.k) (sym c.in-Ok.is)
    ∙ cone_told c.args.k c.args.cone c.args.push c.admits.result
    (ap (int_le (pos 0)) (sym (to_z-of_z fits)) ∙ passed _ _ _ c.unless.ensures c.in_ok-unless.was)
    c.admits.ensures.value

pub returns-in-Err : goal.returns-in-Err
returns-in-Err c = let fits : SFits w128 c.args.push.a.value = search rules in
    ap (told c.args.k) (sym c.in-Err.is)
    ∙ cone_told c.args.k c.args.cone c.args.push c.admits.result
    (ap (int_le (pos 0)) (sym (to_z-of_z fits)) ∙ passed _ _ _ c.unless.ensures c.in_ok-unless.was)
    c.admits.ensures.value
