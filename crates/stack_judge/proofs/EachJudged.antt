-- No end of the run of a survey's problem is left unjudged.
use Rattle.std.proofs.Common.{◌≢◌, Option, Some, None}
use Rattle.stack_equilibrium.proofs.Common.{CertificateValue, Fraction, Surveyed, ordered_fractions, scene_of}
use Rattle.stack_equilibrium.specs.declared.types.Question.{Question}
use Rattle.stack_rational.specs.TooWide.{is_too_wide}
use Rattle.stack_rational.specs.Laws.{widest}
use Rattle.stack_table.specs.Problem.{Problem}
use Rattle.stack_run.specs.WrittenRun.{End, infeasible, feasible, optimal, ray, wide, over, never}
use Rattle.stack_run.specs.FourEnds.{EndGives}
use Rattle.stack_run.proofs.FourEnds.{ends_give}
use Rattle.stack_posing.specs.Posed.{posed}
use Rattle.stack_judge.specs.declared.types.JudgePlace.{JudgePlace}
use Rattle.stack_judge.specs.EndPlace.{end_place}
use Rattle.stack_judge.specs.Judgement.{judged_by, judgement_of, survey_run, unjudged, EachEndIsJudged}

-- each of the four ends has a certificate, and no other comes
judged_end : (o : Option JudgePlace) (c : CertificateValue) → judged_by o (Some c) ≢ unjudged
judged_end None c h = cc
judged_end (Some p) c h = cc

end_judged : (q : Question) (v : Surveyed) (P : Problem) (x : End Fraction) → EndGives ordered_fractions P x →
    judgement_of q v x ≢ unjudged
end_judged q v P (infeasible T) g h = judged_end (end_place q v (infeasible T)) _ h
end_judged q v P (feasible T) g h = judged_end (end_place q v (feasible T)) _ h
end_judged q v P (optimal T) g h = judged_end (end_place q v (optimal T)) _ h
end_judged q v P (ray T c) g h = judged_end (end_place q v (ray T c)) _ h
end_judged q v P (wide p k s) g h = cc
end_judged q v P over g h = cc
end_judged q v P never g h = g

pub each_end_is_judged : EachEndIsJudged
each_end_is_judged q v budget = end_judged q v (posed q (scene_of v)) (survey_run q v budget)
    (ends_give (posed q (scene_of v)) (is_too_wide widest) budget)
