use Rattle.std.proofs.Common.{refl, sym}
use Rattle.stack_certificate.specs.Certificate.{certificate_view}
use Rattle.stack_tableau.specs.EndKinds.{end_at}
use Rattle.stack_judge.proofs.TrueAnswers.{judged}
use Rattle.stack_judge.proofs.certifying.certify_at.Goals as goal

pub unreachable-requires : goal.unreachable-requires
unreachable-requires g c = c.in-Rejected.ensures.rejected tt
    (c.certified_laws.ensures.certified c.requires.end.0 c.args.s.now
    (end_at c.args.kind (g.L.LastTable.table c.args.t.now))
    (certificate_view c.in-Ok.certificate) c.proper.ensures c.requires.end.1.run
    (c.in-Ok.ensures c.requires.end.0 c.requires.end.1).1).holds

pub returns-in-Accepted-clause-judged : goal.returns-in-Accepted-clause-judged
returns-in-Accepted-clause-judged g c q h = judged c.certified_laws.ensures.certified q c.args.s.now
    (end_at c.args.kind (g.L.LastTable.table c.args.t.now)) (certificate_view c.in-Ok.certificate) c.proper.ensures
    c.within.ensures.survey.few c.within.ensures.free h.run (c.in-Ok.ensures q h).0 (c.in-Ok.ensures q h).1
    (sym c.in-Accepted.ensures.written)
    (record {
      stand = c.in-Accepted.ensures.stand refl;
      fall = c.in-Accepted.ensures.fall refl;
      carried = c.in-Accepted.ensures.carried refl;
      bound = c.in-Accepted.ensures.bound refl;
      above = c.in-Accepted.ensures.above refl;
      all = c.in-Accepted.ensures.all refl;
    })
