use Rattle.stack_certificate.specs.declared.line.Line.TheVariants as lines
use Rattle.stack_certificate.specs.Certificate.{certificate_view}
use Rattle.stack_certificate.specs.CertificateText.{open_lines}
use Rattle.stack_certificate.proofs.WrittenLists.{last_put}
use Rattle.stack_certificate.proofs.writing.write_certificate.Goals as goal

pub returns : goal.returns
returns c =
    let lists = open_lines (certificate_view c.args.c.now) in
    let put = c.in_ok-put_lists.ensures in
    record {
      fits = c.requires;
      is = last_put lists lines.End _ _ _ c.new-out.ensures.items put c.in_ok-put_line.ensures;
    }
