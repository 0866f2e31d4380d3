-- The bytes of the post's files are read to its drawing and to its certificates, so that what is true of the drawing is
-- true of the files.
use Rattle.std.proofs.Common.{◌≡◌, Ok, refl, subst, arith}
use Rattle.std.specs.Prelude.{pos, ℕ, List}
use Rattle.std.specs.Fmt.{digits}
use Rattle.stack_certificate.specs.Certificate.{CertificateValue}
use Rattle.stack_certificate.specs.CertificateOf.{certificate_of}
use Rattle.stack_certificate.specs.FaultLine.{cut}
use Rattle.stack_certificate.specs.LineOf.{line_of}
use Rattle.stack_equilibrium.specs.Truth.{IsTrueCertificate}
use Rattle.stack_work.specs.AcceptedModel.{IsAcceptedModel}
use Rattle.stack_said.specs.Accepted.{ModelAndCertificate, HoldTrueCertificate, FilesHoldOne}
use Rattle.stack_said.proofs.CertificateSaid.{hold_true}
use Rattle.stack_worked.specs.SurveyedPost.{drawn_post, surveyed_post, tipping_certificate}
use Rattle.stack_worked.specs.SurveyedPost.{PostIsSurveyed, CertificatesOfPost}
use Rattle.stack_worked.specs.WorkedFiles.{post_file, twice_file, thrice_file, WorkedFiles}
use Rattle.std.specs.Str.{chars, is_utf8}
use Rattle.toml.specs.Parse.{after_element, atom, expression, header_key, items, key_equals, line, lines, members}
use Rattle.toml.specs.Parse.{parse_document, skip_bom, val}
use Rattle.toml_parser.specs.Lexical.{skip_from, skip_ws}
use Rattle.stack_model.specs.Content.{add_block, add_joint, add_load, add_material, bodies_of, content_of, head_of}
use Rattle.stack_model.specs.Content.{joints_of, loads_of, with_body, with_material}
use Rattle.stack_reader.specs.Shape.{block_part, each_of, head_of_document, in_table, joint_part, load_part}
use Rattle.stack_reader.specs.Shape.{material_part, parts_of_document}
use Rattle.stack_reader.specs.Reading.{document_table, model_of, structure_of}
use lib.Utf8.{encode}
use lib.Count.{count_trailing_zeros}
use lib.Ieee.{climb, odd, round, size, span, units}
use Rattle.toml_parser.specs.Strings.{body, escape, escape_char, hex_escape, key_after, one_line, quoted, simple_key}
use Rattle.toml_parser.specs.Strings.{special}
use Rattle.toml.specs.Tables.{along_dots, along_header, at_key, define}
use Rattle.std.specs.Float.Numeral.{scan_numeral}
use Rattle.std.specs.Float.{float_is_finite}
use Rattle.stack_reader.specs.Forms.{field}
use Rattle.toml_datetime.specs.Parse.{after_date, fraction_value, full_date, nanoseconds, offset_minutes}
use Rattle.toml_datetime.specs.Parse.{parse_datetime, partial_time, seconds, time_offset, two_digits}
use Rattle.toml_datetime.specs.Valid.{is_valid_date, is_valid_time}
use Rattle.toml_parser.specs.Numbers.{decimal_number, number, plain_number, prefixed_integer, underscore_fits}
use Rattle.toml_parser.specs.Numbers.{unquoted, word_len, word_value}

reads_post : structure_of post_file ≡ Ok drawn_post
unfolding chars is_utf8 after_element atom expression header_key items key_equals line lines members parse_document
    skip_bom val skip_from skip_ws add_block add_joint add_load add_material bodies_of content_of head_of
    joints_of loads_of with_body with_material block_part each_of head_of_document in_table joint_part load_part
    material_part parts_of_document document_table model_of structure_of encode count_trailing_zeros climb odd
    round size span units body escape escape_char hex_escape key_after one_line quoted simple_key special
    along_dots along_header at_key define scan_numeral float_is_finite field after_date fraction_value full_date
    nanoseconds offset_minutes parse_datetime partial_time seconds time_offset two_digits is_valid_date
    is_valid_time decimal_number number plain_number prefixed_integer underscore_fits unquoted word_len
    word_value
reads_post = refl

reads_twice : certificate_of twice_file ≡ Ok (tipping_certificate (pos 2))
unfolding certificate_of cut line_of digits
reads_twice = refl

reads_thrice : certificate_of thrice_file ≡ Ok (tipping_certificate (pos 3))
unfolding certificate_of cut line_of digits
reads_thrice = refl

module _ (surveyed : PostIsSurveyed) where
  accepted : IsAcceptedModel post_file surveyed_post
  accepted = record {
    structure = drawn_post;
    is_short = omega arith;
    reads_to = reads_post;
    is_surveyed = surveyed;
  }

  -- the model's file, and that of a certificate
  abbrev with_certificate : (text : List ℕ) (c : CertificateValue) → certificate_of text ≡ Ok c
      → ModelAndCertificate post_file text
  with_certificate text c is = record {
    survey = surveyed_post;
    certificate = c;
    is_accepted = accepted;
    is_text = is;
  }

  -- the files hold one survey and one certificate, so no other certificate of them is true
  none : CertificatesOfPost → FilesHoldOne → ¬ (HoldTrueCertificate post_file thrice_file)
  none certificates one = λ h.
      let same = one post_file thrice_file h.files (with_certificate thrice_file _ reads_thrice) in
      certificates.does_not_tip_at_three
      (subst (λ v. IsTrueCertificate v (tipping_certificate (pos 3))) same.0
      (subst (λ c. IsTrueCertificate h.files.survey c) same.1 h.is_true))

  pub worked_files_of : CertificatesOfPost → FilesHoldOne → WorkedFiles
  worked_files_of certificates one = record {
    is_accepted = accepted;
    holds_true = hold_true post_file twice_file (with_certificate twice_file _ reads_twice)
        certificates.tips_at_two;
    holds_none = none certificates one;
  }
