-- The pushed post from the bytes of its files, TOML grammar and all: the file of its model, and those of two
-- certificates.
use Rattle.std.specs.Prelude.{ℕ, List, ◌++◌, codes}
use Rattle.stack_work.specs.AcceptedModel.{IsAcceptedModel}
use Rattle.stack_said.specs.Accepted.{HoldTrueCertificate}
use Rattle.stack_worked.specs.SurveyedPost.{surveyed_post}

-- the drawing of the post as a model's file
abbrev pub post_file : List ℕ
post_file = codes "[[material]]\nname = \"stone\"\nweight = 1\nfriction = [1, 1]\n"
    ++ (codes "[[block]]\nname = \"ground\"\nmaterial = \"stone\"\nfixed = true\n"
    ++ (codes "corners = [[-10, -1], [10, -1], [10, 0], [-10, 0]]\n"
    ++ (codes "[[block]]\nname = \"post\"\nmaterial = \"stone\"\n"
    ++ (codes "corners = [[0, 0], [2, 0], [2, 4], [0, 4]]\n"
    ++ codes "[[load]]\nblock = \"post\"\nkind = \"live\"\nat = [0, 4]\nforce = [1, 0]\n"))))

-- the certificate that it carries twice the push and no more, as a file
abbrev pub twice_file : List ℕ
twice_file = codes "greatest\nforces 1 2\npush 0 0\npush 48 -12\nmotion\nmove 0 2 -1\nend\n"

-- a changed copy, with three times the push
abbrev pub thrice_file : List ℕ
thrice_file = codes "greatest\nforces 1 3\npush 0 0\npush 48 -12\nmotion\nmove 0 2 -1\nend\n"

-- The file of the model is accepted, with the survey of the drawing. The first file of a certificate holds one that is
-- true of it, and the second doesn't.
pub record WorkedFiles : Type 0 where
  pub is_accepted : IsAcceptedModel post_file surveyed_post
  pub holds_true : HoldTrueCertificate post_file twice_file
  pub holds_none : ¬ (HoldTrueCertificate post_file thrice_file)
