-- What a run says in plain words, by the form of its words and by the bytes of its files if the shelf tells them: one
-- field for each promise. It follows from `RunMeets` (MainTheorem), and can be read without it.
use Rattle.std.specs.Prelude.{◌≡◌, ℕ, List, ◌∷◌, Option, Some}
use Rattle.stack_outside.specs.Seen.{ShelfSeen, StreamSeen}
use Rattle.stack_contact.specs.Surveyed.{Surveyed}
use Rattle.stack_certificate.specs.Certificate.{CertificateValue}
use Rattle.stack_certificate.specs.CertificateText.{IsCertificateText}
use Rattle.stack_equilibrium.specs.declared.types.Question.{Question}
use Rattle.stack_judge.specs.Judged.{IsJudged}
use Rattle.stack_work.specs.declared.form.Kind.{Kind}
use Rattle.stack_work.specs.declared.form.Asked.TheVariants.{Acceptance, Tables}
use Rattle.stack_work.specs.AcceptedModel.{IsAcceptedModel}
use Rattle.stack_work.specs.Forms.{Form, files_of, judges, check, tables, contacts, stack, sample, ranges, builds}
use Rattle.stack_work.specs.Forms.{yields}
use Rattle.stack_said.specs.LengthSaid.{LengthSays}
use Rattle.stack_said.specs.ModelSaid.{ModelSays}
use Rattle.stack_said.specs.Printed.{IsAcceptedAgain}
use Rattle.stack_said.specs.Promise.{Fulfils, FulfilsAtOnce}
use Rattle.stack_said.specs.JudgePromise.{judge_promise}
use Rattle.stack_said.specs.ContactsPromise.{contacts_promise}
use Rattle.stack_said.specs.RangePromise.{range_promise}
use Rattle.stack_said.specs.CertificatePromise.{certificate_promise}
use Rattle.stack_said.specs.StagesPromise.{stages_promise}
use Rattle.stack_said.specs.PairPromise.{pair_promise}
use Rattle.stack_said.specs.RegionPromise.{region_promise}
use Rattle.stack_said.specs.StackPromise.{stack_promise}
use Rattle.stack_said.specs.SamplePromise.{sample_promise}

pub record RunSays (status : ℕ) (form : Option Form) (shelf : ShelfSeen) (out err : StreamSeen) : Type 0 where
  -- `stand` and `load`: a true certificate of the question is printed, or the cause of the refusal holds
  pub headline : (q : Question) (model : List ℕ) (budget : ℕ) (bytes : List ℕ) → form ≡ Some (judges q model budget)
      → shelf.holds model ≡ Some bytes → Fulfils (judge_promise q budget) bytes status shelf out err
  -- `check`: whether the certificate is true
  pub accepted : (model name bytes text : List ℕ) → form ≡ Some (check model name) → shelf.holds model ≡ Some bytes
      → shelf.holds name ≡ Some text → Fulfils (certificate_promise Acceptance text) bytes status shelf out err
  -- `check` accepts what `stand` or `load` printed
  pub again : (q : Question) (v : Surveyed) (c : CertificateValue) (model name bytes text : List ℕ)
      → form ≡ Some (check model name) → shelf.holds model ≡ Some bytes → shelf.holds name ≡ Some text
      → IsAcceptedModel bytes v → IsJudged q v c → IsCertificateText c text → IsAcceptedAgain status shelf out
  -- `table`: the two tables of a true certificate
  pub tabled : (model name bytes text : List ℕ) → form ≡ Some (tables model name) → shelf.holds model ≡ Some bytes
      → shelf.holds name ≡ Some text → Fulfils (certificate_promise Tables text) bytes status shelf out err
  -- `contacts`: the table of the model's survey
  pub listed : (model bytes : List ℕ) → form ≡ Some (contacts model) → shelf.holds model ≡ Some bytes
      → Fulfils contacts_promise bytes status shelf out err
  -- `stack`: a document that describes the built-in stack
  pub stacked : (kind : Kind) (n : ℕ) → form ≡ Some (stack kind n)
      → FulfilsAtOnce (stack_promise kind n) status shelf out err
  -- `sample`: the summary of a true certificate of the wall's live question
  pub sampled : (number : ℕ) → form ≡ Some (sample number)
      → FulfilsAtOnce (sample_promise number) status shelf out err
  -- how a faulty model is refused, whichever of the forms that name a model the words have
  pub model : (f : Form) (model : List ℕ) (more : List (List ℕ)) (bytes : List ℕ) → form ≡ Some f
      → files_of (Some f) ≡ model ∷ more → shelf.holds model ≡ Some bytes
      → ModelSays bytes status shelf out err
  -- status 4 is caused by a file that is too long alone, whichever form the words have
  pub length : (f : Form) → form ≡ Some f → LengthSays f status shelf out err
  -- `range`: the ends between which lie exactly the factors that are carried
  pub ranged : (model : List ℕ) (budget : ℕ) (bytes : List ℕ) → form ≡ Some (ranges model budget)
      → shelf.holds model ≡ Some bytes → Fulfils (range_promise budget) bytes status shelf out err
  -- `stages`: each stage carries its dead loads, or which is the first that falls
  pub staged : (model name : List ℕ) (budget : ℕ) (bytes text : List ℕ) → form ≡ Some (builds model name budget)
      → shelf.holds model ≡ Some bytes → shelf.holds name ≡ Some text
      → Fulfils (stages_promise text budget) bytes status shelf out err
  -- `yield`: pairs of factors at which both live loads are carried, and half-planes that hold every such pair
  pub yielded : (model : List ℕ) (i j : ℕ) (name : List ℕ) (budget : ℕ) (bytes text : List ℕ)
      → form ≡ Some (yields model i j name budget) → shelf.holds model ≡ Some bytes → shelf.holds name ≡ Some text
      → Fulfils (region_promise i j text budget) bytes status shelf out err
  -- `yield`: a number that names no such live load is refused, whatever the file of directions holds
  pub paired : (model : List ℕ) (i j : ℕ) (name : List ℕ) (budget : ℕ) (bytes : List ℕ)
      → form ≡ Some (yields model i j name budget) → shelf.holds model ≡ Some bytes
      → Fulfils (pair_promise i j) bytes status shelf out err
