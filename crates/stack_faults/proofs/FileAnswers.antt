-- What a table answers as a whole, and a file's bytes.
use Rattle.std.proofs.Common.{◌≡◌, refl, sym, ap, ◌∙◌, ℕ, zero, suc, Bool, true, false, List, [], ◌∷◌, ◌++◌, map}
use Rattle.std.proofs.Common.{length, Option, Some, None, Result, Ok, Err, option_map, if◌then◌else◌, nat_lt, not}
use Rattle.std.specs.Str.{is_utf8}
use Rattle.std.proofs.lemmas.List.{map-append}
use Rattle.toml.specs.Data.{Members}
use Rattle.toml.specs.Parse.{parse_document}
use Rattle.stack_algebra.specs.Steps.{◌>>=◌}
use Rattle.stack_algebra.specs.Search.{or_else}
use Rattle.stack_model.specs.declared.errors.ModelError.{ModelError}
use Rattle.stack_model.specs.declared.errors.ModelError.TheVariants.{Range, TooMany}
use Rattle.stack_model.specs.declared.places.What.{What}
use Rattle.stack_model.specs.declared.places.What.TheVariants as whats
use Rattle.stack_model.specs.Limits.{most_materials, most_joints, most_bodies, most_loads, is_version}
use Rattle.stack_model.specs.declared.places.Spot.TheVariants as spots
use Rattle.stack_model.specs.declared.places.Key.TheVariants as keys
use Rattle.stack_model.specs.Structure.{Structure}
use Rattle.stack_model.specs.Parts.{PartLists}
use Rattle.stack_model.specs.Content.{content_of}
use Rattle.stack_reader.specs.declared.errors.ReadError.{ReadError}
use Rattle.stack_reader.specs.declared.errors.ReadError.TheVariants.{NotToml, Model}
use Rattle.stack_reader.specs.Shape.{parts_of_document}
use Rattle.stack_reader.specs.Reading.{parsed, document_table, from_content, within_file, model_of, structure_of}
use Rattle.stack_faults.specs.FaultLists.{faults_where, faults_below, earliest, answered_fault}
use Rattle.stack_faults.specs.ContentFaults.{number_faults, causes_of_material, causes_of_block, causes_of_load}
use Rattle.stack_faults.specs.ContentFaults.{material_faults, block_faults, load_faults, content_faults, faults_by}
use Rattle.stack_faults.specs.ContentFaults.{is_bad_sway, head_faults, joint_faults, causes_of_joint}
use Rattle.stack_faults.specs.TableFaults.{shape_faults, faults_of_listed, table_faults, faults_of_document}
use Rattle.stack_faults.specs.TableFaults.{file_faults}
use Rattle.stack_faults.proofs.Firsts.{earliest-append}
use Rattle.stack_faults.proofs.ContentAnswers.{content_first}
use Rattle.stack_faults.proofs.TableAnswers.{shape_told}

-- two ways to write faults, which are one on some causes
module _ {E F : Type 0} (f g : E → F) where
  abbrev Alike : List E → Type 0
  Alike xs = map f xs ≡ map g xs

  alike_causes : (cs : List (Bool × E)) → map (λ c. f c.1) cs ≡ map (λ c. g c.1) cs → Alike (faults_where cs)
  alike_causes [] h = refl
  alike_causes (c ∷ cs) h = go c.0 c.1 (heads h) (alike_causes cs (tails h))
    where
      go : (b : Bool) (x : E) → f x ≡ g x → Alike (faults_where cs)
          → Alike (if b then x ∷ faults_where cs else faults_where cs)
      go true x e k = λ i. e i ∷ k i
      go false x e k = k

      heads : f c.1 ∷ map (λ c. f c.1) cs ≡ g c.1 ∷ map (λ c. g c.1) cs → f c.1 ≡ g c.1
      heads e = cc

      tails : f c.1 ∷ map (λ c. f c.1) cs ≡ g c.1 ∷ map (λ c. g c.1) cs
          → map (λ c. f c.1) cs ≡ map (λ c. g c.1) cs
      tails e = cc

  alike_append : (xs ys : List E) → Alike xs → Alike ys → Alike (xs ++ ys)
  alike_append xs ys h k = map-append f xs ys ∙ (λ i. h i ++ k i) ∙ sym (map-append g xs ys)

  alike_below : (n : ℕ) (h : ℕ → List E) → ((i : ℕ) → Alike (h i)) → Alike (faults_below n h)
  alike_below zero h k = refl
  alike_below (suc n) h k = alike_append (faults_below n h) (h n) (alike_below n h k) (k n)

abbrev as_fault : ModelError → ReadError
as_fault e = Model e

list_alike : (limit count : ℕ) (what : What) (causes : ℕ → List (Bool × ModelError))
    → ((i : ℕ) → map (λ c. from_content c.1) (causes i) ≡ map (λ c. as_fault c.1) (causes i))
    → Alike from_content as_fault (number_faults limit count what ++ faults_by count causes)
list_alike limit count what causes h = alike_append from_content as_fault (number_faults limit count what)
    (faults_by count causes)
    (alike_causes from_content as_fault ((nat_lt limit count, TooMany what) ∷ []) refl)
    (alike_below from_content as_fault count (λ i. faults_where (causes i))
    (λ i. alike_causes from_content as_fault (causes i) (h i)))

-- no fault of content is want of memory
content_alike : (parts : PartLists) → Alike from_content as_fault (content_faults parts)
content_alike parts =
    alike_append from_content as_fault
    (head_faults parts ++ material_faults parts ++ joint_faults parts ++ block_faults parts) (load_faults parts)
    (alike_append from_content as_fault (head_faults parts ++ material_faults parts ++ joint_faults parts)
    (block_faults parts)
    (alike_append from_content as_fault (head_faults parts ++ material_faults parts) (joint_faults parts)
    (alike_append from_content as_fault (head_faults parts) (material_faults parts)
    (alike_causes from_content as_fault
    ((not (is_version parts.version), Range spots.Top keys.Version)
    ∷ (is_bad_sway parts.sway, Range spots.Top keys.Sway) ∷ []) refl)
    (list_alike most_materials (length parts.materials) whats.Materials (causes_of_material parts) (λ i. refl)))
    (list_alike most_joints (length parts.joints) whats.Joints (causes_of_joint parts) (λ i. refl)))
    (list_alike most_bodies (length parts.blocks) whats.Blocks (causes_of_block parts) (λ i. refl)))
    (list_alike most_loads (length parts.loads) whats.Loads (causes_of_load parts) (λ i. refl))

within_told : (r : Result Structure ModelError) → answered_fault (within_file r)
    ≡ option_map from_content (answered_fault r)
within_told (Ok s) = refl
within_told (Err e) = refl

earliest-map : {E F : Type 0} (f : E → F) (xs : List E) → option_map f (earliest xs) ≡ earliest (map f xs)
earliest-map f [] = refl
earliest-map f (x ∷ xs) = refl

pub table_first : (ms : Members) → answered_fault (model_of ms) ≡ earliest (table_faults ms)
unfolding model_of
table_first ms = go (parts_of_document ms) (shape_told ms)
    ∙ sym (earliest-append (shape_faults ms) (faults_of_listed (parts_of_document ms)))
  where
    go : (r : Result PartLists ReadError) → answered_fault r ≡ earliest (shape_faults ms)
        → answered_fault (r >>= λ parts. within_file (content_of parts))
        ≡ or_else (earliest (shape_faults ms)) (earliest (faults_of_listed r))
    go (Err e) h = ap (λ o. or_else o None) h
    go (Ok parts) h = within_told (content_of parts) ∙ ap (option_map from_content) (content_first parts)
        ∙ earliest-map from_content (content_faults parts) ∙ ap earliest (content_alike parts)
        ∙ ap (λ o. or_else o (earliest (map (λ e. Model e) (content_faults parts)))) h

pub file_first : (bytes : List ℕ) → answered_fault (structure_of bytes) ≡ earliest (file_faults bytes)
unfolding structure_of document_table
file_first bytes = go (is_utf8 bytes) (parse_document bytes)
  where
    go : (u : Bool) (o : Option Members)
        → answered_fault ((if u then parsed o else Err NotToml) >>= model_of)
        ≡ earliest (faults_of_document (if u then parsed o else Err NotToml))
    go true (Some ms) = table_first ms
    go true None = refl
    go false o = refl
