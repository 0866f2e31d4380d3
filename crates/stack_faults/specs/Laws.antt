-- The fault that is answered is the first of all, and there is an answer without one exactly if there is none.
use Rattle.std.specs.Prelude.{◌≡◌, ◌↔◌, ℕ, true, List, [], Some, IsOk}
use Rattle.toml.specs.Data.{Members}
use Rattle.stack_polygon.specs.declared.point.Point.{Point}
use Rattle.stack_model.specs.Parts.{PartLists}
use Rattle.stack_model.specs.Content.{content_of}
use Rattle.stack_reader.specs.Shape.{parts_of_document}
use Rattle.stack_reader.specs.Reading.{model_of, structure_of}
use Rattle.stack_faults.specs.Outline.{HasNoOutline}
use Rattle.stack_faults.specs.FaultLists.{earliest, answered_fault}
use Rattle.stack_faults.specs.ContentFaults.{is_crooked, unclear_edge, content_faults}
use Rattle.stack_faults.specs.TableFaults.{shape_faults, table_faults, file_faults}

-- the fault of content that is answered is the first of all, of what a file lists
abbrev pub FirstContentFault : Type 0
FirstContentFault = (parts : PartLists) → answered_fault (content_of parts) ≡ earliest (content_faults parts)

-- what a file lists makes a structure exactly if it has no fault of content
abbrev pub ContentWhereFaultless : Type 0
ContentWhereFaultless = (parts : PartLists) → IsOk (content_of parts) ↔ (content_faults parts ≡ [])

-- corners within their limits are crooked exactly if neither they nor their reversal are strictly convex, and then the
-- edge that is told is the first that doesn't have every other corner strictly left of it
abbrev pub CrookedByMeaning : Type 0
CrookedByMeaning = (ps : List Point) → (is_crooked (Some ps) ≡ true) ↔ HasNoOutline ps (unclear_edge (Some ps))

-- the fault of shape that is answered is the first of all, of a table
abbrev pub FirstShapeFault : Type 0
FirstShapeFault = (ms : Members) → answered_fault (parts_of_document ms) ≡ earliest (shape_faults ms)

-- a table says what it lists exactly if it has no fault of shape
abbrev pub ShapeWhereFaultless : Type 0
ShapeWhereFaultless = (ms : Members) → IsOk (parts_of_document ms) ↔ (shape_faults ms ≡ [])

-- the fault of either kind that is answered is the first of all, of a table
abbrev pub FirstTableFault : Type 0
FirstTableFault = (ms : Members) → answered_fault (model_of ms) ≡ earliest (table_faults ms)

-- a table makes a structure exactly if it has no fault of either kind
abbrev pub StructureWhereFaultless : Type 0
StructureWhereFaultless = (ms : Members) → IsOk (model_of ms) ↔ (table_faults ms ≡ [])

-- the fault that is answered is the first of all, of a file's bytes
abbrev pub FirstFileFault : Type 0
FirstFileFault = (bytes : List ℕ) → answered_fault (structure_of bytes) ≡ earliest (file_faults bytes)

-- a file's bytes make a structure exactly if they have no fault
abbrev pub FileWhereFaultless : Type 0
FileWhereFaultless = (bytes : List ℕ) → IsOk (structure_of bytes) ↔ (file_faults bytes ≡ [])
