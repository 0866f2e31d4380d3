-- Why the errors of other crates are refusals: those of a model's text, of a built-in model, of the text of an order
-- and of that of directions. That memory ran out is a case of each.
use Rattle.stack_model.specs.declared.errors.ModelError.TheVariants as contents
use Rattle.stack_reader.specs.declared.errors.ReadError.{ReadError}
use Rattle.stack_reader.specs.declared.errors.ReadError.TheVariants as reading
use Rattle.stack_overhang.specs.declared.error.StackError.{StackError}
use Rattle.stack_overhang.specs.declared.error.StackError.TheVariants as built
use Rattle.stack_orders.specs.declared.errors.OrderError.{OrderError}
use Rattle.stack_orders.specs.declared.errors.OrderError.TheVariants as orders
use Rattle.stack_directions.specs.declared.errors.DirectionsError.{DirectionsError}
use Rattle.stack_directions.specs.declared.errors.DirectionsError.TheVariants as directions
use Rattle.stack_lines.specs.Refusals.{Fault, content, size, order_line, directions_line, memory}

-- Why a text is read as no model.
abbrev pub from_read : ReadError → Fault
from_read reading.Memory = memory
from_read (reading.Model contents.Memory) = memory
from_read e = content e

-- Why a built-in model isn't built: it has no such size, or memory ran out.
abbrev pub built_fault : StackError → Fault
built_fault built.Size = size
built_fault built.Memory = memory

-- Why a text is read as no order.
abbrev pub from_order : OrderError → Fault
from_order (orders.Line number) = order_line number
from_order orders.Memory = memory

-- Why a text is read as no directions.
abbrev pub from_directions : DirectionsError → Fault
from_directions (directions.Line number) = directions_line number
from_directions directions.Memory = memory
