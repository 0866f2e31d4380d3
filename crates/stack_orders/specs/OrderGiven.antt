-- What reading an order answers, as a value.
use Rattle.std.specs.Prelude.{ℕ, List, Result, Ok, Err, Vec}
use Rattle.std.specs.declared.alloc.Global.{Global}
use Rattle.stack_model.specs.Structure.{Structure}
use Rattle.stack_orders.specs.declared.errors.OrderError.{OrderError}
use Rattle.stack_orders.specs.OrderRead.{ReadsOrder}

-- what is answered, without where the list lies in memory
abbrev pub order_view : Result (Vec ℕ Global) OrderError → Result (List ℕ) OrderError
order_view (Ok order) = Ok order.items
order_view (Err e) = Err e

abbrev pub GivesOrder : Structure → Result (Vec ℕ Global) OrderError → List ℕ → Type 0
GivesOrder s result text = ReadsOrder s (order_view result) text
