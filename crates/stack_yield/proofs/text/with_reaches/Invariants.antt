use Rattle.std.proofs.Common.{◌≡◌, ◌++◌, drop, map, string_bytes}
use Rattle.stack_yield.specs.Kept.{reach_view}
use Rattle.stack_yield.specs.RegionText.{reach_lines}
use Rattle.stack_yield.proofs.text.with_reaches.Given as goal

abbrev pub invariant-loop-k : goal.invariant-loop-k
invariant-loop-k l =
    string_bytes l.longer ++ reach_lines (map reach_view (drop l.k l.reaches))
    ≡ string_bytes l.fn.text ++ reach_lines (map reach_view l.reaches)
