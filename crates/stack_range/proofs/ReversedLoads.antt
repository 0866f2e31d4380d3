-- The loads of a structure, reversed, are loads that it may have.
use Rattle.std.proofs.Common.{◌<◌, ◌≤◌, Bool, true, false, List, map, length, subst, sym, ap, arith}
use Rattle.std.specs.Prelude.{ℤ, pos, negsuc, neg_ℤ, if◌then◌else◌}
use Rattle.std.proofs.lemmas.Int.{ints}
use Rattle.std.proofs.lemmas.List.{length-map, get_or-map}
use Rattle.stack_algebra.specs.IntegerOrder.{◌≼◌}
use Rattle.stack_equilibrium.proofs.Common.{IsSound, Load, MayBear, NamedBody, Structure, load_of}
use Rattle.stack_model.specs.Structure.{IsSway}
use Rattle.stack_model.specs.Borne.{IsBorne}
use Rattle.stack_range.specs.Reversed.{reversed_load, reversed_sway}

-- a part of a reversed force is no less than the limit
least : (live : Bool) (f : ℤ) → negsuc 999999999 ≼ f → f ≼ pos 1000000000 →
    negsuc 999999999 ≼ (if live then neg_ℤ f else f)
least true f l m = omega (arith, ints)
least false f l m = l

-- a part of a reversed force is no greater than the limit
most : (live : Bool) (f : ℤ) → negsuc 999999999 ≼ f → f ≼ pos 1000000000 →
    (if live then neg_ℤ f else f) ≼ pos 1000000000
most true f l m = omega (arith, ints)
most false f l m = m

-- a reversed load is on the same free body
one : (bs : List NamedBody) (l : Load) → IsBorne bs l → IsBorne bs (reversed_load l)
one bs l h = let c = h.carried in record {
  carried = record {
    on_body = c.on_body;
    in_range = c.in_range;
    least_fx = least l.live l.fx c.least_fx c.most_fx;
    most_fx = most l.live l.fx c.least_fx c.most_fx;
    least_fy = least l.live l.fy c.least_fy c.most_fy;
    most_fy = most l.live l.fy c.least_fy c.most_fy;
  };
  free = h.free;
}

-- a sway to the other side is one that it may have
sway_too : (sway : ℤ × ℤ) → IsSway sway → IsSway (reversed_sway sway)
sway_too sway h = record {
  least_x = omega (arith, ints, h.most_x);
  most_x = omega (arith, ints, h.least_x);
  least_y = omega (arith, ints, h.most_y);
  most_y = omega (arith, ints, h.least_y);
}

-- all loads and the sway
pub may_bear_reversed : (s : Structure) → IsSound s → MayBear s (map reversed_load s.loads) (reversed_sway s.sway)
may_bear_reversed s h = record {
  few = subst (λ n. n ≤ 256) (sym (length-map s.loads reversed_load)) h.few_loads;
  each = λ k d lt.
      let l : k < length s.loads = subst (λ n. k < n) (length-map s.loads reversed_load) lt in
      subst (IsBorne s.bodies) (sym (get_or-map reversed_load s.loads k _ d l))
      (one s.bodies (load_of s k) (record { carried = h.loads k l; free = h.free k l }));
  limits = sway_too s.sway h.sway;
  of_version = λ other. ap reversed_sway (h.version.sway other);
}
