-- The worked lists, by computation.
use Rattle.std.proofs.Common.{refl}
use Rattle.stack_equilibrium.specs.WrittenSums.{written_force_x, written_force_y, written_moment, with_bearing}
use Rattle.stack_equilibrium.specs.WrittenSums.{written_sum, written_sums}
use Rattle.stack_equilibrium.specs.WrittenVelocities.{written_velocity, written_difference, written_normal}
use Rattle.stack_equilibrium.specs.WrittenVelocities.{written_tangential, written_gap, gap_at}
use Rattle.stack_equilibrium.specs.WrittenPowers.{with_product, with_work}
use Rattle.stack_sum_numbers.specs.WorkedNumbers.{WorkedSums, WorkedSumsAtTheLimit, WorkedRates, WorkedPowers}

pub worked_sums : WorkedSums
worked_sums = record {
  along_x = refl;
  along_y = refl;
  about = refl;
  of_the_ground = refl;
  about_the_ground = refl;
}

pub worked_sums_at_the_limit : WorkedSumsAtTheLimit
unfolding written_force_x written_force_y written_moment with_bearing written_sum written_sums
worked_sums_at_the_limit = record {
  is_too_wide = refl;
  fits = refl;
  pushed_once_more = refl;
  along_x_first = refl;
  along_y_first = refl;
  about_first = refl;
}

pub worked_rates : WorkedRates
unfolding written_velocity written_difference written_normal written_tangential written_gap gap_at
worked_rates = record { left_opens = refl; right_stays = refl; fits = refl; is_too_wide = refl }

pub worked_powers : WorkedPowers
unfolding with_product with_work
worked_powers = record { dead = refl; live = refl; fits = refl; is_too_wide = refl }
