use Rattle.stack_directions.proofs.DirectedBorne.{product_fits, product_cast}
use Rattle.stack_directions.proofs.directing.times.Goals as goal

pub overflow_mul-result : goal.overflow_mul-result
overflow_mul-result c =
    let f = c.requires.force in
    let m = c.requires.factor in
    product_fits c.args.m c.args.load.fx m.least m.most f.least_fx f.most_fx

pub overflow_mul-result-2 : goal.overflow_mul-result-2
overflow_mul-result-2 c =
    let f = c.requires.force in
    let m = c.requires.factor in
    product_fits c.args.m c.args.load.fy m.least m.most f.least_fy f.most_fy

pub returns : goal.returns
returns c =
    let f = c.requires.force in
    let m = c.requires.factor in
    λ i. record {
      body = c.args.load.body;
      live = c.args.load.live;
      at = c.args.load.at;
      fx = product_cast c.args.m c.args.load.fx m.least m.most f.least_fx f.most_fx i;
      fy = product_cast c.args.m c.args.load.fy m.least m.most f.least_fy f.most_fy i;
    }
