-- `convert_next` meets its contract: what was read is written converted.
use Rattle.std.proofs.Common.{◌≤◌, length, take, arith, length-take}
use borrow.Author.Tests.{eqb-true}
use Rattle.std.proofs.lemmas.Grind.{common_steps}
use Rattle.conversion_run.proofs.parts.convert_next.Goals as goal

pub returns : goal.returns
returns g c =
    let got = c.fill-got in
    let fits : got.result ≤ c.args.n = grind (arith, common_steps, got.ensures.in_bounds, c.requires) in
    let inside : got.result ≤ length got.new.list = omega (arith, got.ensures.in_bounds, got.auto.list) in
    record {
      bytes = take got.result got.new.list;
      at_most = rw length-take (omega (arith, fits));
      all = λ e. rw length-take (omega (arith, inside, eqb-true _ _ e));
      read = got.ensures.bytes;
      written = c.in_ok-put_converted.ensures;
    }
