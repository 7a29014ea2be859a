-- `fill` meets its contract: each read goes on where the one before it ended.
use Rattle.std.proofs.Common.{◌≤◌, length, arith, length-take, length-drop}
use Rattle.conversion_run.proofs.Streams.{taken_on, reads_on}
use Rattle.conversion_run.proofs.parts.fill.Goals as goal

pub loop-done-preserved : goal.loop-done-preserved
loop-done-preserved g c =
    let more = c.read_some-more in
    let fits : more.result ≤ length more.new.list = omega (arith, more.ensures.in_bounds, more.auto.list) in
    let before : c.loop-done.done ≤ length c.loop-done.list = omega (arith, c.loop-done-test.true) in
    let room = rw (length-take, length-drop) at more.ensures.in_bounds in
    record {
      in_bounds = omega (arith, before, room, c.loop-done.auto.list);
      bytes = rw (taken_on c.loop-done.done more.result _ c.loop-done.list more.new.list before fits)
          (reads_on _ _ _ _ _ c.loop-done.invariant.bytes more.ensures.bytes);
    }
