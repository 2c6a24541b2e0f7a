-- The source of each number is kept on the empty input.
use Rattle.std.proofs.Common.{zero, suc, arith}
use Rattle.command_numbered.proofs.Sources.{numbered_done}
use Rattle.command_perform.specs.Numbered.{NumbersAreKept}

pub numbers_are_kept : NumbersAreKept
numbers_are_kept zero some few = absurd (omega (arith, some))
numbers_are_kept (suc m) some few =
    let d = numbered_done m few in
    record {
      whole = record { names = d.names; program = d.program; facts = d.facts; is_source = d.is_source };
      output = d.output;
      value = d.value;
      counts = d.counts;
      done = d.done;
      fits = omega (arith, d.short);
    }
