-- The rules of the lines `exit`, `never`, `region` and `loop`: each ascends by an address. The state is the least address that may follow.
use Rattle.std.specs.Prelude.{ℕ, suc, ◌&&◌, ◌||◌, List, Bool, true, codes, nat_le, if◌then◌else◌}
use Rattle.report_words.specs.Words.{Word}
use Rattle.report_words.specs.Shapes.{fit, are_in_range}
use Rattle.report_lines.specs.LineShapes.{exit_shapes, never_shapes, region_shapes, loop_shapes}
use Rattle.report_rules.specs.Rules.{Rule}
use Rattle.report_rules.specs.WordTests.{place_at}

abbrev pub exit_rule : Rule ℕ
exit_rule = record {
  tag = codes "exit";
  stands = λ least ws. fit exit_shapes ws && nat_le least (place_at 0 ws);
  in_range = λ least ws. true;
  next = λ least ws. suc (place_at 0 ws);
}

abbrev pub never_rule : Rule ℕ
never_rule = record {
  tag = codes "never";
  stands = λ least ws. fit never_shapes ws && nat_le least (place_at 2 ws);
  in_range = λ least ws. are_in_range never_shapes ws;
  next = λ least ws. suc (place_at 2 ws);
}

-- the least first address that may follow, and the greatest end of the lines so far that have an address
pub record Reach : Type 0 where
  pub least : ℕ
  pub end : ℕ

-- the line has no address
abbrev pub is_hollow : List Word → Bool
is_hollow ws = nat_le (place_at 1 ws) (place_at 0 ws)

abbrev pub region_stands : Reach → List Word → Bool
region_stands r ws = fit region_shapes ws && (nat_le r.least (place_at 0 ws) && (is_hollow ws || nat_le r.end (place_at 0 ws)))

abbrev pub region_rule : Rule Reach
region_rule = record {
  tag = codes "region";
  stands = region_stands;
  in_range = λ r ws. true;
  next = λ r ws. record { least = suc (place_at 0 ws); end = if is_hollow ws then r.end else place_at 1 ws };
}

abbrev pub loop_rule : Rule ℕ
loop_rule = record {
  tag = codes "loop";
  stands = λ least ws. fit loop_shapes ws && nat_le least (place_at 4 ws);
  in_range = λ least ws. are_in_range loop_shapes ws;
  next = λ least ws. suc (place_at 4 ws);
}
