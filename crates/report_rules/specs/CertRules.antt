-- The rules of the lines `scale`, `potential`, `unit`, `flow` and `share`.
use Rattle.std.specs.Prelude.{◌≡◌, ℕ, suc, ◌<◌, ◌≤◌, ◌^◌, ◌==◌, ◌&&◌, ◌||◌, List, Bool, true, false, codes, nat_le, nat_lt}
use Rattle.report_words.specs.Words.{Word}
use Rattle.report_words.specs.Numbers.{number_of}
use Rattle.report_words.specs.Shapes.{fit, are_in_range}
use Rattle.report_lines.specs.LineShapes.{scale_shapes, potential_shapes, unit_shapes, flow_shapes, share_shapes}
use Rattle.report_rules.specs.Rules.{Rule}
use Rattle.report_rules.specs.WordTests.{word_at, place_at}

abbrev pub scale_rule : Rule (Unit {0})
scale_rule = record { tag = codes "scale"; stands = λ s ws. fit scale_shapes ws; in_range = λ s ws. are_in_range scale_shapes ws; next = λ s ws. s }

-- the state is the least address that may follow
abbrev pub potential_rule : Rule ℕ
potential_rule = record {
  tag = codes "potential";
  stands = λ least ws. fit potential_shapes ws && nat_le least (place_at 0 ws);
  in_range = λ least ws. are_in_range potential_shapes ws;
  next = λ least ws. suc (place_at 0 ws);
}

-- the state is whether the kind is greatest
abbrev pub unit_rule : Rule Bool
unit_rule = record {
  tag = codes "unit";
  stands = λ greatest ws. fit (unit_shapes greatest) ws;
  in_range = λ greatest ws. are_in_range (unit_shapes greatest) ws;
  next = λ greatest ws. greatest;
}

-- the range of a unit
abbrev pub IsUnit : Bool → ℕ → Type 0
IsUnit true n = (0 < n) × (n ≤ 2 ^ 48)
IsUnit false n = n ≡ 0

-- the least move that may follow: an address, and the least number of its moves
pub record LeastMove : Type 0 where
  pub at : ℕ
  pub number : ℕ

-- by address, then by number
abbrev pub flow_stands : LeastMove → List Word → Bool
flow_stands l ws = fit flow_shapes ws && (nat_lt l.at (place_at 0 ws) || ((l.at == place_at 0 ws) && nat_le l.number (number_of (word_at 1 ws))))

abbrev pub flow_rule : Rule LeastMove
flow_rule = record {
  tag = codes "flow";
  stands = flow_stands;
  in_range = λ l ws. are_in_range flow_shapes ws;
  next = λ l ws. record { at = place_at 0 ws; number = suc (number_of (word_at 1 ws)) };
}

-- a range that isn't empty; the state is the least address that it may have
abbrev pub share_stands : ℕ → List Word → Bool
share_stands least ws = fit share_shapes ws && (nat_lt (place_at 1 ws) (place_at 2 ws) && nat_le least (place_at 1 ws))

abbrev pub share_rule : Rule ℕ
share_rule = record {
  tag = codes "share";
  stands = share_stands;
  in_range = λ least ws. are_in_range share_shapes ws;
  next = λ least ws. place_at 2 ws;
}
