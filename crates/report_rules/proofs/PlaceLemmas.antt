-- Where the addresses stand in the lines of each kind.
use Rattle.std.proofs.Common.{◌≡◌, List, true, arith}
use Rattle.report_words.specs.Words.{Word}
use Rattle.report_words.specs.declared.shapes.Shape.TheVariants.{Signed}
use Rattle.report_words.specs.Shapes.{fit}
use Rattle.report_words.specs.Numbers.{is_address, is_number}
use Rattle.report_lines.specs.LineShapes.{exit_shapes, never_shapes, region_shapes, loop_shapes, potential_shapes, flow_shapes, share_shapes}
use Rattle.report_rules.specs.WordTests.{word_at}
use Rattle.report_rules.proofs.WordTestLemmas.{fit_at}

pub exit_place : (ws : List Word) → fit exit_shapes ws ≡ true → is_address (word_at 0 ws) ≡ true
exit_place ws e = fit_at exit_shapes ws 0 Signed (omega arith) e

pub never_place : (ws : List Word) → fit never_shapes ws ≡ true → is_address (word_at 2 ws) ≡ true
never_place ws e = fit_at never_shapes ws 2 Signed (omega arith) e

pub region_first : (ws : List Word) → fit region_shapes ws ≡ true → is_address (word_at 0 ws) ≡ true
region_first ws e = fit_at region_shapes ws 0 Signed (omega arith) e

pub region_end : (ws : List Word) → fit region_shapes ws ≡ true → is_address (word_at 1 ws) ≡ true
region_end ws e = fit_at region_shapes ws 1 Signed (omega arith) e

pub loop_place : (ws : List Word) → fit loop_shapes ws ≡ true → is_address (word_at 4 ws) ≡ true
loop_place ws e = fit_at loop_shapes ws 4 Signed (omega arith) e

pub potential_place : (ws : List Word) → fit potential_shapes ws ≡ true → is_address (word_at 0 ws) ≡ true
potential_place ws e = fit_at potential_shapes ws 0 Signed (omega arith) e

pub flow_place : (ws : List Word) → fit flow_shapes ws ≡ true → is_address (word_at 0 ws) ≡ true
flow_place ws e = fit_at flow_shapes ws 0 Signed (omega arith) e

pub share_first : (ws : List Word) → fit share_shapes ws ≡ true → is_address (word_at 1 ws) ≡ true
share_first ws e = fit_at share_shapes ws 1 Signed (omega arith) e

pub share_end : (ws : List Word) → fit share_shapes ws ≡ true → is_address (word_at 2 ws) ≡ true
share_end ws e = fit_at share_shapes ws 2 Signed (omega arith) e

pub flow_number : (ws : List Word) → fit flow_shapes ws ≡ true → is_number (word_at 1 ws) ≡ true
flow_number ws e = fit_at flow_shapes ws 1 Signed (omega arith) e
