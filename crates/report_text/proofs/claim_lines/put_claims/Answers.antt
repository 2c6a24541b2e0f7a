use Rattle.std.proofs.Common.{◌++◌, map, ap, sym, ◌∙◌}
use Rattle.report_words.specs.Words.{lines_text}
use Rattle.report_text.specs.Lines.{exit_line, never_line, region_line, loop_line, fact_line, paired}
use Rattle.report_text.proofs.TextLemmas.{more, lines5}
use Rattle.report_text.proofs.claim_lines.put_claims.Goals as goal

pub returns : goal.returns
returns c =
    let claims = c.args.claims.now in
    let cert = c.args.cert.now in
    let exits = map exit_line claims.exits in
    let nevers = paired never_line claims.nevers cert.nevers in
    let regions = map region_line claims.regions in
    let loops = paired loop_line claims.loops cert.loops in
    let facts = paired fact_line claims.facts cert.facts in
    let t0 = c.args.text.now.items in
    let t1 = c.put_exits.new.text.items in
    let t2 = c.put_nevers.new.text.items in
    let t3 = c.put_regions.new.text.items in
    let t4 = c.put_loops.new.text.items in
    let t5 = c.put_facts.new.text.items in
    more t0 t1 t5 (lines_text exits) (lines_text nevers ++ (lines_text regions ++ (lines_text loops ++ lines_text facts))) (rw c.exits.ensures.value at c.in_ok-put_exits.ensures)
    (more t1 t2 t5 (lines_text nevers) (lines_text regions ++ (lines_text loops ++ lines_text facts)) (rw (c.nevers.ensures.value, c.as_slice.ensures) at c.in_ok-put_nevers.ensures)
    (more t2 t3 t5 (lines_text regions) (lines_text loops ++ lines_text facts) (rw c.regions.ensures.value at c.in_ok-put_regions.ensures)
    (more t3 t4 t5 (lines_text loops) (lines_text facts) (rw (c.loops.ensures.value, c.as_slice-2.ensures) at c.in_ok-put_loops.ensures)
    (rw (c.facts.ensures.value, c.as_slice-3.ensures) at c.in_ok-put_facts.ensures))))
    ∙ ap (λ t. t0 ++ t) (sym (lines5 exits nevers regions loops facts))
