use Rattle.std.proofs.Common.{◌<◌, ◌≤◌, length, refl, subst, sym}
use Rattle.std.specs.Prelude.{Vec}
use Rattle.std.specs.Global.{Global}
use Rattle.std.proofs.lemmas.List.{length-map}
use Rattle.register_live_ranges.specs.declared.accesses.Access.{Access}
use Rattle.register_live_ranges.specs.Rows.{rows_of}
use Rattle.register_live_ranges.proofs.Noting.{view_set, with_past}
use Rattle.register_live_ranges.proofs.accesses.put.Goals as goal

pub returns-in-None : goal.returns-in-None
returns-in-None c =
    let rows = c.args.rows.now.items in
    let view = λ (v : Vec Access Global). v.items in
    let over : length (rows_of rows) ≤ c.args.register = subst (λ n. n ≤ c.args.register) (sym (length-map rows view)) c.in-None.ensures.item.3 in
    with_past (rows_of rows) c.args.register c.args.access over

pub returns-in_ok-push-in-Some : goal.returns-in_ok-push-in-Some
returns-in_ok-push-in-Some c =
    let rows = c.args.rows.now in
    let there : c.args.register < length rows.items = subst (λ n. c.args.register < n) rows.ok.0 (c.in-Some.ensures.variant.0 refl) in
    view_set (λ (v : Vec Access Global). v.items) rows.items c.args.register c.in-Some.row.now c.push.new.self c.args.access
    there c.in-Some.ensures.value c.in_ok-push-in-Some.ensures.items
