use Rattle.std.proofs.Common.{Some, map, subst, sym, ◌∙◌, ◌≡◌}
use Rattle.std.specs.Prelude.{slice_get}
use Rattle.std.proofs.lemmas.Option.{IfSome_then}
use Rattle.low_ir.specs.View.{block_of, function_of}
use Rattle.pass_jump_threading.specs.Facts.{known_in}
use Rattle.pass_jump_threading.proofs.Leading.{passes_by}
use Rattle.pass_jump_threading.proofs.Lists.{read_map}
use Rattle.pass_jump_threading.proofs.ways.next.Goals as goal

pub returns-in-Some : goal.returns-in-Some
returns-in-Some c =
    let b = c.args.block in
    let block = c.in-Some.it.now in
    let there = subst (λ bs. slice_get (map block_of bs) b ≡ Some (block_of block)) c.deref.ensures.value (read_map block_of c.deref.result.now b block c.in-Some.ensures.lookup.3.0 c.in-Some.ensures.lookup.1) in
    IfSome_then c.only_goes.result c.only_goes.ensures
    (λ n only all. passes_by (function_of c.args.function.now) (known_in c.args.held.now c.args.facts.now) c.args.seen.now b n (block_of block) there only (sym c.is_seen.ensures ∙ c.if-is_seen.false) all)
