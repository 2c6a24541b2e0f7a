use Rattle.std.proofs.Common.{subst, ◌≤◌}
use Rattle.rv_core.specs.Table.{table_of}
use Rattle.code_flow_system.specs.declared.cert.Cert.{Cert}
use Rattle.path_enum.specs.Guessing.{IsWalked}
use Rattle.path_enum.proofs.GuessLemmas.{begun_kept, begun_less}
use Rattle.path_enum.proofs.bounding.both.Goals as goal

pub guessed-requires-clause-guesses : goal.guessed-requires-clause-guesses
guessed-requires-clause-guesses c =
    let t = table_of c.args.searched.costs.now in
    let s = c.args.searched.system.now in
    let ls = c.args.searched.shapes.now in
    let ps = c.args.searched.spans.now in
    begun_kept t s ls ps c.args.first c.unwrap.result c.in_ok-guesses.guesses c.requires.first c.unwrap.ensures c.in_ok-guesses.ensures.asked c.in_ok-guesses.ensures.least

pub finished-requires-clause-begun : goal.finished-requires-clause-begun
finished-requires-clause-begun c =
    let t = table_of c.args.searched.costs.now in
    let s = c.args.searched.system.now in
    let ls = c.args.searched.shapes.now in
    let ps = c.args.searched.spans.now in
    let h = subst (IsWalked t s ls ps c.in_ok-guesses.guesses.least.cycles) c.in-Goes.is c.in_ok-cert.ensures in
    begun_less t s ls ps c.args.first c.unwrap.result c.in-Goes.last.least c.requires.first c.unwrap.ensures h.0.least (subst (λ (x : Cert). c.in-Goes.last.least.cycles ≤ x.cycles) c.in_ok-guesses.ensures.least h.1)

pub finished-requires-in-Stays-clause-begun : goal.finished-requires-in-Stays-clause-begun
finished-requires-in-Stays-clause-begun c =
    let t = table_of c.args.searched.costs.now in
    let s = c.args.searched.system.now in
    let ls = c.args.searched.shapes.now in
    let ps = c.args.searched.spans.now in
    let h = subst (IsWalked t s ls ps c.in_ok-guesses.guesses.least.cycles) c.in-Stays.is c.in_ok-cert.ensures in
    begun_less t s ls ps c.args.first c.unwrap.result c.in-Stays.last.least c.requires.first c.unwrap.ensures h.0.least (subst (λ (x : Cert). c.in-Stays.last.least.cycles ≤ x.cycles) c.in_ok-guesses.ensures.least h.1)
