use Rattle.std.proofs.Common.{◌≡◌, ◌<◌, ◌^◌, arith, ℕ, List, sym, subst, Vec, Global, All}
use Rattle.std.proofs.lemmas.Result.{IfOk-weaker}
use Rattle.code_flow_system.specs.declared.cert.Part.{Part}
use Rattle.code_flow_system.specs.Certificates.{PartsAscend, IsPart}
use Rattle.path_flows.specs.Flows.{parts_of}
use Rattle.path_cert.proofs.PartLemmas.{parts_ascend}
use Rattle.path_fact_columns.proofs.PartLemmas.{small_parts}
use Rattle.path_guessed_flows.proofs.listing.listed.Goals as goal

pub returns-clause-ascending : goal.returns-clause-ascending
returns-clause-ascending c =
    let ms = c.args.moves.now in
    let us = c.deref.result.now in
    IfOk-weaker c.parts_of.result (λ (v : Vec Part Global). v.items ≡ parts_of ms us) (λ (v : Vec Part Global). PartsAscend v.items) (λ v h. subst PartsAscend (sym h) (parts_ascend ms us c.requires.ascending)) c.parts_of.ensures

pub returns-clause-parts : goal.returns-clause-parts
returns-clause-parts c =
    let ms = c.args.moves.now in
    let us = c.deref.result.now in
    let small = subst (λ (xs : List ℕ). All (λ u. u < 2 ^ 78) xs) (sym c.deref.ensures.value) c.in_ok-all.ensures.small in
    IfOk-weaker c.parts_of.result (λ (v : Vec Part Global). v.items ≡ parts_of ms us) (λ (v : Vec Part Global). All IsPart v.items) (λ v h. subst (All IsPart) (sym h) (small_parts (2 ^ 78) (omega arith) ms us small)) c.parts_of.ensures
