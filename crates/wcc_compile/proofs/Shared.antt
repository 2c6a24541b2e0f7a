-- What the kind of a report says of its cycles.
use Rattle.std.proofs.Common.{◌≡◌, ℕ, ℤ, pos, ◌<ℤ◌, List, refl, sym, subst, ◌∙◌, arith}
use lib.IntN.{negsuc}
use Rattle.std.proofs.lemmas.Int.{ints}
use Rattle.rv_core.specs.Table.{Table}
use Rattle.code_flow_system.specs.Bounds.{KeepsPromise}
use Rattle.code_flow_system.specs.Certificates.{IsInForm, KeepsMark, potential, whole_part}
use Rattle.code_flow_system.specs.Claims.{Claims}
use Rattle.code_flow_system.specs.Systems.{System}
use Rattle.code_flow_system.proofs.DualityLemmas.{keeps_promise, weak_duality}
use Rattle.code_flow_answer.specs.declared.bounded.Kind.{Kind}
use Rattle.code_flow_answer.specs.declared.bounded.Kind.TheVariants.{Greatest, Empty, Wide, Spent}
use Rattle.path_fact_kinds.specs.Kinds.{HasKind}
use Rattle.promise_report.specs.Compiled.{CyclesAreGreatest, IsReached}
use Rattle.report_check.specs.Checks.{Holds}
use Rattle.report_text.specs.Reports.{Report}

-- a negative number has no whole part
none_whole : (z : ℤ) (d : ℕ) → z <ℤ pos 0 → whole_part z d ≡ 0
none_whole (pos n) d lt = absurd (omega (arith, ints))
none_whole (negsuc n) d lt = refl

reached : (kind : Kind) (t : Table) (s : System) (r : Report) → HasKind t s r.columns r.cert kind → KeepsPromise t s r.cert → KeepsMark r.cert.mark t s r.cert → r.cert.cycles ≡ whole_part (potential r.cert s.entry) r.cert.scale → IsReached kind t s r
reached Greatest t s r h promise mark rounded = promise.greatest h
reached Empty t s r h promise mark rounded = (promise.empty h, rounded ∙ none_whole (potential r.cert s.entry) r.cert.scale (subst (λ m. KeepsMark m t s r.cert) h mark))
reached (Wide pivot) t s r h promise mark rounded = h
reached (Spent columns pivots) t s r h promise mark rounded = h

pub cycles_greatest : (t : Table) (image text : List ℕ) (r : Report) (s : System) → HasKind t s r.columns r.cert r.kind → Holds t image text r s → CyclesAreGreatest t s r
cycles_greatest t image text r s h holds =
    let form = subst (λ (claims : Claims). IsInForm claims r.cert) (sym holds.found.system.same_claims) holds.found.read.is_text.is_report.certificate in
    record {
      bound = weak_duality t s r.cert holds.accepted;
      reached = reached r.kind t s r h (keeps_promise t s r.cert form holds.accepted) holds.accepted.mark holds.accepted.value;
      rounded = holds.accepted.value;
    }
