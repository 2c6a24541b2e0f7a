-- Crossings from the end of the list of moves.
use Rattle.std.proofs.Common.{◌≡◌, ℕ, suc, ◌+◌, ◌-◌, ◌<◌, arith, sym, ap, ◌∙◌, List, length, get_or, drop, drop-cons, Option}
use Rattle.code_flow_system.specs.declared.moves.Move.{Move}
use Rattle.code_flow_system.specs.Moves.{Code}
use Rattle.code_flow.specs.Faults.{lesser, crossing_of, crossing}

pub crossing-back : (c : Code) (ms : List Move) (k : ℕ) (m : Move) (least : Option ℕ) → k < length ms → m ≡ get_or ms (length ms - 1 - k) m → least ≡ crossing c (drop (length ms - k) ms) → lesser (crossing_of c m) least ≡ crossing c (drop (length ms - (k + 1)) ms)
crossing-back c ms k m least lt at is =
    let i : length ms - (k + 1) ≡ length ms - 1 - k = omega arith in
    let below : length ms - 1 - k < length ms = omega arith in
    let next : suc (length ms - 1 - k) ≡ length ms - k = omega arith in
    let cut = drop-cons ms (length ms - 1 - k) m below in
    ap (λ o. lesser (crossing_of c m) o) is
    ∙ (ap (λ n. lesser (crossing_of c m) (crossing c (drop n ms))) (sym next)
    ∙ (ap (λ x. lesser (crossing_of c x) (crossing c (drop (suc (length ms - 1 - k)) ms))) at
    ∙ (ap (crossing c) (sym cut)
    ∙ ap (λ n. crossing c (drop n ms)) (sym i))))
