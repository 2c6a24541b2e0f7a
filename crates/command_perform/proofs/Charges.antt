-- What a command makes with the costs of a table, said of all its contents.
use Rattle.std.proofs.Common.{◌≡◌, ◌⊎◌, ℕ, List, [], ◌∷◌, ◌∙◌, Result, Ok, Err, sym, subst, inl, inr}
use Rattle.std.specs.Prelude.{MatchResult}
use Rattle.wcc_base.specs.declared.status.Status.{Status}
use Rattle.wcc_base.specs.declared.status.Status.TheVariants as status
use Rattle.rv_core.specs.Table.{Table}
use Rattle.cost_table.proofs.OneTable.{one_table, never_refused}
use Rattle.command_words.specs.Requests.{CompileRequest, CheckRequest, RunRequest}
use Rattle.command_perform.specs.declared.make.Made.{Made}
use Rattle.command_perform.specs.Words.{Compile, Check, Run}
use Rattle.command_perform.specs.Outputs.{Outputs, outputs_of}
use Rattle.command_perform.specs.Ends.{IsEnd, IsRefusal}
use Rattle.command_perform.specs.Commands.{job_of, Refuses, Makes}
use Rattle.command_perform.specs.Compiling.{MakesImage}
use Rattle.command_perform.specs.Sources.{RefusesProgram}
use Rattle.command_perform.specs.Checking.{RefusesCheck, MakesYes}
use Rattle.command_perform.specs.Running.{RefusesImage, MakesOutput}
use Rattle.command_perform.specs.Tables.{AreCosts, RefusesTables, Charged, IsUncharged}

-- the costs are those of the table, or the default ones
pub same_costs : (tables : List (List ℕ)) (c d : Table) → AreCosts tables c → AreCosts tables d → c ≡ d
same_costs [] c d a b = a ∙ sym b
same_costs (table ∷ rest) c d a b = one_table table c d a b

pub no_table_fault : (tables : List (List ℕ)) (c : Table) (s : Status) → AreCosts tables c → RefusesTables tables s → ⊥
no_table_fault [] c s a r = r
no_table_fault (table ∷ rest) c s a r = never_refused table c r.fault a r.cause

-- a compilation: with a table that is refused, and with these costs

compile_behind : (asked : CompileRequest) (contents : List (List ℕ)) (s : Status) → IsUncharged 1 contents s → Refuses (Compile asked) contents s
compile_behind asked [] s r = absurd r
compile_behind asked (source ∷ tables) s r = inl r

pub compile_uncharged : (asked : CompileRequest) (contents : List (List ℕ)) (s : Status) → (s ≡ status.Memory) ⊎ (IsRefusal s × IsUncharged 1 contents s)
    → (s ≡ status.Memory) ⊎ (IsRefusal s × Refuses (Compile asked) contents s)
compile_uncharged asked contents s (inl memory) = inl memory
compile_uncharged asked contents s (inr x) = inr (x.0, compile_behind asked contents s x.1)

compile_made : (asked : CompileRequest) (contents : List (List ℕ)) (source : List ℕ) (costs : Table) (made : Outputs) → Charged contents (source ∷ []) costs
    → MakesImage asked costs source made → Makes (Compile asked) contents made
compile_made asked contents source costs made c m = subst (λ (k : List (List ℕ)). Makes (Compile asked) k made) (sym c.contents_are) (costs, c.are_costs, m)

compile_refused : (asked : CompileRequest) (contents : List (List ℕ)) (source : List ℕ) (costs : Table) (s : Status) → Charged contents (source ∷ []) costs
    → (s ≡ status.Memory) ⊎ (IsRefusal s × RefusesProgram asked.derive source s) → (s ≡ status.Memory) ⊎ (IsRefusal s × Refuses (Compile asked) contents s)
compile_refused asked contents source costs s c (inl memory) = inl memory
compile_refused asked contents source costs s c (inr x) = inr (x.0, subst (λ (k : List (List ℕ)). Refuses (Compile asked) k s) (sym c.contents_are) (inr (costs, c.are_costs, x.1)))

pub compile_charged : (asked : CompileRequest) (contents : List (List ℕ)) (source : List ℕ) (costs : Table) (r : Result Made Status) → Charged contents (source ∷ []) costs
    → MatchResult r (λ m. IsEnd m.status × MakesImage asked costs source (outputs_of m)) (λ s. (s ≡ status.Memory) ⊎ (IsRefusal s × RefusesProgram asked.derive source s))
    → MatchResult r (λ m. IsEnd m.status × Makes (Compile asked) contents (outputs_of m)) (λ s. (s ≡ status.Memory) ⊎ (IsRefusal s × Refuses (Compile asked) contents s))
compile_charged asked contents source costs (Ok m) c x = (x.0, compile_made asked contents source costs (outputs_of m) c x.1)
compile_charged asked contents source costs (Err s) c x = compile_refused asked contents source costs s c x

-- a run

run_behind : (asked : RunRequest) (contents : List (List ℕ)) (s : Status) → IsUncharged 2 contents s → Refuses (Run asked) contents s
run_behind asked [] s r = absurd r
run_behind asked (image ∷ []) s r = absurd r
run_behind asked (image ∷ input ∷ tables) s r = inl r

pub run_uncharged : (asked : RunRequest) (contents : List (List ℕ)) (s : Status) → (s ≡ status.Memory) ⊎ (IsRefusal s × IsUncharged 2 contents s)
    → (s ≡ status.Memory) ⊎ (IsRefusal s × Refuses (Run asked) contents s)
run_uncharged asked contents s (inl memory) = inl memory
run_uncharged asked contents s (inr x) = inr (x.0, run_behind asked contents s x.1)

run_made : (asked : RunRequest) (contents : List (List ℕ)) (image input : List ℕ) (costs : Table) (made : Outputs) → Charged contents (image ∷ input ∷ []) costs
    → MakesOutput asked.output (job_of asked costs image input) made → Makes (Run asked) contents made
run_made asked contents image input costs made c m = subst (λ (k : List (List ℕ)). Makes (Run asked) k made) (sym c.contents_are) (costs, c.are_costs, m)

run_refused : (asked : RunRequest) (contents : List (List ℕ)) (image input : List ℕ) (costs : Table) (s : Status) → Charged contents (image ∷ input ∷ []) costs
    → (s ≡ status.Memory) ⊎ (IsRefusal s × RefusesImage image s) → (s ≡ status.Memory) ⊎ (IsRefusal s × Refuses (Run asked) contents s)
run_refused asked contents image input costs s c (inl memory) = inl memory
run_refused asked contents image input costs s c (inr x) = inr (x.0, subst (λ (k : List (List ℕ)). Refuses (Run asked) k s) (sym c.contents_are) (inr (costs, c.are_costs, x.1)))

pub run_charged : (asked : RunRequest) (contents : List (List ℕ)) (image input : List ℕ) (costs : Table) (r : Result Made Status) → Charged contents (image ∷ input ∷ []) costs
    → MatchResult r (λ m. IsEnd m.status × MakesOutput asked.output (job_of asked costs image input) (outputs_of m)) (λ s. (s ≡ status.Memory) ⊎ (IsRefusal s × RefusesImage image s))
    → MatchResult r (λ m. IsEnd m.status × Makes (Run asked) contents (outputs_of m)) (λ s. (s ≡ status.Memory) ⊎ (IsRefusal s × Refuses (Run asked) contents s))
run_charged asked contents image input costs (Ok m) c x = (x.0, run_made asked contents image input costs (outputs_of m) c x.1)
run_charged asked contents image input costs (Err s) c x = run_refused asked contents image input costs s c x

-- a check

check_behind : (asked : CheckRequest) (contents : List (List ℕ)) (s : Status) → IsUncharged 2 contents s → Refuses (Check asked) contents s
check_behind asked [] s r = absurd r
check_behind asked (image ∷ []) s r = absurd r
check_behind asked (image ∷ report ∷ tables) s r = inl r

pub check_uncharged : (asked : CheckRequest) (contents : List (List ℕ)) (s : Status) → (s ≡ status.Memory) ⊎ (IsRefusal s × IsUncharged 2 contents s)
    → (s ≡ status.Memory) ⊎ (IsRefusal s × Refuses (Check asked) contents s)
check_uncharged asked contents s (inl memory) = inl memory
check_uncharged asked contents s (inr x) = inr (x.0, check_behind asked contents s x.1)

check_made : (asked : CheckRequest) (contents : List (List ℕ)) (image report : List ℕ) (costs : Table) (made : Outputs) → Charged contents (image ∷ report ∷ []) costs
    → MakesYes costs image report made → Makes (Check asked) contents made
check_made asked contents image report costs made c m = subst (λ (k : List (List ℕ)). Makes (Check asked) k made) (sym c.contents_are) (costs, c.are_costs, m)

check_refused : (asked : CheckRequest) (contents : List (List ℕ)) (image report : List ℕ) (costs : Table) (s : Status) → Charged contents (image ∷ report ∷ []) costs
    → (s ≡ status.Memory) ⊎ (IsRefusal s × RefusesCheck costs image report s) → (s ≡ status.Memory) ⊎ (IsRefusal s × Refuses (Check asked) contents s)
check_refused asked contents image report costs s c (inl memory) = inl memory
check_refused asked contents image report costs s c (inr x) = inr (x.0, subst (λ (k : List (List ℕ)). Refuses (Check asked) k s) (sym c.contents_are) (inr (costs, c.are_costs, x.1)))

pub check_charged : (asked : CheckRequest) (contents : List (List ℕ)) (image report : List ℕ) (costs : Table) (r : Result Made Status) → Charged contents (image ∷ report ∷ []) costs
    → MatchResult r (λ m. IsEnd m.status × MakesYes costs image report (outputs_of m)) (λ s. (s ≡ status.Memory) ⊎ (IsRefusal s × RefusesCheck costs image report s))
    → MatchResult r (λ m. IsEnd m.status × Makes (Check asked) contents (outputs_of m)) (λ s. (s ≡ status.Memory) ⊎ (IsRefusal s × Refuses (Check asked) contents s))
check_charged asked contents image report costs (Ok m) c x = (x.0, check_made asked contents image report costs (outputs_of m) c x.1)
check_charged asked contents image report costs (Err s) c x = check_refused asked contents image report costs s c x
