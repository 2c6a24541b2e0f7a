-- What lists of facts say, and blocks over them.
use Rattle.std.proofs.Common.{◌≡◌, ◌<◌, ⊎_elim, inl, inr, ℕ, zero, suc, ◌+◌, Bool, true, false, List, [], ◌∷◌, ◌++◌, length, map, take, Some, sym, ap, ◌∙◌, subst, arith}
use Rattle.std.specs.Prelude.{All, ◌==◌, if◌then◌else◌, Vec, option_map, slice_get, slice_index_or}
use Rattle.std.specs.Global.{Global}
use Rattle.std.proofs.lemmas.List.{length-map, map_more, map_push}
use Rattle.std.proofs.lemmas.List.Elements.{All-head, All-tail}
use Rattle.std.proofs.lemmas.Option.{slice_get-get_or, slice_get-map}
use Rattle.low_ir.specs.declared.low.Block.{Block as Block'}
use Rattle.rv_core.specs.declared.row.Condition.{Condition}
use Rattle.low_ir.specs.Code.{Operand, End, Jump, Branch, Block, Function, Instr, Note}
use Rattle.low_ir.specs.View.{block_of}
use Rattle.pass_common_subexpressions_law.specs.Facts.{Fact, Keeps, Known, Knows, Teaches}
use Rattle.pass_common_subexpressions_law.specs.Reloads.{Becomes, Beginnings, BlockReloaded, BlocksReloaded, Code, Follows, FunctionReloaded, Hands, InRange, IsReload}
use Rattle.pass_common_subexpressions_law.proofs.Effects.{some_same}
use Rattle.pass_common_subexpressions.specs.declared.facts.Fact.{Fact as Fact'}
use Rattle.pass_common_subexpressions.specs.Making.{AreFew, AreHanded, AreKnown, AreOf, IsAdded, IsCode, fact_of, facts_of, list_for, listed, out_of}
use Rattle.low_parts.proofs.Filling.{taken}

-- a fact of a list
pub knows_listed : (list : List Fact') (i : ℕ) (d : Fact') → i < length list → Knows (listed list) (fact_of (slice_index_or list i d))
knows_listed list i d lt =
    (i, slice_get-map (λ (f : Fact'). Some (fact_of f)) list i ∙ ap (option_map (λ (f : Fact'). Some (fact_of f))) (slice_get-get_or list i d lt))

-- what each fact of a list has, one has that it lists
each_listed : (P : Fact → Type 0) (list : List Fact') (f : Fact) (n : ℕ) → All (λ g. P (fact_of g)) list → slice_get (listed list) n ≡ Some (Some f) → P f
each_listed P [] f n all e = cc
each_listed P (g ∷ list) f zero all e = subst P (some_same (fact_of g) f (some_same (Some (fact_of g)) (Some f) e)) (All-head (λ g. P (fact_of g)) g list all)
each_listed P (g ∷ list) f (suc n) all e = each_listed P list f n (All-tail (λ g. P (fact_of g)) g list all) e

-- one fact more of a list is known
pub learns_listed : (list : List Fact') (i : ℕ) (d : Fact') (known now : Known) → i < length list → AreOf list known → IsAdded (fact_of (slice_index_or list i d)) known now → AreOf list now
learns_listed list i d known now lt old added f knows =
    ⊎_elim
    (λ (h : Knows known f). old f h)
    (λ (new : f ≡ fact_of (slice_index_or list i d)). subst (Knows (listed list)) (sym new) (knows_listed list i d lt))
    (added f knows)

pub handed : (lists : List (List Fact')) (end : End ℕ) (known : Known) → AreHanded lists end known → Hands (out_of lists) end known
handed lists end known h n leads f knows = each_listed (Knows known) (list_for lists n) f knows.0 (h.by n leads) knows.1

-- to the blocks to which an end leads
pub handed_jump : (lists : List (List Fact')) (known : Known) (b : ℕ) → AreKnown known (list_for lists b) → AreHanded lists (Jump b) known
handed_jump lists known b h = record { by = λ n e. subst (λ m. AreKnown known (list_for lists m)) e h }

pub handed_branch : (lists : List (List Fact')) (known : Known) (c : Condition) (x y : Operand ℕ) (taken other : ℕ) → AreKnown known (list_for lists taken) → AreKnown known (list_for lists other) → AreHanded lists (Branch c x y taken other) known
handed_branch lists known c x y taken other h k =
    record {
      by = λ n e.
          ⊎_elim (λ (here : taken ≡ n). subst (λ m. AreKnown known (list_for lists m)) here h) (λ (there : other ≡ n). subst (λ m. AreKnown known (list_for lists m)) there k) e;
    }

-- with more known the rest of a block follows too
becomes_more : (known more : Known) (i new : Instr ℕ Note) → ((f : Fact) → Knows known f → Knows more f) → Becomes known i new → Becomes more i new
becomes_more known more i new within becomes =
    ⊎_elim
    (λ (same : new ≡ i). inl same)
    (λ (c : IsReload known i new). inr (record { fact = c.fact; into = c.into; knows = within c.fact c.knows; is = c.is; becomes = c.becomes }))
    becomes

pub follows_more : (claims : List (List ℕ)) (out : Beginnings) (end : End ℕ) (known more : Known) (is js : Code) → ((f : Fact) → Knows known f → Knows more f) → Follows claims out end is known js → Follows claims out end is more js
follows_more claims out end known more [] js within h = (h.0, λ n leads f knows. within f (h.1 n leads f knows))
follows_more claims out end known more (i ∷ is) js within h =
    record {
      new = h.new;
      now = h.now;
      behind = h.behind;
      is = h.is;
      becomes = becomes_more known more i h.new within h.becomes;
      learns = λ f knows. ⊎_elim (λ (k : Knows known f × Keeps claims i f). inl (within f k.0, k.1)) (λ (k : Teaches i f). inr k) (h.learns f knows);
      goes_on = h.goes_on;
    }

-- a block whose code was made
pub block_made : (claims : List (List ℕ)) (lists : List (List Fact')) (n : ℕ) (begun now : Known) (b c : Block ℕ Note) → c.mark ≡ b.mark → c.end ≡ b.end → AreOf (list_for lists n) begun → IsCode claims b.code begun now c.code → AreHanded lists b.end now → BlockReloaded claims (out_of lists) n b c
block_made claims lists n begun now b c mark end of code hands =
    record {
      mark = mark;
      end = end;
      code = follows_more claims (out_of lists) b.end begun (out_of lists n) b.code c.code of (code.by (out_of lists) b.end (handed lists b.end now hands));
    }

-- blocks beside each other, one more
reloaded_more : (claims : List (List ℕ)) (out : Beginnings) (n : ℕ) (xs ys : List (Block ℕ Note)) (x y : Block ℕ Note) → BlocksReloaded claims out n xs ys → BlockReloaded claims out (n + length xs) x y → BlocksReloaded claims out n (xs ++ x ∷ []) (ys ++ y ∷ [])
reloaded_more claims out n [] [] x y h b =
    let here : n + 0 ≡ n = omega arith in
    (subst (λ m. BlockReloaded claims out m x y) here b, tt)
reloaded_more claims out n [] (d ∷ ys) x y h b = absurd h
reloaded_more claims out n (a ∷ xs) [] x y h b = absurd h
reloaded_more claims out n (a ∷ xs) (d ∷ ys) x y h b =
    let here : n + suc (length xs) ≡ suc n + length xs = omega arith in
    (h.0, reloaded_more claims out (suc n) xs ys x y h.1 (subst (λ m. BlockReloaded claims out m x y) here b))

pub blocks_more : (claims : List (List ℕ)) (out : Beginnings) (xs : List Block') (i : ℕ) (x y : Block') (made more : List Block') → i < length xs → x ≡ slice_index_or xs i x → BlocksReloaded claims out 0 (map block_of (take i xs)) (map block_of made) → BlockReloaded claims out i (block_of x) (block_of y) → more ≡ made ++ y ∷ [] → BlocksReloaded claims out 0 (map block_of (take (i + 1) xs)) (map block_of more)
blocks_more claims out xs i x y made more lt is h b e =
    let here : map block_of (take i xs) ++ block_of x ∷ [] ≡ map block_of (take (i + 1) xs) = ap (λ z. map block_of (take i xs) ++ block_of z ∷ []) is ∙ sym (map_more block_of xs i x lt) in
    let there : map block_of made ++ block_of y ∷ [] ≡ map block_of more = sym (map_push block_of made y) ∙ ap (map block_of) (sym e) in
    let long = length-map (take i xs) block_of in
    let first = taken xs i lt in
    let number : i ≡ 0 + length (map block_of (take i xs)) = omega arith in
    subst (λ bs. BlocksReloaded claims out 0 bs (map block_of more)) here
    (subst (BlocksReloaded claims out 0 (map block_of (take i xs) ++ block_of x ∷ [])) there
    (reloaded_more claims out 0 (map block_of (take i xs)) (map block_of made) (block_of x) (block_of y) h
    (subst (λ n. BlockReloaded claims out n (block_of x) (block_of y)) number b)))

-- registers of facts are few
few_range : (size : ℕ) (list : List Fact') → AreFew size list → InRange size (listed list)
few_range size list few f knows = each_listed (λ g. g.register < size) list f knows.0 few knows.1

nothing_listed : (size : ℕ) → InRange size (listed [])
nothing_listed size f knows = absurd (none knows.0 knows.1)
  where
    none : (n : ℕ) → slice_get (listed []) n ≡ Some (Some f) → ⊥
    none n e = cc

all_few : (size : ℕ) (lists : List (Vec Fact' Global)) → All (λ l. AreFew size l.items) lists → (n : ℕ) → InRange size (listed (slice_index_or (map facts_of lists) n []))
all_few size [] all n = nothing_listed size
all_few size (l ∷ lists) all zero = few_range size l.items (All-head (λ l. AreFew size l.items) l lists all)
all_few size (l ∷ lists) all (suc n) = all_few size lists (All-tail (λ l. AreFew size l.items) l lists all) n

range_of : (size : ℕ) (lists : List (Vec Fact' Global)) → All (λ l. AreFew size l.items) lists → (n : ℕ) → InRange size (out_of (map facts_of lists) n)
range_of size lists all n = by_test (n == 0)
  where
    by_test : (b : Bool) → InRange size (listed (if b then [] else slice_index_or (map facts_of lists) n []))
    by_test true = nothing_listed size
    by_test false = all_few size lists all n

pub function_made : (claims : List (List ℕ)) (fn gn : Function ℕ Note) (lists : List (Vec Fact' Global)) → All (λ l. AreFew fn.size l.items) lists → gn.parameters ≡ fn.parameters → gn.size ≡ fn.size → gn.loops ≡ fn.loops → BlocksReloaded claims (out_of (map facts_of lists)) 0 fn.blocks gn.blocks → FunctionReloaded claims fn gn
function_made claims fn gn lists few parameters size loops blocks =
    record {
      out = out_of (map facts_of lists);
      nothing = λ f knows. none f knows.0 knows.1;
      range = range_of fn.size lists few;
      parameters = parameters;
      size = size;
      loops = loops;
      blocks = blocks;
    }
  where
    none : (f : Fact) (n : ℕ) → slice_get (listed []) n ≡ Some (Some f) → ⊥
    none f n e = cc
