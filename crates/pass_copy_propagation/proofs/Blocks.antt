-- Blocks, functions and programs that were made.
use Rattle.std.proofs.Common.{◌≡◌, ◌<◌, ℕ, suc, ◌+◌, Bool, List, [], ◌∷◌, ◌++◌, length, map, take, Option, Some, refl, sym, ap, ◌∙◌, subst, arith}
use Rattle.std.specs.Prelude.{IfSome, slice_index_or}
use Rattle.std.proofs.lemmas.List.{append-nil, length-map, map_more, map_push}
use Rattle.low_ir.specs.declared.low.Block.{Block as Block'}
use Rattle.low_ir.specs.View.{block_of}
use Rattle.low_ir.specs.Code.{Block, End, Function, Note}
use Rattle.pass_copy_propagation_law.specs.Copies.{Beginnings, BlockCopied, BlocksCopied, Code, Follows, FunctionCopied, Grows}
use Rattle.pass_copy_propagation.specs.Knowing.{IsKnown, Knowing, counted_by, stands}
use Rattle.pass_copy_propagation.specs.Making.{AreBlocks, AreBlocksSoFar, Begins, Goes, IsBlock, IsEnd, IsMade, IsReady, name_in}
use Rattle.pass_copy_propagation.proofs.Begun.{counted_own, ready_stands}
use Rattle.pass_copy_propagation.proofs.Wider.{follows_more}
use Rattle.low_parts.proofs.Filling.{taken}

-- a block begins
begun_made : (size : ℕ) (lasting : List Bool) (lists : List (List ℕ)) (n : ℕ) (end : End ℕ) (whole : Code) (k begun : Knowing) → IsKnown size lasting k → Begins (slice_index_or lists n []) k begun → IsMade size lasting (counted_by lasting lists) (counted_by lasting lists n) end whole whole begun []
begun_made size lasting lists n end whole k begun known begins =
    let b = begins.by size lasting known in
    record { known = b.0; follows = λ new js h. follows_more size (counted_by lasting lists) end new whole (stands begun) (counted_by lasting lists n) js b.1 h }

-- a block whose code was made, with its end
pub block_made : (lists : List (List ℕ)) (n : ℕ) (k begun now : Knowing) (b c : Block ℕ Note) → c.mark ≡ b.mark → Begins (slice_index_or lists n []) k begun → Goes b.code begun [] [] now c.code → IsReady lists now b.end → IsEnd now b.end c.end → IsBlock lists n k now b c
block_made lists n k begun now b c mark begins goes ready ends =
    record {
      by = λ size lasting known.
          let out = counted_by lasting lists in
          let m = goes size lasting out (out n) b.end b.code (begun_made size lasting lists n b.end b.code k begun known begins) in (
            record {
              mark = mark;
              code = subst (Follows size out b.end c.end b.code (out n)) (append-nil c.code)
                  (m.follows c.end [] (record { done = refl; name = name_in now; is = ends.is; finds = ends.finds; stands = ready_stands size lasting lists now b.end m.known ready }));
            },
            m.known,
          );
    }

-- blocks beside each other, one more
copied_more : (size : ℕ) (out : Beginnings) (n : ℕ) (xs ys : List (Block ℕ Note)) (x y : Block ℕ Note) → BlocksCopied size out n xs ys → BlockCopied size out (n + length xs) x y → BlocksCopied size out n (xs ++ x ∷ []) (ys ++ y ∷ [])
copied_more size out n [] [] x y h b =
    let here : n + 0 ≡ n = omega arith in
    (subst (λ m. BlockCopied size out m x y) here b, tt)
copied_more size out n [] (d ∷ ys) x y h b = absurd h
copied_more size out n (a ∷ xs) [] x y h b = absurd h
copied_more size out n (a ∷ xs) (d ∷ ys) x y h b =
    let here : n + suc (length xs) ≡ suc n + length xs = omega arith in
    (h.0, copied_more size out (suc n) xs ys x y h.1 (subst (λ m. BlockCopied size out m x y) here b))

pub function_made : (fn gn : Function ℕ Note) (lasting : List Bool) (lists : List (List ℕ)) (k : Knowing) → gn.parameters ≡ fn.parameters → Grows fn.size gn.size → gn.loops ≡ fn.loops → IsKnown gn.size lasting k → AreBlocks gn.size lists k fn.blocks gn.blocks → FunctionCopied fn gn
function_made fn gn lasting lists k parameters size loops known blocks =
    record {
      out = counted_by lasting lists;
      own = λ n. counted_own lasting (slice_index_or lists n []);
      parameters = parameters;
      size = size;
      loops = loops;
      blocks = blocks.by lasting known;
    }

blocks_step : (size : ℕ) (lists : List (List ℕ)) (k l now : Knowing) (xs ys : List (Block ℕ Note)) (x y : Block ℕ Note) → AreBlocksSoFar size lists k l xs ys → IsBlock lists (length xs) l now x y → AreBlocksSoFar size lists k now (xs ++ x ∷ []) (ys ++ y ∷ [])
blocks_step size lists k l now xs ys x y h b =
    record {
      by = λ lasting known.
          let so = h.by lasting known in
          let new = b.by size lasting so.1 in
          let here : length xs ≡ 0 + length xs = omega arith in
          (copied_more size (counted_by lasting lists) 0 xs ys x y so.0 (subst (λ m. BlockCopied size (counted_by lasting lists) m x y) here new.0), new.1);
    }

pub blocks_done : (size : ℕ) (lists : List (List ℕ)) (k now : Knowing) (bs cs : List (Block ℕ Note)) → AreBlocksSoFar size lists k now bs cs → AreBlocks size lists k bs cs
blocks_done size lists k now bs cs h = record { by = λ lasting known. (h.by lasting known).0 }

pub no_blocks : (size : ℕ) (lists : List (List ℕ)) (k : Knowing) → AreBlocksSoFar size lists k k [] []
no_blocks size lists k = record { by = λ lasting known. (tt, known) }

pub some_at : {X : Type 0} (P : X → Type 0) {o : Option X} {x : X} → o ≡ Some x → IfSome o P → P x
some_at P is h = subst (λ q. IfSome q P) is h

pub blocks_more : (size : ℕ) (lists : List (List ℕ)) (k l now : Knowing) (xs : List Block') (i : ℕ) (x y : Block') (made more : List Block') → i < length xs → x ≡ slice_index_or xs i x → AreBlocksSoFar size lists k l (map block_of (take i xs)) (map block_of made) → IsBlock lists i l now (block_of x) (block_of y) → more ≡ made ++ y ∷ [] → AreBlocksSoFar size lists k now (map block_of (take (i + 1) xs)) (map block_of more)
blocks_more size lists k l now xs i x y made more lt is h b e =
    let here : map block_of (take i xs) ++ block_of x ∷ [] ≡ map block_of (take (i + 1) xs) = ap (λ z. map block_of (take i xs) ++ block_of z ∷ []) is ∙ sym (map_more block_of xs i x lt) in
    let there : map block_of made ++ block_of y ∷ [] ≡ map block_of more = sym (map_push block_of made y) ∙ ap (map block_of) (sym e) in
    let number : i ≡ length (map block_of (take i xs)) = sym (length-map (take i xs) block_of ∙ taken xs i lt) in
    subst (λ bs. AreBlocksSoFar size lists k now bs (map block_of more)) here
    (subst (AreBlocksSoFar size lists k now (map block_of (take i xs) ++ block_of x ∷ [])) there
    (blocks_step size lists k l now (map block_of (take i xs)) (map block_of made) (block_of x) (block_of y) h
    (subst (λ n. IsBlock lists n l now (block_of x) (block_of y)) number b)))
