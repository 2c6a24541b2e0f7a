-- Each sound statement is followed.
use Rattle.std.specs.Prelude.{[]}
use Rattle.high_ir.specs.Meaning as high
use Rattle.high_ir.specs.Tree.{Statement, Set, Put, Get, Keep, Mark, Seq, If, Loop, Block, Leave, Call, Return, Statements, End, Then}
use Rattle.low_ir.specs.Code.{Low}
use Rattle.lower_program.specs.Claims.{AreSound, IsSound}
use Rattle.lower_program.specs.Following.{Activation, Here, IsPlace, Place, extent}
use Rattle.lower_program.proofs.Parts.{reaches}
use Rattle.lower_program.proofs.Called.{call_follows}
use Rattle.lower_program.proofs.Statements.{AllFollowed, Followed, block_follows, get_follows, if_follows, keep_follows, leave_follows, loop_follows, mark_follows, put_follows, return_follows, set_follows, then_follows}

module _ (q : Low) (at : Place) (is_place : IsPlace q at) (act : Activation) (call : high.Calls) where
  mutual
    pub follows : (s : Statement) → IsSound q at call s → Followed q at is_place act call s
    follows (Set x e) h = set_follows q at is_place act call x e h
    follows (Put e) h = put_follows q at is_place act call e h
    follows (Get x) h = get_follows q at is_place act call x
    follows (Keep array i e) h = keep_follows q at is_place act call array i e h.0 h.1
    follows (Mark m) h = mark_follows q at is_place act call m
    follows (Seq parts) h = λ exits n t k st so_far r around fits here. all_follow parts h exits n t k st so_far r around fits here
    follows (If test first other) h = if_follows q at is_place act call test first other h.0 (follows first h.1.0) (follows other h.1.1)
    follows (Loop id least most body) h = loop_follows q at is_place act call id least most body (follows body h)
    follows (Block body) h = block_follows q at is_place act call body (follows body h)
    follows (Leave d) h = leave_follows q at is_place act call d
    follows (Call f values arrays into) h = call_follows q at is_place act call f values arrays into h.1 h.0
    follows (Return e) h = return_follows q at is_place act call e h

    pub all_follow : (ss : Statements) → AreSound q at call ss → AllFollowed q at is_place act call ss
    all_follow End h = λ exits n t k st so_far r around fits here. reaches q at act (extent n [] []) so_far (Here q at act k st) r here
    all_follow (Then first rest) h = then_follows q at is_place act call first rest (follows first h.0) (all_follow rest h.1)
