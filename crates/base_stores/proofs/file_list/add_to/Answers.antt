use Rattle.base_stores.proofs.FileListLaws.{add_back, same_back}
use Rattle.base_stores.proofs.file_list.add_to.Goals as goal

pub returns-in-Ok-clause-ok : goal.returns-in-Ok-clause-ok
returns-in-Ok-clause-ok c =
    let p = rw c.deref.ensures.value at c.in-Some.ensures.found in
    add_back _ _ _ _ _ _ c.index_mut.result.now c.extend_from_slice.new.self p c.index_mut.ensures.value c.in-Ok.ensures.items

pub returns-in-Err-clause-err : goal.returns-in-Err-clause-err
returns-in-Err-clause-err c =
    let p = rw c.deref.ensures.value at c.in-Some.ensures.found in
    same_back _ _ _ _ _ c.index_mut.result.now c.extend_from_slice.new.self p c.index_mut.ensures.value c.in-Err.ensures.items
